use Rattle.std.proofs.Common.{subst, sym, ap, ◌∙◌, refl, min, None, Ok, drop}
use Rattle.std.specs.Prelude.{option_map}
use Rattle.web_frames.specs.declared.arrival.Arrival.{Arrival}
use Rattle.web_frames.specs.Input.{bytes_of}
use Rattle.web_frames.specs.Messages.{added, shown}
use Rattle.web_frames.specs.Reading.{Finds, Look, Reading, on_added, on_payload, reading_of, unadded_found}
use Rattle.web_frames.proofs.LookLemmas.{on_payload-none, on_payload-some, finds_unadded, reading, same_reading}
use Rattle.web_frames.proofs.frames.Frames.go_on.Goals as goal

pub returns-in_default : goal.returns-in_default
returns-in_default c =
    let none = ap (option_map shown) (sym c.in_default.ensures.value) in
    let w = on_payload-none (reading_of c.args.self.now) c.args.frame none in (
      ap (λ (l : Look). l.found) w,
      ap (λ (l : Look). l.next) w ∙ same_reading c.args.self.now.role _ _ _ _ _ _ _ _ refl refl (sym c.requires) (none ∙ sym (ap (option_map shown) c.take.ensures.after)),
    )

pub returns-in-Ok : goal.returns-in-Ok
returns-in-Ok c =
    let n = c.least-count.result in
    let some = ap (option_map shown) (sym c.in-Some.ensures.value) in
    let w = on_payload-some (reading_of c.args.self.now) c.args.frame (shown c.in-Some.coming) n some (c.least-count.ensures ∙ ap (min c.args.frame.left) c.len.ensures) in
    let piece = ap (added (shown c.in-Some.coming)) (sym (c.front.ensures ∙ c.unmask.ensures.front)) ∙ c.in-Ok.ensures in
    let left = same_reading c.args.self.now.role c.args.self.now.context c.args.self.now.context (bytes_of c.take-2.new.self) (drop n (bytes_of c.args.self.now.input)) c.args.self.now.frame None (option_map shown c.take.new.self) None refl (c.take-2.ensures ∙ c.unmask.ensures.rest) c.requires (ap (option_map shown) c.take.ensures.after) in
    let whole = w ∙ ap (on_added (record (reading_of c.args.self.now) { input = drop n (bytes_of c.args.self.now.input); frame = None; message = None }) c.args.frame n) piece ∙ ap (λ (r : Reading). on_added r c.args.frame n (Ok (shown c.add-added.new.self))) (sym left) in
    subst (λ (l : Look). Finds l c.after_piece.result (reading_of c.after_piece.new.self)) (sym whole) c.after_piece.ensures

pub returns-in-Err : goal.returns-in-Err
returns-in-Err c =
    let n = c.least-count.result in
    let some = ap (option_map shown) (sym c.in-Some.ensures.value) in
    let rest : Reading = record (reading_of c.args.self.now) { input = drop n (bytes_of c.args.self.now.input); frame = None; message = None } in
    let w = on_payload-some (reading_of c.args.self.now) c.args.frame (shown c.in-Some.coming) n some (c.least-count.ensures ∙ ap (min c.args.frame.left) c.len.ensures) in
    let piece = ap (added (shown c.in-Some.coming)) (sym (c.front.ensures ∙ c.unmask.ensures.front)) in
    let left = same_reading c.args.self.now.role c.args.self.now.context c.args.self.now.context (bytes_of c.take-2.new.self) (drop n (bytes_of c.args.self.now.input)) c.args.self.now.frame None (option_map shown c.take.new.self) None refl (c.take-2.ensures ∙ c.unmask.ensures.rest) c.requires (ap (option_map shown) c.take.ensures.after) in
    let after : Reading = reading c.args.self.now.role c.args.self.now.context (bytes_of c.take-2.new.self) c.args.self.now.frame (option_map shown c.take.new.self) in
    let whole = w ∙ ap (on_added rest c.args.frame n) piece in
    subst (λ (a : Arrival). Finds (on_payload (reading_of c.args.self.now) c.args.frame) a after) (sym c.unadded.ensures)
    (subst (λ (l : Look). Finds l (unadded_found c.in-Err.why) after) (sym whole)
    (subst (λ (r : Reading). Finds (on_added rest c.args.frame n (added (shown c.in-Some.coming) c.front.result.now)) (unadded_found c.in-Err.why) r) (sym left)
    (finds_unadded rest c.args.frame n (added (shown c.in-Some.coming) c.front.result.now) c.in-Err.why (shown c.add-added.new.self) c.in-Err.ensures)))
