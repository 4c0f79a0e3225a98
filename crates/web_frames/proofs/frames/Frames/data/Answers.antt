use Rattle.std.proofs.Common.{◌≡◌, ◌≤◌, subst, sym, ap, ◌∙◌, refl, None, drop, length, rules}
use denote.Enum.Bare.{same_true}
use Rattle.websocket.specs.contracts.protocol.frame.coding.Data.{the_type}
use Rattle.websocket.specs.declared.protocol.frame.coding.Data.{Data}
use Rattle.websocket.specs.declared.protocol.frame.coding.Data.TheVariants.{Binary}
use Rattle.web_frames.specs.declared.frames.Frame.{Frame}
use Rattle.web_frames.specs.Input.{bytes_of}
use Rattle.web_frames.specs.Reading.{Finds, Look, Reading, begun, on_data, on_payload, reading_of}
use Rattle.web_frames.proofs.LookLemmas.{on_data-is, on_data-whole, finds_message, same_reading}
use Rattle.web_frames.proofs.frames.Frames.data.Goals as goal

pub returns-then-length-come : goal.returns-then-length-come
returns-then-length-come c =
    let n = c.args.length in
    let rest = bytes_of c.take.new.self in
    let binary : c.args.kind ≡ Binary = same_true the_type (search rules) _ _ (sym c.if-eq.ensures) in
    let at_rest = c.take.ensures ∙ ap (λ n. drop n (bytes_of c.args.self.now.input)) c.len.ensures in
    let here : n ≤ length rest = subst (λ m. n ≤ m) c.len-come.ensures c.if-length-come.true in
    let whole = on_data-whole (reading_of c.args.self.now) c.args.header.now n rest c.if-header.true (sym c.if-is_short.ensures) at_rest here in
    let left = same_reading c.args.self.now.role c.args.self.now.context c.args.self.now.context (drop n rest) (drop n rest) None c.args.self.now.frame None None refl refl (sym c.requires) refl ∙ sym c.whole.ensures.left in
    subst (λ (k : Data). Finds (on_data (reading_of c.args.self.now) c.args.header.now n k) c.whole.result (reading_of c.whole.new.self)) (sym binary)
    (subst (λ (l : Look). Finds l c.whole.result (reading_of c.whole.new.self)) (sym whole)
    (finds_message _ c.whole.result _ (reading_of c.whole.new.self) c.whole.ensures.message left))

pub returns : goal.returns
returns c =
    let n = c.args.length in
    let at_rest = c.take.ensures ∙ ap (λ n. drop n (bytes_of c.args.self.now.input)) c.len.ensures in
    let begun_is = c.begin_message.ensures ∙ ap (λ i. record (reading_of c.args.self.now) { input = i; message = begun c.args.kind (reading_of c.args.self.now).message }) at_rest in
    let f : Frame = record { left = n; key = c.args.header.now.mask; is_final = c.args.header.now.is_final } in
    subst (λ (l : Look). Finds l c.go_on.result (reading_of c.go_on.new.self))
    (sym (on_data-is (reading_of c.args.self.now) c.args.header.now n c.args.kind ∙ ap (λ (r : Reading). on_payload r f) (sym begun_is))) c.go_on.ensures
