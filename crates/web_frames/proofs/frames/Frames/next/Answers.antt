use Rattle.std.proofs.Common.{subst, sym, ap, ◌∙◌, refl, None}
use Rattle.websocket.specs.FrameHeader.{decode_header}
use Rattle.web_frames.specs.Input.{bytes_of}
use Rattle.web_frames.specs.Reading.{Answers, Finds, Look, Reading, look, on_header, on_payload, reading_of}
use Rattle.web_frames.proofs.LookLemmas.{look-some, look-none, on_payload-reply, answers_nothing, same_reading}
use Rattle.web_frames.proofs.frames.Frames.next.Goals as goal

pub returns-in-Some-clause-found : goal.returns-in-Some-clause-found
returns-in-Some-clause-found g c =
    let w = look-some (reading_of c.args.self.now) c.in-Some.frame (sym c.in-Some.ensures.value) in
    let r = same_reading c.args.self.now.role c.args.self.now.context c.args.self.now.context (bytes_of c.args.self.now.input) (bytes_of c.args.self.now.input) None c.take.new.self _ _ refl refl (sym c.take.ensures.after) refl in
    subst (λ (l : Look). Finds l c.go_on.result (reading_of c.go_on.new.self)) (sym (w ∙ ap (λ (r : Reading). on_payload r c.in-Some.frame) r)) c.go_on.ensures

pub returns-in-Some-clause-answered : goal.returns-in-Some-clause-answered
returns-in-Some-clause-answered g c =
    let w = look-some (reading_of c.args.self.now) c.in-Some.frame (sym c.in-Some.ensures.value) in
    answers_nothing (look (reading_of c.args.self.now)) c.go_on.result c.args.output.now.items c.args.output.now.items
    (ap (λ (l : Look). l.reply) w ∙ on_payload-reply (record (reading_of c.args.self.now) { frame = None }) c.in-Some.frame) refl

pub returns-in-None-clause-found : goal.returns-in-None-clause-found
returns-in-None-clause-found g c =
    let w = look-none (reading_of c.args.self.now) (sym c.in-None.ensures.value) in
    let r = same_reading c.args.self.now.role c.args.self.now.context c.args.self.now.context (bytes_of c.args.self.now.input) (bytes_of c.args.self.now.input) c.args.self.now.frame c.take.new.self _ _ refl refl (sym c.in-None.ensures.value ∙ sym c.take.ensures.after) refl in
    subst (λ (l : Look). Finds l c.begin.result (reading_of c.begin.new.self)) (sym (w ∙ ap (λ (r : Reading). on_header r (decode_header (bytes_of c.args.self.now.input))) r)) c.begin.ensures.found

pub returns-in-None-clause-answered : goal.returns-in-None-clause-answered
returns-in-None-clause-answered g c =
    let w = look-none (reading_of c.args.self.now) (sym c.in-None.ensures.value) in
    let r = same_reading c.args.self.now.role c.args.self.now.context c.args.self.now.context (bytes_of c.args.self.now.input) (bytes_of c.args.self.now.input) c.args.self.now.frame c.take.new.self _ _ refl refl (sym c.in-None.ensures.value ∙ sym c.take.ensures.after) refl in
    subst (λ (l : Look). Answers l c.begin.result c.args.output.now.items c.begin.new.output.items) (sym (w ∙ ap (λ (r : Reading). on_header r (decode_header (bytes_of c.args.self.now.input))) r)) c.begin.ensures.answered
