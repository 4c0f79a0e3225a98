use Rattle.std.proofs.Common.{subst, sym, ap, ◌∙◌, refl, []}
use Rattle.websocket.specs.Connection.{Connection, Sends, read_step}
use Rattle.web_frames.specs.declared.arrival.Arrival.{Arrival}
use Rattle.web_frames.specs.Input.{bytes_of}
use Rattle.web_frames.specs.Reading.{Answers, Finds, Look, Reading, on_control, reading_of, refusal_of}
use Rattle.web_frames.proofs.LookLemmas.{on_control-waits, read_leaves-waits, on_control-takes, on_control-answers, on_control-refused, on_control-unanswered, same_reading}
use Rattle.web_frames.proofs.frames.Frames.control.Goals as goal

pub returns-in-Ok-Partial-clause-found : goal.returns-in-Ok-Partial-clause-found
returns-in-Ok-Partial-clause-found g c =
    let a = rw c.in-Ok-Partial.field-0-is at c.in-Ok-Partial.ensures.returns in
    let b = rw c.in-Ok-Partial.field-0-is at c.in-Ok-Partial.ensures.keeps_rest in
    let w = on_control-waits (reading_of c.args.self.now) (read_step c.args.self.now.context (bytes_of c.args.self.now.input)) c.in-Ok-Partial.field-0-0 (bytes_of c.read_frame.new.self) a in
    let l = read_leaves-waits (read_step c.args.self.now.context (bytes_of c.args.self.now.input)) c.in-Ok-Partial.field-0-0 (bytes_of c.read_frame.new.self) c.args.output.now.items c.read_frame.new.output.items c.args.self.now.context c.read_frame.new.context a c.in-Ok-Partial.ensures.leaves in (
      ap (λ (l : Look). l.found) w,
      ap (λ (l : Look). l.next) w ∙ same_reading c.args.self.now.role _ _ _ _ _ _ _ _ (sym l.0) (sym b) refl refl,
    )

pub returns-in-Ok-Partial-clause-answered : goal.returns-in-Ok-Partial-clause-answered
returns-in-Ok-Partial-clause-answered g c =
    let a = rw c.in-Ok-Partial.field-0-is at c.in-Ok-Partial.ensures.returns in
    let w = on_control-waits (reading_of c.args.self.now) (read_step c.args.self.now.context (bytes_of c.args.self.now.input)) c.in-Ok-Partial.field-0-0 (bytes_of c.read_frame.new.self) a in
    let l = read_leaves-waits (read_step c.args.self.now.context (bytes_of c.args.self.now.input)) c.in-Ok-Partial.field-0-0 (bytes_of c.read_frame.new.self) c.args.output.now.items c.read_frame.new.output.items c.args.self.now.context c.read_frame.new.context a c.in-Ok-Partial.ensures.leaves in
    subst (λ (l : Look). Sends l.next.connection.role l.reply c.args.output.now.items c.read_frame.new.output.items) (sym w) l.1

pub returns-in-Ok-Complete-clause-found : goal.returns-in-Ok-Complete-clause-found
returns-in-Ok-Complete-clause-found g c =
    let a = rw c.in-Ok-Complete.field-0-is at c.in-Ok-Complete.ensures.returns in
    let b = rw c.in-Ok-Complete.field-0-is at c.in-Ok-Complete.ensures.keeps_rest in
    let x = read_step c.args.self.now.context (bytes_of c.args.self.now.input) in
    subst (λ (a : Arrival). Finds (on_control (reading_of c.args.self.now) x) a (record (reading_of c.args.self.now) { connection = c.read_frame.new.context; input = bytes_of c.take.new.self })) (sym c.controlled.ensures)
    (on_control-takes (reading_of c.args.self.now) x c.in-Ok-Complete.step (bytes_of c.read_frame.new.self) (bytes_of c.take.new.self) c.args.output.now.items c.read_frame.new.output.items c.read_frame.new.context a c.in-Ok-Complete.ensures.leaves (c.take.ensures ∙ b.1))

pub returns-in-Ok-Complete-clause-answered : goal.returns-in-Ok-Complete-clause-answered
returns-in-Ok-Complete-clause-answered g c =
    let a = rw c.in-Ok-Complete.field-0-is at c.in-Ok-Complete.ensures.returns in
    let x = read_step c.args.self.now.context (bytes_of c.args.self.now.input) in
    subst (λ (a : Arrival). Answers (on_control (reading_of c.args.self.now) x) a c.args.output.now.items c.read_frame.new.output.items) (sym c.controlled.ensures)
    (on_control-answers (reading_of c.args.self.now) x c.in-Ok-Complete.step (bytes_of c.read_frame.new.self) c.args.output.now.items c.read_frame.new.output.items c.read_frame.new.context a c.in-Ok-Complete.ensures.leaves)

pub returns-in-Err-clause-found : goal.returns-in-Err-clause-found
returns-in-Err-clause-found g c =
    let x = read_step c.args.self.now.context (bytes_of c.args.self.now.input) in
    let known = c.forget.ensures ∙ ap (λ (k : Connection). record (reading_of c.args.self.now) { connection = k; input = [] }) c.in-Err.ensures.err_state in
    subst (λ (a : Arrival). Finds (on_control (reading_of c.args.self.now) x) a (reading_of c.forget.new.self)) (sym c.refused.ensures)
    (subst (λ (r : Reading). Finds (on_control (reading_of c.args.self.now) x) (refusal_of c.in-Err.error) r) (sym known)
    (on_control-refused (reading_of c.args.self.now) x c.in-Err.error c.in-Err.ensures.err))

pub returns-in-Err-clause-answered : goal.returns-in-Err-clause-answered
returns-in-Err-clause-answered g c =
    let x = read_step c.args.self.now.context (bytes_of c.args.self.now.input) in
    subst (λ (a : Arrival). Answers (on_control (reading_of c.args.self.now) x) a c.args.output.now.items c.read_frame.new.output.items) (sym c.refused.ensures)
    (on_control-unanswered (reading_of c.args.self.now) x c.in-Err.error c.args.output.now.items c.read_frame.new.output.items c.in-Err.ensures.err c.in-Err.ensures.err_output)
