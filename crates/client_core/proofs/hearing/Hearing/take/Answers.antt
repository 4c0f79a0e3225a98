use Rattle.std.proofs.Common.{Err, IfOk, OnOk, ap, subst, sym, ◌≡◌, ◌∙◌}
use Rattle.etp_frame.proofs.FaultLemmas.{fault_not_memory}
use Rattle.client_core.proofs.TakeLemmas.{frame_refused, read_so}
use Rattle.client_core.proofs.hearing.Hearing.take.Goals as goal

pub returns-in_ok-cause-in-Err-clause-answer : goal.returns-in_ok-cause-in-Err-clause-answer
returns-in_ok-cause-in-Err-clause-answer c =
    let open_so = sym c.ended.ensures ∙ c.if-ended.false in
    let why = c.in-Err.ensures.gives (fault_not_memory c.in-Err.error c.in_ok-cause-in-Err.ensures.fault) in
    c.fail-in-Err.ensures.answer ∙ ap Err c.in_ok-cause-in-Err.ensures.value ∙ sym (ap (λ t. t.result) (frame_refused c.args.bytes.now c.in-Err.error c.args.self.now open_so why))

pub returns-in_ok-cause-in-Err-clause-state : goal.returns-in_ok-cause-in-Err-clause-state
returns-in_ok-cause-in-Err-clause-state c =
    let open_so = sym c.ended.ensures ∙ c.if-ended.false in
    let why = c.in-Err.ensures.gives (fault_not_memory c.in-Err.error c.in_ok-cause-in-Err.ensures.fault) in
    c.fail-in-Err.ensures.state ∙ sym (ap (λ t. t.state) (frame_refused c.args.bytes.now c.in-Err.error c.args.self.now open_so why))

pub returns-in-Ok-clause-answer : goal.returns-in-Ok-clause-answer
returns-in-Ok-clause-answer c =
    let open_so = sym c.ended.ensures ∙ c.if-ended.false in
    subst (λ t. IfOk c.on_read.result (λ a. a ≡ t.result)) (sym (read_so c.args.bytes.now c.in-Ok.header c.in-Ok.message c.args.self.now open_so c.in-Ok.ensures.gives)) c.on_read.ensures.answer

pub returns-in-Ok-clause-state : goal.returns-in-Ok-clause-state
returns-in-Ok-clause-state c =
    let open_so = sym c.ended.ensures ∙ c.if-ended.false in
    subst (λ t. OnOk c.on_read.result (c.on_read.new.self ≡ t.state)) (sym (read_so c.args.bytes.now c.in-Ok.header c.in-Ok.message c.args.self.now open_so c.in-Ok.ensures.gives)) c.on_read.ensures.state
