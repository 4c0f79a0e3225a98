use Rattle.std.proofs.Common.{Err, ap, sym, ◌∙◌}
use Rattle.etp_frame.specs.Joining.{joins}
use Rattle.etp_frame.proofs.FaultLemmas.{join_fault_not_memory}
use Rattle.client_core.specs.declared.state.Phase.TheVariants as phase
use Rattle.client_core.proofs.TakeLemmas.{join_refused}
use Rattle.client_core.proofs.hearing.Hearing.on_objects.Goals as goal

pub returns-in_ok-cause-in-Err-clause-answer : goal.returns-in_ok-cause-in-Err-clause-answer
returns-in_ok-cause-in-Err-clause-answer c =
    let s = c.args.self.now in
    let h = c.args.header.now in
    let m = c.args.message in
    let e = c.in-Err.error in
    let why = ap (λ j. joins j h m) (ap (λ t. t.joiner) (sym c.self.view_is)) ∙ c.in-Err.ensures.answer (join_fault_not_memory e c.in_ok-cause-in-Err.ensures.fault) in
    c.fail.ensures.answer ∙ ap Err c.in_ok-cause-in-Err.ensures.value ∙ sym (ap (λ t. t.result) (join_refused h m e s why))

pub returns-in_ok-cause-in-Err-clause-state : goal.returns-in_ok-cause-in-Err-clause-state
returns-in_ok-cause-in-Err-clause-state c =
    let s = c.args.self.now in
    let h = c.args.header.now in
    let m = c.args.message in
    let e = c.in-Err.error in
    let why = ap (λ j. joins j h m) (ap (λ t. t.joiner) (sym c.self.view_is)) ∙ c.in-Err.ensures.answer (join_fault_not_memory e c.in_ok-cause-in-Err.ensures.fault) in
    c.fail.ensures.state
    ∙ ap (λ t. record (record t { joiner = c.add.new.self }) { phase = phase.Ended }) c.self.view_is
    ∙ ap (λ w. record (record s { joiner = w }) { phase = phase.Ended }) c.in-Err.ensures.empty
    ∙ sym (ap (λ t. t.state) (join_refused h m e s why))
