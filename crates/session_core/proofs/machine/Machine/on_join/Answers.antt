use Rattle.std.proofs.Common.{◌∙◌, ap, sym}
use Rattle.etp_frame.specs.Joining.{joins}
use Rattle.etp_frame.proofs.FaultLemmas.{join_fault_not_memory}
use Rattle.etp_frame.specs.declared.message.Message.TheVariants as message
use Rattle.session_core.specs.Arriving.{request_of}
use Rattle.session_core.specs.Machine.{join_code, refuses}
use Rattle.session_core.proofs.JoiningLemmas.{refused}
use Rattle.session_core.proofs.machine.Machine.on_join.Goals as goal

pub returns-in_ok-refuse-in-Err-clause-call : goal.returns-in_ok-refuse-in-Err-clause-call
returns-in_ok-refuse-in-Err-clause-call c =
    let s = c.args.self.now in
    let h = c.args.header.now in
    let e = c.in-Err.error in
    let why = ap (λ j. joins j h (message.Store c.args.message)) (ap (λ t. t.joiner) (sym c.self.view_is)) ∙ ap (λ m. joins c.self.inside.joiner h (message.Store m)) (sym c.in_ok-new.ensures) ∙ c.in-Err.ensures.answer (join_fault_not_memory e c.in_ok-code-in-Err.ensures.fault) in
    sym (ap (λ t. t.call) (refused h c.args.moment c.args.message e s why))

pub returns-in_ok-refuse-in-Err-clause-state : goal.returns-in_ok-refuse-in-Err-clause-state
returns-in_ok-refuse-in-Err-clause-state c =
    let s = c.args.self.now in
    let h = c.args.header.now in
    let e = c.in-Err.error in
    let j = c.add.new.self in
    let why = ap (λ j. joins j h (message.Store c.args.message)) (ap (λ t. t.joiner) (sym c.self.view_is)) ∙ ap (λ m. joins c.self.inside.joiner h (message.Store m)) (sym c.in_ok-new.ensures) ∙ c.in-Err.ensures.answer (join_fault_not_memory e c.in_ok-code-in-Err.ensures.fault) in
    c.in_ok-refuse-in-Err.ensures
    ∙ ap (λ t. refuses c.request_of.result c.in_ok-code-in-Err.code (record t { joiner = j })) c.self.view_is
    ∙ ap (λ r. refuses r c.in_ok-code-in-Err.code (record s { joiner = j })) c.request_of.ensures
    ∙ ap (λ k. refuses (request_of h) k (record s { joiner = j })) c.in_ok-code-in-Err.ensures.value
    ∙ ap (λ w. refuses (request_of h) (join_code e) (record s { joiner = w })) c.in-Err.ensures.empty
    ∙ sym (ap (λ t. t.state) (refused h c.args.moment c.args.message e s why))
