use Rattle.std.proofs.Common.{ap, w64, ◌∙◌}
use Rattle.std.proofs.lemmas.Int.{to_z-of_z}
use Rattle.client_core.specs.Asking.{asked}
use Rattle.client_core.proofs.AskLemmas.{asked_answers}
use Rattle.client_core.proofs.RefusalLemmas.{call_steps}
use Rattle.client_core.proofs.client.Client.ask.Goals as goal

pub returns-in-Ok : goal.returns-in-Ok
returns-in-Ok c =
    let s = c.args.self.now in
    let a = c.args.ask in
    let moment = to_z-of_z w64 c.args.moment c.ranges.moment in
    call_steps c.in-Ok.answer (asked s a c.args.moment) s c.try_ask.new.self (asked_answers s a c.args.moment) (c.in-Ok.ensures.answer ∙ ap (λ z. (asked s a z).result) moment)
    (c.in-Ok.ensures.state ∙ ap (λ z. (asked s a z).state) moment)
