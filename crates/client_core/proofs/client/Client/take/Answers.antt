use Rattle.std.proofs.Common.{ap, ◌∙◌}
use Rattle.client_core.specs.Taking.{hears, takes}
use Rattle.client_core.proofs.RefusalLemmas.{call_steps, hears_answers}
use Rattle.client_core.proofs.client.Client.take.Goals as goal

pub returns-in-Ok : goal.returns-in-Ok
returns-in-Ok c =
    let s = c.args.self.now in
    let bytes = c.args.bytes.now in
    call_steps c.in-Ok.answer (takes s bytes) s _ (hears_answers s.heard bytes) (c.in-Ok.ensures.answer ∙ ap (λ t. (hears t.heard bytes).result) c.self.view_is)
    ((λ j. record (c.self.view_is j) { heard = (c.in-Ok.ensures.state ∙ ap (λ t. (hears t.heard bytes).state) c.self.view_is) j }))
