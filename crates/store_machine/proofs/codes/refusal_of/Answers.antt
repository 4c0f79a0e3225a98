use Rattle.std.proofs.Common.{subst, Result}
use Rattle.channel_store.specs.declared.error.ChannelError.{ChannelError}
use Rattle.channel_store.specs.Refusals.{Refuses}
use Rattle.store_machine.proofs.LoadingLemmas.{refused-code, taken-code}
use Rattle.store_machine.proofs.codes.refusal_of.Goals as goal

pub returns-in-Ok : goal.returns-in-Ok
returns-in-Ok c = λ refusal h. taken-code refusal (subst (λ (r : Result (Unit {0}) ChannelError). Refuses r refusal) c.in-Ok.is h)

pub returns-in_ok-refusal_code-in-Err : goal.returns-in_ok-refusal_code-in-Err
returns-in_ok-refusal_code-in-Err c = λ refusal h. refused-code c.in-Err.error refusal _ (subst (λ (r : Result (Unit {0}) ChannelError). Refuses r refusal) c.in-Err.is h) c.in_ok-refusal_code-in-Err.ensures
