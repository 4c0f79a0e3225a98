use Rattle.std.proofs.Common.{Some, [], ap, w64, ◌++◌, ◌∙◌, ◌∷◌}
use Rattle.std.proofs.lemmas.Int.{to_z-of_z}
use Rattle.client_core.specs.Asking.{asked_under}
use Rattle.client_core.specs.Messages.{request_message}
use Rattle.client_core.specs.declared.state.Due.TheVariants as due
use Rattle.client_core.proofs.AskLemmas.{begun_so, first_fits}
use Rattle.client_core.proofs.client.Client.begin.Goals as goal

pub numbered-requires : goal.numbered-requires
numbered-requires c =
    first_fits c.in_ok-message.message c.as_slice.result.now (c.as_slice.ensures.value ∙ c.in_ok-push.ensures.items ∙ ap (λ l. l ++ c.in_ok-message.message ∷ []) c.new-messages.ensures.items)

pub returns : goal.returns
returns c =
    begun_so c.args.moment c.in_ok-message.message c.as_slice.result.now c.add.new.self c.in_ok-out.out.items c.new.result (c.in_ok-message.ensures ∙ ap request_message (to_z-of_z w64 c.args.moment c.ranges.moment))
    (c.as_slice.ensures.value ∙ c.in_ok-push.ensures.items ∙ ap (λ l. l ++ c.in_ok-message.message ∷ []) c.new-messages.ensures.items) (c.in_ok-add.ensures ∙ ap (λ l. l ++ asked_under 2 (Some due.Session)) c.new-asks.ensures) c.in_ok-out.ensures c.new.ensures
