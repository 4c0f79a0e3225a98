use Rattle.std.proofs.Common.{sym, ap, subst, ◌∙◌}
use Rattle.channel_store.specs.Refusals.{Refuses, append_refusal}
use Rattle.channel_store.specs.Sweeps.{shown_of}
use Rattle.channel_store.specs.Tables.{IsStore}
use Rattle.channel_store.proofs.store.ChannelStore.test_append.Goals as goal

pub invariant_of-self : goal.invariant_of-self
invariant_of-self c = subst (IsStore c.self.inside.ids.entries) (sym c.test_append.ensures.same) c.self.invariant

pub returns-clause-answer : goal.returns-clause-answer
returns-clause-answer c = subst (Refuses c.test_append.result) (λ j. append_refusal (c.self.view_is j) (c.as_slice.ensures j)) c.test_append.ensures.answer

pub returns-clause-same : goal.returns-clause-same
returns-clause-same c = ap shown_of c.test_append.ensures.same ∙ c.self.view_is
