use Rattle.std.proofs.Common.{◌≡◌, sym, ap, subst, ◌∙◌, w64, to_z, of_z}
use Rattle.std.proofs.lemmas.Int.{to_z-of_z}
use Rattle.channel_store.specs.Refusals.{Refuses, replace_refusal}
use Rattle.channel_store.specs.Sweeps.{shown_of}
use Rattle.channel_store.specs.Tables.{IsStore}
use Rattle.channel_store.proofs.store.ChannelStore.test_replace.Goals as goal

pub invariant_of-self : goal.invariant_of-self
invariant_of-self c = subst (IsStore c.self.inside.ids.entries) (sym c.test_replace.ensures.same) c.self.invariant

pub returns-clause-answer : goal.returns-clause-answer
returns-clause-answer c =
    let from : to_z w64 (of_z w64 c.args.from) ≡ c.args.from = to_z-of_z w64 c.args.from c.ranges.from in
    let to : to_z w64 (of_z w64 c.args.to) ≡ c.args.to = to_z-of_z w64 c.args.to c.ranges.to in
    subst (Refuses c.test_replace.result) (λ j. replace_refusal (c.self.view_is j) (c.as_slice.ensures j) (from j) (to j) (c.as_slice-2.ensures j)) c.test_replace.ensures.answer

pub returns-clause-same : goal.returns-clause-same
returns-clause-same c = ap shown_of c.test_replace.ensures.same ∙ c.self.view_is
