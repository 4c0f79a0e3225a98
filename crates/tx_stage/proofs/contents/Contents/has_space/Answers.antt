use Rattle.std.proofs.Common.{◌≡◌, fold, Option, ap, ◌∙◌}
use Rattle.std.specs.Prelude.{is_some}
use Rattle.object_store.specs.declared.records.SpaceRecord.{SpaceRecord}
use Rattle.object_store.specs.Tables.{space_in}
use Rattle.tx_stage.specs.declared.value.Value.TheVariants as value
use Rattle.tx_stage.specs.Standing.{space_stands}
use Rattle.tx_stage.proofs.StandingLemmas.{copied-some, space-stands}
use Rattle.tx_stage.proofs.contents.Contents.has_space.Goals as goal

pub returns : goal.returns
returns c =
    let path = c.args.path.now in
    let found = space_in c.args.self.now.objects path in
    let before : c.is_some.result ≡ is_some found = c.is_some.ensures ∙ copied-some c.space.result ∙ ap (λ (o : Option SpaceRecord). is_some o) c.space.ensures.value in
    c.space_after.ensures ∙ (λ j. fold (space_stands path) (before j) (c.as_slice.ensures.value j)) ∙ space-stands value.Space path c.args.plan.now.objects.items found
