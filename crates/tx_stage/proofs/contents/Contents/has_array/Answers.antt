use Rattle.std.proofs.Common.{◌≡◌, fold, Option, ap, ◌∙◌}
use Rattle.std.specs.Prelude.{is_some}
use Rattle.array_store.specs.declared.record.ArrayRecord.{ArrayRecord}
use Rattle.array_store.specs.Table.{array_in}
use Rattle.tx_stage.specs.declared.value.Value.TheVariants as value
use Rattle.tx_stage.specs.Standing.{array_stands}
use Rattle.tx_stage.proofs.StandingLemmas.{copied-some, array-stands}
use Rattle.tx_stage.proofs.contents.Contents.has_array.Goals as goal

pub returns : goal.returns
returns c =
    let key = c.args.key.now in
    let found = array_in c.args.self.now.arrays key in
    let before : c.is_some.result ≡ is_some found = c.is_some.ensures ∙ copied-some c.get.result ∙ ap (λ (o : Option ArrayRecord). is_some o) c.get.ensures in
    c.array_after.ensures ∙ (λ j. fold (array_stands key) (before j) (c.as_slice.ensures.value j)) ∙ array-stands value.Array key c.args.plan.now.arrays.items found
