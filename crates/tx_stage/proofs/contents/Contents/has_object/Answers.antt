use Rattle.std.proofs.Common.{◌≡◌, fold, Option, ap, ◌∙◌}
use Rattle.std.specs.Prelude.{is_some}
use Rattle.object_store.specs.declared.records.ObjectRecord.{ObjectRecord}
use Rattle.object_store.specs.Tables.{object_in}
use Rattle.tx_stage.specs.declared.value.Value.TheVariants as value
use Rattle.tx_stage.specs.Standing.{object_stands}
use Rattle.tx_stage.proofs.StandingLemmas.{copied-some, object-stands}
use Rattle.tx_stage.proofs.contents.Contents.has_object.Goals as goal

pub returns : goal.returns
returns c =
    let uri = c.args.uri.now in
    let found = object_in c.args.self.now.objects uri in
    let before : c.is_some.result ≡ is_some found = c.is_some.ensures ∙ copied-some c.look.result ∙ ap (λ (o : Option ObjectRecord). is_some o) c.look.ensures.value in
    c.object_after.ensures ∙ (λ j. fold (object_stands uri) (before j) (c.as_slice.ensures.value j)) ∙ object-stands value.Object uri c.args.plan.now.objects.items found
