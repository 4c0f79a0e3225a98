use Rattle.std.proofs.Common.{◌<◌, ◌||◌, arith, ap, sym, ◌∙◌, subst}
use Rattle.std.specs.Prelude.{min}
use Rattle.std.specs.List.{list_any}
use Rattle.std.specs.Str.{bytes_eq}
use Rattle.indexmap.specs.IndexSet.{spare}
use Rattle.etp_values.specs.SameUri.{same_uri}
use Rattle.array_store.specs.Going.{Going, goes}
use Rattle.array_store.specs.Table.{is_of_object}
use Rattle.array_store.proofs.GatheredLemmas.{took-too, of-done}
use Rattle.array_store.proofs.going.GoingArrays.add_object.Goals as goal

pub returns-clause-each : goal.returns-clause-each
returns-clause-each c = λ key.
    let some : 0 < min (spare c.self.inside.objects) (spare c.self.inside.spaces) = subst (λ (g : Going). 0 < g.room) (sym c.self.view_is) c.requires in
    let added = of-done c.insert.result (c.insert.ensures.succeeds (omega (arith, some))) c.insert.ensures.updates in
    let others = list_any (bytes_eq key.uri.space) c.self.inside.spaces.keys in
    ap (λ b. b || others) (added.0 key.uri)
    ∙ took-too (same_uri c.args.uri key.uri) (list_any (same_uri key.uri) c.self.inside.objects.keys) others
    ∙ ap (λ (g : Going). is_of_object c.args.uri key || goes g key) c.self.view_is
