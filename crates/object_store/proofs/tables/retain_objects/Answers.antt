use Rattle.std.specs.Prelude.{◌≡◌, not, filter}
use Rattle.std.specs.Map.{lookup}
use Rattle.std.proofs.Common.{rules, ap, ◌∙◌}
use Rattle.indexmap.proofs.CallerLemmas.{filter-RetainsPairs}
use Rattle.etp_values.specs.declared.uri.StoreUri.{StoreUri}
use Rattle.etp_values.specs.SameUri.{same_uri, same_uri-is}
use Rattle.etp_values.proofs.LookupLemmas.{lookup-filter}
use Rattle.object_store.specs.Going.{goes}
use Rattle.object_store.proofs.tables.retain_objects.Goals as goal

pub returns-clause-each : goal.returns-clause-each
returns-clause-each c = λ q.
    let old = c.args.objects.now.entries in
    let going = c.args.going.now in
    let kept : c.retain.new.self.entries ≡ filter (λ e. not (goes going e.0.space)) old = filter-RetainsPairs _ (λ e. not (goes going e.0.space)) _ (λ k v b w g call. search rules) _ _ c.retain.ensures.filtered in
    ap (lookup (same_uri q)) kept ∙ lookup-filter same_uri (λ (u : StoreUri). goes going u.space) (λ x y h. ap (λ (u : StoreUri). goes going u.space) (same_uri-is x y h)) q old
