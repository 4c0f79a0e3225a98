use Rattle.std.specs.Prelude.{◌≡◌, not, filter}
use Rattle.std.specs.Map.{lookup}
use Rattle.std.specs.Str.{bytes_eq}
use Rattle.std.proofs.Common.{rules, ap, ◌∙◌}
use Rattle.indexmap.proofs.CallerLemmas.{filter-RetainsPairs}
use Rattle.etp_values.specs.SameUri.{same_uri, same_uri-is}
use Rattle.etp_values.proofs.LookupLemmas.{lookup-filter}
use Rattle.object_store.proofs.tables.drop_objects_in.Goals as goal

pub returns-clause-each : goal.returns-clause-each
returns-clause-each c = λ q.
    let kept : c.retain.new.self.entries ≡ filter (λ e. not (bytes_eq e.0.space c.args.path.now)) c.args.objects.now.entries =
    filter-RetainsPairs _ (λ e. not (bytes_eq e.0.space c.args.path.now)) _ (λ k v b w g call. search rules) _ _ c.retain.ensures.filtered in
    ap (lookup (same_uri q)) kept
    ∙ lookup-filter same_uri (λ u. bytes_eq u.space c.args.path.now) (λ x y h. ap (λ u. bytes_eq u.space c.args.path.now) (same_uri-is x y h)) q c.args.objects.now.entries
