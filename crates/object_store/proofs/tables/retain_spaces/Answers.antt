use Rattle.std.specs.Prelude.{◌≡◌, not, filter}
use Rattle.std.specs.Map.{lookup}
use Rattle.std.specs.Str.{bytes_eq}
use Rattle.std.proofs.Common.{rules, ap, ◌∙◌}
use Rattle.std.proofs.lemmas.Slice.Eq.{bytes_eq-Decides}
use Rattle.indexmap.proofs.CallerLemmas.{filter-RetainsPairs}
use Rattle.etp_values.proofs.LookupLemmas.{lookup-filter}
use Rattle.object_store.specs.Going.{goes}
use Rattle.object_store.proofs.tables.retain_spaces.Goals as goal

pub returns-clause-each : goal.returns-clause-each
returns-clause-each c = λ q.
    let old = c.args.spaces.now.entries in
    let going = c.args.going.now in
    let kept : c.retain.new.self.entries ≡ filter (λ e. not (goes going e.0)) old = filter-RetainsPairs _ (λ e. not (goes going e.0)) _ (λ k v b w g call. search rules) _ _ c.retain.ensures.filtered in
    ap (lookup (bytes_eq q)) kept ∙ lookup-filter bytes_eq (goes going) (λ x y h. ap (goes going) ((bytes_eq-Decides x y).0 h)) q old
