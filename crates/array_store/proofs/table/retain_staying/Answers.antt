use Rattle.std.specs.Prelude.{◌≡◌, not, filter}
use Rattle.std.specs.Map.{lookup}
use Rattle.std.proofs.Common.{rules, ap, ◌∙◌}
use Rattle.indexmap.proofs.CallerLemmas.{filter-RetainsPairs}
use Rattle.etp_values.proofs.LookupLemmas.{lookup-filter}
use Rattle.array_store.specs.Going.{goes}
use Rattle.array_store.specs.Table.{same_key}
use Rattle.array_store.proofs.KeyLemmas.{same_key-is}
use Rattle.array_store.proofs.table.retain_staying.Goals as goal

pub returns-clause-each : goal.returns-clause-each
returns-clause-each c = λ q.
    let old = c.args.arrays.now.entries in
    let going = c.args.going.now in
    let kept : c.retain.new.self.entries ≡ filter (λ e. not (goes going e.0)) old = filter-RetainsPairs _ (λ e. not (goes going e.0)) _ (λ k v b w g call. search rules) _ _ c.retain.ensures.filtered in
    ap (lookup (same_key q)) kept ∙ lookup-filter same_key (goes going) (λ x y h. ap (goes going) (same_key-is x y h)) q old
