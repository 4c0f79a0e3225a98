use Rattle.std.specs.Prelude.{◌≡◌, not, filter, length}
use Rattle.std.specs.Map.{lookup}
use Rattle.std.proofs.Common.{rules, ap, ◌∙◌, arith}
use Rattle.indexmap.proofs.CallerLemmas.{filter-RetainsPairs}
use Rattle.etp_values.proofs.LookupLemmas.{lookup-filter}
use Rattle.array_store.specs.Table.{same_key, is_in_space}
use Rattle.array_store.proofs.CountLemmas.{counted}
use Rattle.array_store.proofs.KeyLemmas.{same_key-is}
use Rattle.array_store.proofs.table.drop_space.Goals as goal

pub returns-clause-each : goal.returns-clause-each
returns-clause-each c = λ q.
    let old = c.args.arrays.now.entries in
    let kept : c.retain.new.self.entries ≡ filter (λ e. not (is_in_space c.args.path.now e.0)) old = filter-RetainsPairs _ (λ e. not (is_in_space c.args.path.now e.0)) _ (λ k v b w g call. search rules) _ _ c.retain.ensures.filtered in
    ap (lookup (same_key q)) kept ∙ lookup-filter same_key (is_in_space c.args.path.now) (λ x y h. ap (is_in_space c.args.path.now) (same_key-is x y h)) q old

pub returns-clause-count : goal.returns-clause-count
returns-clause-count c =
    let old = c.args.arrays.now.entries in
    let kept : c.retain.new.self.entries ≡ filter (λ e. not (is_in_space c.args.path.now e.0)) old = filter-RetainsPairs _ (λ e. not (is_in_space c.args.path.now e.0)) _ (λ k v b w g call. search rules) _ _ c.retain.ensures.filtered in
    let sizes = counted (λ e. is_in_space c.args.path.now e.0) old in
    omega (arith, sizes, ap length kept)
