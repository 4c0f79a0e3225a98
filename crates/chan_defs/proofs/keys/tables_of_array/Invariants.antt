use Rattle.std.proofs.Common.{◌≡◌, ◌++◌, drop, map, option_map}
use Rattle.toml.specs.View.{items_view, table_view}
use Rattle.chan_defs.specs.Keys.{tables_in}
use Rattle.chan_defs.proofs.keys.tables_of_array.Given as goal

abbrev pub invariant-loop-item : goal.invariant-loop-item
invariant-loop-item l =
    option_map (λ ts. map (λ t. table_view t.now) l.found.items ++ ts) (tables_in (items_view (drop l.item-index l.array.items))) ≡ tables_in (items_view l.array.items)
