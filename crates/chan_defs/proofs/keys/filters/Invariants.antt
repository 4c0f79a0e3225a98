use Rattle.std.proofs.Common.{◌≡◌, ◌++◌, drop, option_map}
use Rattle.toml.specs.View.{items_view}
use Rattle.chan_defs.specs.Keys.{filters_of}
use Rattle.chan_defs.proofs.keys.filters.Given as goal

abbrev pub invariant-loop-item : goal.invariant-loop-item
invariant-loop-item l = option_map (λ ss. l.found.items ++ ss) (filters_of (items_view (drop l.item-index l.array.items))) ≡ filters_of (items_view l.array.items)
