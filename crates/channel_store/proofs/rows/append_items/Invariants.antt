use Rattle.std.proofs.Common.{◌≡◌, drop}
use Rattle.channel_store.specs.Sweeps.{shown_of, steps, append_item}
use Rattle.channel_store.proofs.rows.append_items.Given as goal

abbrev pub invariant-loop-item : goal.invariant-loop-item
invariant-loop-item l = record {
  answer : steps append_item l.tracks.items (drop l.item-index l.items) ≡ steps append_item l.fn.tracks.items l.items;
  kept : shown_of l.tracks.items ≡ shown_of l.fn.tracks.items;
}
