use Rattle.std.proofs.Common.{◌≡◌, drop}
use Rattle.channel_store.specs.Sweeps.{all_done, ids_of, AllAppending, AllDue}
use Rattle.channel_store.proofs.rows.commit_items.Given as goal

abbrev pub invariant-loop-item : goal.invariant-loop-item
invariant-loop-item l = record {
  done : all_done l.place l.at (ids_of (drop l.item-index l.items)) l.tracks.items ≡ all_done l.place l.at (ids_of l.items) l.fn.tracks.items;
  due : AllDue l.place l.tracks.items;
  appending : AllAppending l.tracks.items;
}
