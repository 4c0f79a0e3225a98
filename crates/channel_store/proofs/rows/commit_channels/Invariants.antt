use Rattle.std.proofs.Common.{◌≡◌}
use Rattle.std.specs.Vec.Iter.{into_iter_items}
use Rattle.channel_store.specs.Sweeps.{all_done, ids_ready, AllDue, AreReady}
use Rattle.channel_store.proofs.rows.commit_channels.Given as goal

abbrev pub invariant-loop-ready : goal.invariant-loop-ready
invariant-loop-ready l = record {
  done : all_done l.place l.at (ids_ready (into_iter_items l.ready-iterator)) l.tracks.items ≡ all_done l.place l.at (ids_ready l.fn.readies.items) l.fn.tracks.items;
  due : AllDue l.place l.tracks.items;
  ready : AreReady l.tracks.items (into_iter_items l.ready-iterator);
}
