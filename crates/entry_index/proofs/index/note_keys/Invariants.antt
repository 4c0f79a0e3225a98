use Rattle.std.proofs.Common.{◌≤◌, ◌+◌, length}
use Rattle.std.specs.Vec.Iter.{into_iter_items}
use Rattle.indexmap.specs.IndexMap.{spare}
use Rattle.entry_index.proofs.IndexLemmas.{Noting}
use Rattle.entry_index.proofs.index.note_keys.Given as goal

abbrev pub invariant-loop-key : goal.invariant-loop-key
invariant-loop-key g l = record {
  noting : Noting g.K.PartialEq.eq l.place l.fn.latest.entries l.fn.chains.chains l.fn.keys l.latest.entries l.chains.chains (into_iter_items l.key-iterator);
  latest_enough : length (into_iter_items l.key-iterator) ≤ spare l.latest;
  chains_enough : length (into_iter_items l.key-iterator) ≤ l.chains.spare;
  latest_used : spare l.fn.latest + length (into_iter_items l.key-iterator) ≤ spare l.latest + length l.fn.keys;
  chains_used : l.fn.chains.spare + length (into_iter_items l.key-iterator) ≤ l.chains.spare + length l.fn.keys;
}
