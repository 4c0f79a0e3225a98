use Rattle.std.proofs.Common.{◌≡◌, ◌++◌, ◌≤◌}
use Rattle.std.specs.Vec.Iter.{into_iter_items}
use Rattle.store_machine.specs.Reads.{whole_room}
use Rattle.store_machine.specs.Starts.{started}
use Rattle.store_machine.proofs.starts.starts.Given as goal

abbrev pub invariant-loop-name : goal.invariant-loop-name
invariant-loop-name l = record {
  starts : l.starts.items ++ started l.channels l.room (into_iter_items l.name-iterator) ≡ started l.channels whole_room l.fn.items.items;
  within : l.room.bytes ≤ 67108864;
}
