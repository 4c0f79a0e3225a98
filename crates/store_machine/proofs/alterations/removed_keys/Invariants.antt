use Rattle.std.proofs.Common.{◌≡◌, ◌++◌, drop, map}
use Rattle.std.specs.List.{flat_map}
use Rattle.store_machine.specs.History.{Operate}
use Rattle.store_machine.specs.Marking.{whole_keys}
use Rattle.store_machine.proofs.alterations.removed_keys.Given as goal

abbrev pub invariant-loop-op : goal.invariant-loop-op
invariant-loop-op l = l.keys.items ++ flat_map whole_keys (map Operate (drop l.op-index l.op-items)) ≡ flat_map whole_keys (map Operate l.ops)
