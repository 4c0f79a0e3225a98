use Rattle.std.proofs.Common.{◌≡◌, ◌++◌, drop}
use Rattle.std.specs.Prelude.{filter}
use Rattle.store_machine.specs.Dataspaces.{is_newer}
use Rattle.store_machine.proofs.spaces.copies.Given as goal

abbrev pub invariant-loop-dataspace : goal.invariant-loop-dataspace
invariant-loop-dataspace l = l.copies.items ++ filter (is_newer l.newer) (drop l.dataspace-index l.dataspaces) ≡ filter (is_newer l.newer) l.dataspaces
