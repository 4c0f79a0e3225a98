use Rattle.std.proofs.Common.{◌≡◌, ◌++◌, map}
use Rattle.std.specs.Vec.Iter.{into_iter_items}
use Rattle.session_rows.specs.Dataspaces.{dataspace_of}
use Rattle.session_rows.proofs.dataspaces.listed.Given as goal

abbrev pub invariant-loop-space : goal.invariant-loop-space
invariant-loop-space l = l.dataspaces.items ++ map dataspace_of (into_iter_items l.space-iterator) ≡ map dataspace_of l.fn.records
