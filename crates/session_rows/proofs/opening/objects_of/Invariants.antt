use Rattle.std.proofs.Common.{◌≡◌, ◌++◌, drop, Some}
use Rattle.session_rows.specs.Opening.{data_objects}
use Rattle.session_rows.proofs.opening.objects_of.Given as goal

abbrev pub invariant-loop-name : goal.invariant-loop-name
invariant-loop-name l = l.all.items ++ data_objects (Some (drop l.name-index l.types)) ≡ data_objects (Some l.types)
