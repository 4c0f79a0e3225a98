use Rattle.std.proofs.Common.{◌≡◌, drop}
use Rattle.std.specs.List.{list_any}
use Rattle.std.specs.Ordering.{int_eq}
use Rattle.session_core.proofs.machine.rows.is_accepted.Given as goal

abbrev pub invariant-loop-other : goal.invariant-loop-other
invariant-loop-other l = list_any (int_eq l.protocol) (drop l.other-index l.accepted) ≡ list_any (int_eq l.protocol) l.accepted
