use Rattle.std.proofs.Common.{◌≡◌, drop}
use Rattle.std.specs.List.{list_any}
use Rattle.tx_stage.specs.Patching.{concerns}
use Rattle.tx_stage.proofs.patching.is_concerned.Given as goal

abbrev pub invariant-loop-op : goal.invariant-loop-op
invariant-loop-op l = list_any (concerns l.key) (drop l.op-index l.ops) ≡ list_any (concerns l.key) l.ops
