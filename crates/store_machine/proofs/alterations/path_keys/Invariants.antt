use Rattle.std.proofs.Common.{◌≡◌, ◌++◌, drop, map}
use Rattle.tx_stage.specs.declared.key.Key.TheVariants.{Space}
use Rattle.store_machine.proofs.alterations.path_keys.Given as goal

abbrev pub invariant-loop-path : goal.invariant-loop-path
invariant-loop-path l = l.keys.items ++ map Space (drop l.path-index l.path-items) ≡ map Space l.paths
