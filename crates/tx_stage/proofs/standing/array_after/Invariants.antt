use Rattle.std.proofs.Common.{◌≡◌, drop, fold}
use Rattle.tx_stage.specs.Standing.{array_stands}
use Rattle.tx_stage.proofs.standing.array_after.Given as goal

abbrev pub invariant-loop-op : goal.invariant-loop-op
invariant-loop-op l = fold (array_stands l.key) l.stands (drop l.op-index l.ops) ≡ fold (array_stands l.key) l.fn.before l.ops
