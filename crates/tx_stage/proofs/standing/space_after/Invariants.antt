use Rattle.std.proofs.Common.{◌≡◌, drop, fold}
use Rattle.tx_stage.specs.Standing.{space_stands}
use Rattle.tx_stage.proofs.standing.space_after.Given as goal

abbrev pub invariant-loop-op : goal.invariant-loop-op
invariant-loop-op l = fold (space_stands l.path) l.stands (drop l.op-index l.ops) ≡ fold (space_stands l.path) l.fn.before l.ops
