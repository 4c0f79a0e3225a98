use Rattle.std.proofs.Common.{◌≡◌, drop, fold}
use Rattle.tx_stage.specs.Standing.{object_stands}
use Rattle.tx_stage.proofs.standing.object_after.Given as goal

abbrev pub invariant-loop-op : goal.invariant-loop-op
invariant-loop-op l = fold (object_stands l.uri) l.stands (drop l.op-index l.ops) ≡ fold (object_stands l.uri) l.fn.before l.ops
