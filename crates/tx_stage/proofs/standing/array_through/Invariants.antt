use Rattle.std.proofs.Common.{◌≡◌, drop, fold}
use Rattle.std.specs.Option.{option_copied}
use Rattle.tx_stage.specs.Standing.{array_given}
use Rattle.tx_stage.proofs.standing.array_through.Given as goal

abbrev pub invariant-loop-op : goal.invariant-loop-op
invariant-loop-op l = fold (array_given l.key) l.made (drop l.op-index l.ops) ≡ fold (array_given l.key) (option_copied l.fn.before) l.ops
