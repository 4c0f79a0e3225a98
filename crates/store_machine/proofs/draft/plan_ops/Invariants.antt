use Rattle.std.proofs.Common.{drop}
use Rattle.store_machine.specs.Kept.{PlansOn}
use Rattle.store_machine.proofs.draft.plan_ops.Given as goal

abbrev pub invariant-loop-op : goal.invariant-loop-op
invariant-loop-op l = PlansOn l.contents l.plan (drop l.op-index l.op-items) l.ops
