use Rattle.std.proofs.Common.{List}
use Rattle.std.specs.Vec.Iter.{into_iter_items}
use Rattle.store_machine.specs.History.{Change, Operate}
use Rattle.store_machine.specs.Kept.{Holds, Drafting}
use Rattle.store_machine.proofs.draft.draft_ops.Given as goal

abbrev pub invariant-loop-name : goal.invariant-loop-name
invariant-loop-name l = (sofar : List Change) → Holds l.contents sofar
    → Drafting Operate l.contents sofar (into_iter_items l.name-iterator) l.fn.items.items l.draft.verdicts.items l.draft.accepted.items l.draft.plan
