use Rattle.std.proofs.Common.{List}
use Rattle.std.specs.Vec.Iter.{into_iter_items}
use Rattle.tx_stage.specs.declared.contents.Contents.{Contents}
use Rattle.store_machine.specs.History.{Change, set_space}
use Rattle.store_machine.specs.Kept.{Holds, Drafting}
use Rattle.store_machine.proofs.draft.draft_puts.Given as goal

abbrev pub invariant-loop-name : goal.invariant-loop-name
invariant-loop-name l = (t : Contents) (sofar : List Change) → Holds t sofar
    → Drafting (set_space l.at) t sofar (into_iter_items l.name-iterator) l.fn.items.items l.draft.verdicts.items l.draft.accepted.items l.draft.plan
