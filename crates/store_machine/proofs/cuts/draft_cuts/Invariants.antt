use Rattle.std.specs.Vec.Iter.{into_iter_items}
use Rattle.store_machine.specs.Loads.{CutDrafting}
use Rattle.store_machine.proofs.cuts.draft_cuts.Given as goal

abbrev pub invariant-loop-name : goal.invariant-loop-name
invariant-loop-name l = CutDrafting l.channels (into_iter_items l.name-iterator) l.fn.items.items l.draft.verdicts.items l.draft.accepted.items l.draft.named.items
