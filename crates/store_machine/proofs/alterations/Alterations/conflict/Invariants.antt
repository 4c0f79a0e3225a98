use Rattle.std.proofs.Common.{◌≡◌, List, drop}
use Rattle.store_machine.specs.declared.journal.Entry.{Entry}
use Rattle.store_machine.specs.Clash.{conflict, least}
use Rattle.store_machine.specs.Marking.{Marks}
use Rattle.store_machine.proofs.alterations.Alterations.conflict.Given as goal

abbrev pub invariant-loop-touch : goal.invariant-loop-touch
invariant-loop-touch l = (history : List Entry) → Marks l.self history → least l.first (conflict (drop l.touch-index l.touch-items) history) ≡ conflict l.touched history
