use Rattle.std.proofs.Common.{◌≡◌, ◌-◌, ◌<◌, ◌≤◌, ℕ, List, [], Some}
use Rattle.journal_file.specs.Opening.{IsRead, Rested}
use Rattle.journal_file.proofs.opening.read_blocks.Given as goal

-- the blocks so far, and the gate behind them
abbrev pub invariant-loop-walk : goal.invariant-loop-walk
invariant-loop-walk g l = record {
  inside : l.walk.gate < l.end;
  read : (f : List ℕ) → g.D.Disk.seen l.fn.disk ≡ Some f → IsRead f [] 24 l.byte → IsRead f l.walk.spellings.items l.walk.gate l.walk.byte;
  rested : Rested g.D.Disk.seen g.D.Disk.may_leave g.D.Disk.moment g.D.Disk.left_since l.fn.disk l.disk;
  kept : g.D.Disk.faults l.fn.disk ≤ g.D.Disk.faults l.disk;
}

abbrev pub decreases-loop-walk : goal.decreases-loop-walk
decreases-loop-walk g l = l.end - l.walk.gate
