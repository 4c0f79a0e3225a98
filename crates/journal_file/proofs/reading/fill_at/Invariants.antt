use Rattle.std.proofs.Common.{◌≡◌, ◌-◌, ◌≤◌, ℕ, List, length, take, drop, Some}
use Rattle.journal_file.specs.Opening.{Rested}
use Rattle.journal_file.proofs.reading.fill_at.Given as goal

-- the front is filled so far
abbrev pub invariant-loop-done : goal.invariant-loop-done
invariant-loop-done g l = record {
  within : l.done ≤ length l.buf;
  size : length l.buf ≡ length l.fn.buf;
  bytes : (f : List ℕ) → g.D.Disk.seen l.fn.disk ≡ Some f → take l.done l.buf ≡ take l.done (drop l.at f);
  rested : Rested g.D.Disk.seen g.D.Disk.may_leave g.D.Disk.moment g.D.Disk.left_since l.fn.disk l.disk;
  kept : g.D.Disk.faults l.fn.disk ≤ g.D.Disk.faults l.disk;
}

abbrev pub decreases-loop-done : goal.decreases-loop-done
decreases-loop-done g l = length l.initial.buf - l.done
