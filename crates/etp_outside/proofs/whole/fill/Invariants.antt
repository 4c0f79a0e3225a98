use Rattle.std.proofs.Common.{length, ◌-◌, ◌≤◌, take}
use Rattle.std.specs.Io.KnownBytes.{Consumes}
use Rattle.etp_outside.proofs.whole.fill.Given as goal

-- what was read so far is at the front
abbrev pub invariant-loop-at : goal.invariant-loop-at
invariant-loop-at g l = record {
  within : l.at ≤ length l.buf;
  bytes : Consumes (g.S.Source.left l.fn.source) (g.S.Source.left l.source) (take l.at l.buf);
  kept : g.S.Source.faults l.fn.source ≤ g.S.Source.faults l.source;
}

abbrev pub decreases-loop-at : goal.decreases-loop-at
decreases-loop-at g l = length l.initial.buf - l.at
