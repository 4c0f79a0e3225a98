use Rattle.std.proofs.Common.{◌≤◌, ◌+◌, ◌-◌, length}
use Rattle.std.specs.Io.KnownBytes.{Consumes}
use Rattle.etp_outside.proofs.whole.read_all.Given as goal

-- what was read so far
abbrev pub invariant-loop-count : goal.invariant-loop-count
invariant-loop-count g l = record {
  short : length l.all.items ≤ l.limit;
  bytes : Consumes (g.S.Source.left l.fn.source) (g.S.Source.left l.source) l.all.items;
  kept : g.S.Source.faults l.fn.source ≤ g.S.Source.faults l.source;
}

abbrev pub decreases-loop-count : goal.decreases-loop-count
decreases-loop-count g l = l.limit + 1 - length l.all.items
