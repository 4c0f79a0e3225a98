use Rattle.std.proofs.Common.{◌≡◌, ◌≤◌, ◌-◌, None, false, length}
use Rattle.etp_values.specs.Uri.{parted}
use Rattle.point_lines.specs.Reads.{Gathers}
use Rattle.point_lines.proofs.lines.read_line.Given as goal

-- what was read so far, without a line feed
abbrev pub invariant-loop-chunk : goal.invariant-loop-chunk
invariant-loop-chunk g l = record {
  gathered : Gathers false (g.R.Source.left l.fn.input) (g.R.Source.left l.input) l.initial.buf.items l.buf.items;
  clear : parted 10 l.buf.items ≡ None;
  kept : g.R.Source.faults l.fn.input ≤ g.R.Source.faults l.input;
}

abbrev pub decreases-loop-chunk : goal.decreases-loop-chunk
decreases-loop-chunk g l = 65537 - length l.buf.items
