use Rattle.std.proofs.Common.{◌≡◌, take, None}
use Rattle.etp_values.specs.Uri.{parted}
use Rattle.point_lines.proofs.marks.place_of.Given as goal

abbrev pub invariant-loop-i : goal.invariant-loop-i
invariant-loop-i l = parted l.mark (take l.i l.bytes) ≡ None
