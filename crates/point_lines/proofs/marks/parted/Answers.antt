use Rattle.point_lines.proofs.MarkLemmas.{parts_sliced}
use Rattle.point_lines.proofs.marks.parted.Goals as goal

pub returns-in-Some : goal.returns-in-Some
returns-in-Some c = parts_sliced c.args.mark c.args.bytes.now c.in-Some.i c.in-Some.ensures
