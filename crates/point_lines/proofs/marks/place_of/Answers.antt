use Rattle.std.proofs.Common.{arith}
use Rattle.point_lines.proofs.MarkLemmas.{place_found, place_next}
use Rattle.point_lines.proofs.marks.place_of.Goals as goal

pub returns-then-b-mark : goal.returns-then-b-mark
returns-then-b-mark c = (omega arith, place_found c.args.mark c.args.bytes.now c.loop-i.i (omega arith) c.if-b-mark.true c.loop-i.invariant)

pub loop-i-preserved : goal.loop-i-preserved
loop-i-preserved c = place_next c.args.mark c.args.bytes.now c.loop-i.i (omega arith) c.if-b-mark.false c.loop-i.invariant
