use Rattle.std.proofs.Common.{sym, arith}
use Rattle.point_lines.specs.Numerals.{bytes_in}
use Rattle.point_lines.proofs.BitLemmas.{pair_step, pairs_odd}
use Rattle.point_lines.proofs.numerals.bytes_in.Goals as goal

pub loop-i-preserved : goal.loop-i-preserved
loop-i-preserved c = pair_step c.args.text.now c.loop-i.bytes.items c.push.new.self.items c.loop-i.i c.in-Some.byte (bytes_in c.args.text.now) (omega arith) (sym c.in-Some.ensures) c.in_ok-push.ensures.items c.loop-i.invariant

pub returns-then-text-eq1 : goal.returns-then-text-eq1
returns-then-text-eq1 c = pairs_odd c.args.text.now c.loop-i.bytes.items c.loop-i.i (bytes_in c.args.text.now) (omega arith) (omega arith) c.loop-i.invariant
