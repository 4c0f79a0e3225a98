use Rattle.std.proofs.Common.{ap, arith, ◌∙◌}
use Rattle.point_lines.specs.Spelling.{hex_digit}
use Rattle.point_lines.proofs.SpellLemmas.{hex_pushed}
use Rattle.point_lines.proofs.spelling.+put_bits.Goals as goal

pub returns : goal.returns
returns t c =
    hex_pushed c.args.into.now.items c.put_bits.new.into.items c.push.new.self.items c.args.count c.args.bits c.digit_of.result c.if-count-eq0.false
    c.in_ok-put_bits.ensures c.in_ok-push.ensures.items (c.digit_of.ensures ∙ ap hex_digit (omega arith))
