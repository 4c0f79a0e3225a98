use Rattle.std.proofs.Common.{◌<◌, ◌^◌, ◌∙◌, ap, sym, rules}
use Rattle.etp_outside.specs.Steps.{bits_at}
use Rattle.etp_outside.proofs.StepLemmas.{bits_first}
use Rattle.etp_outside.proofs.step_clock.StepClock.from_bits.Goals as goal

pub invariant_of-result : goal.invariant_of-result
invariant_of-result c =
    let fits : c.args.start < 2 ^ 64 = search rules in
    bits_first c.args.start c.args.step fits ∙ ap (bits_at c.args.start c.args.step) (sym c.new.ensures)
