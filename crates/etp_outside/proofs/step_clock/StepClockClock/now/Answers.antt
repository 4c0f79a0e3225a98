use Rattle.std.proofs.Common.{◌+◌, ◌%◌, ◌^◌, ◌∙◌, ap, sym}
use Rattle.etp_outside.specs.Steps.{bits_at}
use Rattle.etp_outside.proofs.StepLemmas.{bits_more}
use Rattle.etp_outside.proofs.step_clock.StepClockClock.now.Goals as goal

pub invariant_of-self : goal.invariant_of-self
invariant_of-self c =
    let s = c.self.inside in
    ap (λ n. (n + s.step) % 2 ^ 64) c.self.invariant ∙ bits_more s.start s.step s.count ∙ ap (bits_at s.start s.step) (sym c.more.ensures)
