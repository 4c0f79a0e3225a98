use Rattle.std.proofs.Common.{◌-◌, get_or, arith}
use Rattle.entry_index.specs.declared.chains.Step.{Step}
use Rattle.entry_index.proofs.ChainLemmas.{jump-begins, step-of}
use Rattle.entry_index.proofs.chains.jump_of.Goals as goal

pub returns : goal.returns
returns c =
    let d : Step = record { place = 0; before = 0; jump = record { to = 0; length = 0 } } in
    let steps = c.args.steps.now in
    let n = c.args.number in
    jump-begins steps n (get_or steps (n - 1) d) (step-of steps n d c.requires.chained (omega (arith, c.if-number-eq0.false)) c.requires.known)
