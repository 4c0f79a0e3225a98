use Rattle.std.proofs.Common.{◌-◌, Some, get_or, ap, sym, ◌∙◌, arith}
use Rattle.std.specs.Prelude.{find, nat_le}
use Rattle.std.specs.Option.{option_or}
use Rattle.entry_index.specs.declared.chains.Step.{Step}
use Rattle.entry_index.specs.Chains.{chain}
use Rattle.entry_index.specs.Steps.{chains_of}
use Rattle.entry_index.proofs.ChainLemmas.{step-of, found-on, found-before}
use Rattle.entry_index.proofs.chains.first_place.Goals as goal

pub returns-then-step-from : goal.returns-then-step-from
returns-then-step-from c =
    let d : Step = record { place = 0; before = 0; jump = record { to = 0; length = 0 } } in
    let steps = c.args.steps.now in
    let n = c.loop-last.last in
    let is = step-of steps n d c.requires.chained c.loop-last-test.true c.loop-last.invariant.0 in
    found-before steps n c.args.from (get_or steps (n - 1) d) c.loop-last.found (find (nat_le c.args.from) (chain (chains_of steps) c.args.number)) is c.if-step-from.true c.loop-last.invariant.1

pub next_chain-last-requires-clause-known : goal.next_chain-last-requires-clause-known
next_chain-last-requires-clause-known c =
    let d : Step = record { place = 0; before = 0; jump = record { to = 0; length = 0 } } in
    let is = step-of c.args.steps.now c.loop-last.last d c.requires.chained c.loop-last-test.true c.loop-last.invariant.0 in
    omega (arith, is.earlier, c.loop-last.invariant.0)

pub next_chain-last-requires-clause-begins : goal.next_chain-last-requires-clause-begins
next_chain-last-requires-clause-begins c =
    let d : Step = record { place = 0; before = 0; jump = record { to = 0; length = 0 } } in
    (step-of c.args.steps.now c.loop-last.last d c.requires.chained c.loop-last-test.true c.loop-last.invariant.0).jumps

pub loop-last-smaller : goal.loop-last-smaller
loop-last-smaller c =
    let d : Step = record { place = 0; before = 0; jump = record { to = 0; length = 0 } } in
    let is = step-of c.args.steps.now c.loop-last.last d c.requires.chained c.loop-last-test.true c.loop-last.invariant.0 in
    omega (arith, is.earlier, c.next_chain-last.ensures.within)

pub loop-last-preserved : goal.loop-last-preserved
loop-last-preserved c =
    let d : Step = record { place = 0; before = 0; jump = record { to = 0; length = 0 } } in
    let steps = c.args.steps.now in
    let n = c.loop-last.last in
    let step = get_or steps (n - 1) d in
    let is = step-of steps n d c.requires.chained c.loop-last-test.true c.loop-last.invariant.0 in (
      omega (arith, is.earlier, c.next_chain-last.ensures.within, c.loop-last.invariant.0),
      found-on steps n c.args.from step c.loop-last.found (find (nat_le c.args.from) (chain (chains_of steps) c.args.number)) is c.if-step-from.false c.loop-last.invariant.1
          ∙ ap (λ o. option_or o (Some step.place)) (sym c.next_chain-last.ensures.found),
    )
