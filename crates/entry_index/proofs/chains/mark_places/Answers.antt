use Rattle.std.proofs.Common.{◌≡◌, ◌-◌, sym, ◌∙◌, ap, get_or, arith}
use Rattle.entry_index.specs.declared.chains.Step.{Step}
use Rattle.entry_index.specs.Chains.{chain}
use Rattle.entry_index.specs.Marks.{marked_places}
use Rattle.entry_index.specs.Steps.{chains_of}
use Rattle.entry_index.proofs.ChainLemmas.{step-of}
use Rattle.entry_index.proofs.MarkLemmas.{marked-nothing, marks-before, marks-on}
use Rattle.entry_index.proofs.chains.mark_places.Goals as goal

pub returns-then-step-least : goal.returns-then-step-least
returns-then-step-least c =
    let d : Step = record { place = 0; before = 0; jump = record { to = 0; length = 0 } } in
    let a = c.args in
    let l = c.loop-last in
    let is = step-of a.steps.now l.last d c.requires.chained c.loop-last-test.true l.invariant.known in
    marks-before a.steps.now l.last a.from a.first c.max-least.result (get_or a.steps.now (l.last - 1) d) l.marks _ is c.max-least.ensures c.if-step-least.true l.invariant.marks

pub loop-last-smaller : goal.loop-last-smaller
loop-last-smaller c =
    let d : Step = record { place = 0; before = 0; jump = record { to = 0; length = 0 } } in
    (step-of c.args.steps.now c.loop-last.last d c.requires.chained c.loop-last-test.true c.loop-last.invariant.known).earlier

pub loop-last-preserved : goal.loop-last-preserved
loop-last-preserved c =
    let d : Step = record { place = 0; before = 0; jump = record { to = 0; length = 0 } } in
    let a = c.args in
    let l = c.loop-last in
    let step = get_or a.steps.now (l.last - 1) d in
    let is = step-of a.steps.now l.last d c.requires.chained c.loop-last-test.true l.invariant.known in
    record {
      known = omega (arith, is.earlier, l.invariant.known);
      marks = ap (marked_places a.from a.first (chain (chains_of a.steps.now) step.before)) c.set_mark.ensures
          ∙ marks-on a.steps.now l.last a.from a.first c.max-least.result step l.marks _ is c.max-least.ensures c.if-step-least.false l.invariant.marks;
    }

pub returns : goal.returns
returns c =
    let a = c.args in
    let l = c.loop-last in
    let none : l.last ≡ 0 = omega (arith, c.loop-last-test.false) in
    sym (marked-nothing a.from a.first l.marks) ∙ ap (λ n. marked_places a.from a.first (chain (chains_of a.steps.now) n) l.marks) (sym none) ∙ l.invariant.marks
