use Rattle.std.proofs.Common.{◌≡◌, ◌+◌, ℕ, List, Some, subst, arith}
use Rattle.std.specs.Prelude.{IfSome}
use Rattle.std.specs.declared.option.Option.{Option}
use Rattle.journal_file.specs.Opening.{IsRecord}
use Rattle.journal_file.specs.declared.reading.Record.{Record}
use Rattle.journal_file.proofs.OpeningLemmas.{read_more, bad_gate}
use Rattle.journal_file.proofs.opening.step.Goals as goal

pub returns-in_ok-take_in-in-Some-clause-read : goal.returns-in_ok-take_in-in-Some-clause-read
returns-in_ok-take_in-in-Some-clause-read g c = λ f is read.
    let old = c.args.walk.now in
    let new = c.take_in.new.walk in
    let found : (f : List ℕ) → g.D.Disk.seen c.args.disk.now ≡ Some f → IsRecord f (old.gate + 1) c.in-Some.found.spelling c.in-Some.found.next =
    subst (λ (o : Option Record). IfSome o (λ r. (f : List ℕ) → g.D.Disk.seen c.args.disk.now ≡ Some f → IsRecord f (old.gate + 1) r.spelling r.next)) c.in-Some.is c.in_ok-found.ensures.found in
    let took = c.in_ok-take_in-in-Some.ensures in
    read_more f old.spellings.items new.spellings.items old.gate old.byte new.gate new.byte c.in-Some.found.next c.in-Some.found.spelling took.spellings c.requires.open took.gate took.byte read (found f is)

pub returns-in-None-clause-refused : goal.returns-in-None-clause-refused
returns-in-None-clause-refused g c = λ f is long read.
    let old = c.args.walk.now in
    bad_gate f old.spellings.items old.gate old.byte (omega (arith, c.requires.inside, c.ranges.end.fits)) c.requires.open read (c.in_ok-found.ensures.none c.in-None.is f is long)
