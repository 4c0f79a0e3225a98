use Rattle.std.proofs.Common.{ℕ, ◌+◌, List, length, slice_range, drop, sym, subst, Some}
use Rattle.etp_values.proofs.ListLemmas.{range_taken}
use Rattle.point_lines.specs.Lines.{Reading, HasGiven}
use Rattle.point_lines.specs.Marks.{IsPlace}
use Rattle.point_lines.proofs.LineLemmas.{next_line, ahead_at, rest_at}
use Rattle.point_lines.proofs.lines.Lines.advance.Goals as goal

pub returns-in-Some-clause-goes : goal.returns-in-Some-clause-goes
returns-in-Some-clause-goes g c = λ before given h.
    let s = c.self.inside in
    let b = s.buf.items in
    let i = c.in-Some.i in
    let r : Reading = record { line = slice_range b s.start s.end; ahead = drop s.next b; over = s.over } in
    let stood : HasGiven before (g.R.Source.left c.args.input.now) r given = subst (λ v. HasGiven before (g.R.Source.left c.args.input.now) v given) (sym c.self.view_is) h in
    let place : IsPlace 10 (drop s.next b) (Some i) = subst (λ l. IsPlace 10 l (Some i)) (rest_at b s.next) (subst (λ (l : List ℕ). IsPlace 10 (slice_range l s.next (length l)) (Some i)) c.deref.ensures.value c.in-Some.ensures) in
    next_line c.of_length.result i before (g.R.Source.left c.args.input.now) r (slice_range b s.next (s.next + i)) (drop (s.next + i + 1) b) given c.of_length.ensures place (range_taken b s.next i) (ahead_at b s.next i) stood
