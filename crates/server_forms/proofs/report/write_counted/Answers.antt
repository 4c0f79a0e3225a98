use Rattle.std.proofs.Common.{◌≡◌, ◌++◌, [], ℕ, List, ap, sym, ◌∙◌, subst, arith}
use Rattle.etp_outside.proofs.FaultLemmas.{rose_later}
use Rattle.server_forms.specs.Report.{entries_line, lines_from, report}
use Rattle.gathered_text.specs.Writing.{Going}
use Rattle.gathered_text.proofs.GoingLemmas.{going_start, nothing_written}
use Rattle.server_forms.proofs.report.write_counted.Goals as goal

pub returns-in_default-clause-written : goal.returns-in_default-clause-written
returns-in_default-clause-written g c = nothing_written (report c.args.store.now.journal) (g.W.Sink.held c.args.out.now)

pub returns-in-Whole-clause-written : goal.returns-in-Whole-clause-written
returns-in-Whole-clause-written g c =
    let journal = c.args.store.now.journal in
    let lines = lines_from journal 0 journal in
    let held = g.W.Sink.held c.args.out.now in
    let kept = g.W.Sink.held c.write_lines.new.out in
    let start : report journal ≡ c.in-Ok.text.items ++ lines = ap (λ (l : List ℕ). l ++ lines) (sym (c.in-Ok.ensures ∙ ap entries_line c.entries.ensures.len)) in
    let going = c.in-Whole.ensures.goes (report journal) held (going_start (report journal) c.in-Ok.text.items lines held start) in
    c.finish.ensures.written (report journal) held (subst (λ (t : List ℕ). Going (report journal) t [] held kept) (sym c.as_slice.ensures.value) going)

pub returns-in-Whole-clause-kept : goal.returns-in-Whole-clause-kept
returns-in-Whole-clause-kept g c = omega (arith, c.write_lines.ensures.kept, c.finish.ensures.kept)

pub returns-in-Whole-clause-cause : goal.returns-in-Whole-clause-cause
returns-in-Whole-clause-cause g c = λ is.
    rose_later (g.W.Sink.faults c.args.out.now) (g.W.Sink.faults c.write_lines.new.out) (g.W.Sink.faults c.finish.new.out) c.write_lines.ensures.kept (c.finish.ensures.cause is)

pub returns-in-WriteFault-clause-written : goal.returns-in-WriteFault-clause-written
returns-in-WriteFault-clause-written g c =
    let journal = c.args.store.now.journal in
    let lines = lines_from journal 0 journal in
    let held = g.W.Sink.held c.args.out.now in
    let start : report journal ≡ c.in-Ok.text.items ++ lines = ap (λ (l : List ℕ). l ++ lines) (sym (c.in-Ok.ensures ∙ ap entries_line c.entries.ensures.len)) in
    c.in-WriteFault.ensures.goes (report journal) held (going_start (report journal) c.in-Ok.text.items lines held start)

pub returns-clause-written : goal.returns-clause-written
returns-clause-written g c =
    let journal = c.args.store.now.journal in
    let lines = lines_from journal 0 journal in
    let held = g.W.Sink.held c.args.out.now in
    let start : report journal ≡ c.in-Ok.text.items ++ lines = ap (λ (l : List ℕ). l ++ lines) (sym (c.in-Ok.ensures ∙ ap entries_line c.entries.ensures.len)) in
    c.in-NoMemory.ensures.goes (report journal) held (going_start (report journal) c.in-Ok.text.items lines held start)
