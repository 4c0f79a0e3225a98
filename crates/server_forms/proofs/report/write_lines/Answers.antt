use Rattle.std.proofs.Common.{◌<◌, ◌≤◌, ◌+◌, ◌++◌, [], length, drop, sym, arith, refl}
use Rattle.etp_outside.proofs.FaultLemmas.{rose_later}
use Rattle.server_forms.specs.Report.{line_at, lines_from}
use Rattle.server_forms.proofs.LineLemmas.{lines_end, lines_next}
use Rattle.gathered_text.proofs.GoingLemmas.{going_as}
use Rattle.server_forms.proofs.report.write_lines.Goals as goal

pub loop-place-init : goal.loop-place-init
loop-place-init g c = record { going = λ whole before going. going; kept = omega arith }

pub loop-place-preserved : goal.loop-place-preserved
loop-place-preserved g c =
    let journal = c.args.store.now.journal in
    let k = c.loop-place.place in
    let rest = lines_from journal (k + 1) (drop (k + 1) journal) in
    let within : k < length journal = omega (arith, c.loop-place-test.true, c.entries-place-end.ensures.len) in
    record {
      going = λ whole before going.
          c.in-Whole.ensures.goes whole rest before
          (going_as whole c.loop-place.text.items (lines_from journal k (drop k journal)) (line_at journal k ++ rest) before (g.W.Sink.held c.loop-place.out) (sym (lines_next journal k within)) (c.loop-place.invariant.going whole before going));
      kept = omega (arith, c.loop-place.invariant.kept, c.write_line.ensures.kept);
    }

pub returns-in-WriteFault-clause-goes : goal.returns-in-WriteFault-clause-goes
returns-in-WriteFault-clause-goes g c = λ whole before going.
    let journal = c.args.store.now.journal in
    let k = c.loop-place.place in
    let rest = lines_from journal (k + 1) (drop (k + 1) journal) in
    let within : k < length journal = omega (arith, c.loop-place-test.true, c.entries-place-end.ensures.len) in
    c.in-WriteFault.ensures.goes whole rest before
    (going_as whole c.loop-place.text.items (lines_from journal k (drop k journal)) (line_at journal k ++ rest) before (g.W.Sink.held c.loop-place.out) (sym (lines_next journal k within)) (c.loop-place.invariant.going whole before going))

pub returns-in-WriteFault-clause-kept : goal.returns-in-WriteFault-clause-kept
returns-in-WriteFault-clause-kept g c = omega (arith, c.loop-place.invariant.kept, c.write_line.ensures.kept)

pub returns-in-WriteFault-clause-cause : goal.returns-in-WriteFault-clause-cause
returns-in-WriteFault-clause-cause g c = λ is.
    rose_later (g.W.Sink.faults c.args.out.now) (g.W.Sink.faults c.loop-place.out) (g.W.Sink.faults c.write_line.new.out) c.loop-place.invariant.kept (c.in-WriteFault.ensures.cause refl)

pub returns-in-NoMemory-clause-goes : goal.returns-in-NoMemory-clause-goes
returns-in-NoMemory-clause-goes g c = λ whole before going.
    let journal = c.args.store.now.journal in
    let k = c.loop-place.place in
    let rest = lines_from journal (k + 1) (drop (k + 1) journal) in
    let within : k < length journal = omega (arith, c.loop-place-test.true, c.entries-place-end.ensures.len) in
    c.in-NoMemory.ensures.goes whole rest before
    (going_as whole c.loop-place.text.items (lines_from journal k (drop k journal)) (line_at journal k ++ rest) before (g.W.Sink.held c.loop-place.out) (sym (lines_next journal k within)) (c.loop-place.invariant.going whole before going))

pub returns-in-NoMemory-clause-kept : goal.returns-in-NoMemory-clause-kept
returns-in-NoMemory-clause-kept g c = omega (arith, c.loop-place.invariant.kept, c.write_line.ensures.kept)

pub returns-clause-goes : goal.returns-clause-goes
returns-clause-goes g c = λ whole before going.
    let journal = c.args.store.now.journal in
    let k = c.loop-place.place in
    let past : length journal ≤ k = omega (arith, c.loop-place-test.false, c.entries-place-end.ensures.len) in
    going_as whole c.loop-place.text.items (lines_from journal k (drop k journal)) [] before (g.W.Sink.held c.loop-place.out) (sym (lines_end journal k past)) (c.loop-place.invariant.going whole before going)

pub returns-clause-kept : goal.returns-clause-kept
returns-clause-kept g c = c.loop-place.invariant.kept
