use Rattle.std.proofs.Common.{ℕ, List, ◌++◌, subst, ◌∙◌}
use Rattle.store_machine.specs.Laws.{is_enter}
use Rattle.server_forms.specs.Report.{line_at, line_if}
use Rattle.gathered_text.specs.Writing.{Going}
use Rattle.server_forms.proofs.LineLemmas.{line_is}
use Rattle.gathered_text.proofs.GoingLemmas.{going_cut, going_pushed}
use Rattle.server_forms.proofs.report.write_line.Goals as goal

pub returns-in-Ok-clause-goes : goal.returns-in-Ok-clause-goes
returns-in-Ok-clause-goes g c = λ whole rest before going.
    let journal = c.args.store.now.journal in
    let place = c.args.place in
    let entry = c.entry-entry.result.now in
    let own = c.count_at-own.result in
    let held = g.W.Sink.held c.args.out.now in
    let line = line_if (is_enter entry.act) place own in
    let is = line_is journal place own entry c.entry-entry.ensures (c.count_at-own.ensures ∙ c.requires.counts.each place c.requires.place) in
    c.pass_on.ensures.goes whole rest before
    (going_pushed whole c.args.text.now.items c.push_line.new.text.items line rest before held c.in-Ok.ensures
    (subst (λ (l : List ℕ). Going whole c.args.text.now.items (l ++ rest) before held) is going))

pub returns-in-Err-clause-goes : goal.returns-in-Err-clause-goes
returns-in-Err-clause-goes g c = λ whole rest before going.
    going_cut whole c.args.text.now.items (line_at c.args.store.now.journal c.args.place ++ rest) before (g.W.Sink.held c.args.out.now) going
