use Rattle.std.proofs.Common.{List, ℕ, ◌∙◌, subst}
use Rattle.gathered_text.specs.Writing.{Writes}
use Rattle.tool_forms.specs.Summary.{summary}
use Rattle.tool_forms.proofs.TellingLemmas.{tells, no_usage, no_read_fault, write_fault, unwritten}
use Rattle.tool_forms.proofs.load.generate.Goals as goal

pub returns-in-Ok-clause-told : goal.returns-in-Ok-clause-told
returns-in-Ok-clause-told g c = λ input.
    let held = g.W.Sink.held c.args.out.now in
    let kept = g.W.Sink.held c.write_text.new.out in
    let written = subst (λ (text : List ℕ). Writes c.write_text.result text held kept) (c.as_slice.ensures.value ∙ c.in-Ok.ensures) c.write_text.ensures.written in
    tells (summary c.args.size) c.write_text.result c.status_of.result input held kept c.status_of.ensures written

pub returns-in-Ok-clause-form : goal.returns-in-Ok-clause-form
returns-in-Ok-clause-form g c = no_usage c.write_text.result c.status_of.result c.status_of.ensures

pub returns-in-Ok-clause-read_cause : goal.returns-in-Ok-clause-read_cause
returns-in-Ok-clause-read_cause g c = no_read_fault c.write_text.result c.status_of.result c.status_of.ensures

pub returns-in-Ok-clause-write_cause : goal.returns-in-Ok-clause-write_cause
returns-in-Ok-clause-write_cause g c = λ fault. c.write_text.ensures.cause (write_fault c.write_text.result c.status_of.result c.status_of.ensures fault)

pub returns-in-Err-clause-told : goal.returns-in-Err-clause-told
returns-in-Err-clause-told g c = λ input. unwritten (summary c.args.size) input (g.W.Sink.held c.args.out.now)
