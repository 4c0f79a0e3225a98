use Rattle.std.proofs.Common.{ℕ, List, subst, sym}
use Rattle.std.specs.Io.KnownBytes.{Appends}
use Rattle.etp_outside.specs.Whole.{AppendsFront}
use Rattle.gathered_text.specs.Writing.{Going}
use Rattle.gathered_text.proofs.GoingLemmas.{going_failed, going_sent}
use Rattle.gathered_text.proofs.writing.pass_on.Goals as goal

pub returns-in-Done-clause-goes : goal.returns-in-Done-clause-goes
returns-in-Done-clause-goes g c = λ whole rest before going.
    let held = g.W.Sink.held c.args.out.now in
    let kept = g.W.Sink.held c.write_all.new.sink in
    let all = subst (λ (l : List ℕ). Appends held kept l) c.as_slice.ensures.value c.in-Done.ensures.bytes in
    subst (λ (text : List ℕ). Going whole text rest before kept) (sym {A = List ℕ} c.clear.ensures.items) (going_sent whole c.args.text.now.items rest before held going kept all)

pub returns-in-Failed-clause-goes : goal.returns-in-Failed-clause-goes
returns-in-Failed-clause-goes g c = λ whole rest before going.
    let held = g.W.Sink.held c.args.out.now in
    let kept = g.W.Sink.held c.write_all.new.sink in
    let front = subst (λ (l : List ℕ). AppendsFront held kept l) c.as_slice.ensures.value c.in-Failed.ensures.bytes in
    going_failed whole c.args.text.now.items rest before held going kept front
