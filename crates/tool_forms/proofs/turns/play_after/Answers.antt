use Rattle.std.proofs.Common.{◌≡◌, ◌++◌, ◌∙◌, ap, sym, subst, Some}
use Rattle.session_core.specs.Session.{end_of}
use Rattle.tool_forms.specs.Turns.{messages}
use Rattle.tool_forms.specs.declared.tag.OpenSession.{OpenSession}
use Rattle.tool_forms.proofs.EnteringLemmas.{meets_closed}
use Rattle.tool_forms.proofs.turns.play_after.Goals as goal

pub returns-in_ok-push_end-in-Some : goal.returns-in_ok-push_end-in-Some
returns-in_ok-push_end-in-Some c =
    let sent = c.in_ok-send_rest.ensures in
    let lent : c.get_mut.result.now ≡ c.args.open_session = c.get_mut.ensures.value in
    let ended : end_of c.args.open_session.session.phase ≡ Some c.in-Some.end = ap (λ (o : OpenSession). end_of o.session.phase) (sym lent) ∙ sym sent.end ∙ c.in-Some.is in
    let answers = subst (λ (o : OpenSession). c.send_rest.new.answers.items ≡ c.args.answers.now.items ++ messages c.args.frame.now o.session.out) lent sent.answers in
    λ j marks. meets_closed c.args.frame.now (record { journal = j; session = c.args.open_session; marks = marks }) (end_of c.args.open_session.session.phase) c.in-Some.end
    c.args.answers.now.items c.send_rest.new.answers.items c.push_end.new.answers.items ended answers c.in_ok-push_end-in-Some.ensures
