use Rattle.tool_forms.proofs.EnteringLemmas.{meets_ended}
use Rattle.tool_forms.proofs.turns.play_open.Goals as goal

pub returns-then-frame-eq-END-clause-effect : goal.returns-then-frame-eq-END-clause-effect
returns-then-frame-eq-END-clause-effect c =
    meets_ended c.args.store.now.config c.args.store.now.journal c.args.open_session c.args.frame.now c.args.answers.now.items c.push_end.new.answers.items c.if-frame-eq-END.true c.in_ok-push_end.ensures
