use Rattle.tool_forms.proofs.ReplayingLemmas.{plays_takes}
use Rattle.tool_forms.proofs.replay.ReplayForm.take.Goals as goal

pub returns-clause-taken : goal.returns-clause-taken
returns-clause-taken c fs leads place =
    plays_takes c.in_ok-refused.refused c.args.self.now.player c.play.new.self c.args.frame.now c.new-answers.result.items c.play.new.answers.items c.args.into.now.items c.push_all.new.into.items
    c.in_ok-refused.ensures.played c.new-answers.ensures.items
    c.in_ok-push_all.ensures.ok fs leads
