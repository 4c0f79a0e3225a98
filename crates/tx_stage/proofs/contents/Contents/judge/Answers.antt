use Rattle.std.proofs.Common.{sym, ◌∙◌}
use Rattle.tx_stage.specs.State.{state_now}
use Rattle.tx_stage.proofs.PlanLemmas.{judged-verdict, judged-plan}
use Rattle.tx_stage.proofs.contents.Contents.judge.Goals as goal

pub returns-clause-verdict : goal.returns-clause-verdict
returns-clause-verdict c =
    judged-verdict c.add.result (state_now c.args.self.now c.args.plan.now) c.args.op.now (sym c.suits.ensures ∙ c.if-not-suits.false) (sym c.has_needed.ensures ∙ c.if-not-has_needed.false) c.add.ensures.code

pub returns-clause-plan : goal.returns-clause-plan
returns-clause-plan c =
    let op = c.args.op.now in
    judged-plan c.add.result c.args.self.now c.args.plan.now c.add.new.plan op.key op.what op.at c.add.ensures.plan c.add.ensures.same
