use Rattle.store_machine.proofs.JudgingLemmas.{op_accepted, op_refused}
use Rattle.store_machine.proofs.draft.judge_op.Goals as goal

pub returns-in-None : goal.returns-in-None
returns-in-None c = λ sofar h. op_accepted c.args.contents.now c.args.plan.now c.judge.new.plan sofar c.args.op.now _ c.in-None.is c.in_ok-judge.ensures.verdict c.in_ok-judge.ensures.plan h

pub returns-in-Some : goal.returns-in-Some
returns-in-Some c = λ sofar h. op_refused c.args.contents.now c.args.plan.now c.judge.new.plan sofar c.args.op.now _ c.in-Some.code c.in-Some.is c.in_ok-judge.ensures.verdict c.in_ok-judge.ensures.plan h
