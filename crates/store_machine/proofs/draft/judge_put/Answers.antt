use Rattle.std.proofs.Common.{◌≡◌, true, false, sym, subst, ◌∙◌, w64, to_z, of_z}
use Rattle.std.proofs.lemmas.Int.{to_z-of_z}
use Rattle.tx_stage.specs.State.{PutsSpace}
use Rattle.store_machine.specs.History.{is_default}
use Rattle.store_machine.proofs.JudgingLemmas.{put_denied, put_planned}
use Rattle.store_machine.proofs.draft.judge_put.Goals as goal

pub returns-then-is_empty : goal.returns-then-is_empty
returns-then-is_empty c = λ t sofar h.
    let empty : is_default c.args.put.now.path ≡ true = sym c.is_empty.ensures ∙ c.if-is_empty.true in
    put_denied t c.args.plan.now sofar c.args.at c.args.put.now empty h

pub returns : goal.returns
returns c = λ t sofar h.
    let put = c.args.put.now in
    let moment : to_z w64 (of_z w64 c.args.at) ≡ c.args.at = to_z-of_z w64 c.args.at c.ranges.at in
    let named : is_default put.path ≡ false = sym c.is_empty.ensures ∙ c.if-is_empty.false in
    let puts = subst (λ a. PutsSpace t c.args.plan.now c.put_space.new.self put.path put.custom a) moment (c.in_ok-put_space.ensures t) in
    put_planned t c.args.plan.now c.put_space.new.self sofar c.args.at put named puts h
