use Rattle.std.proofs.Common.{◌≡◌, true, false, sym, ◌∙◌}
use Rattle.store_machine.specs.History.{is_default}
use Rattle.store_machine.proofs.JudgingLemmas.{drop_denied, drop_missing, drop_planned}
use Rattle.store_machine.proofs.draft.judge_drop.Goals as goal

pub returns-then-is_empty : goal.returns-then-is_empty
returns-then-is_empty c = λ sofar h.
    let empty : is_default c.args.path.now ≡ true = sym c.is_empty.ensures ∙ c.if-is_empty.true in
    drop_denied c.args.contents.now c.args.plan.now sofar c.args.path.now empty h

pub returns-then-not-has_space : goal.returns-then-not-has_space
returns-then-not-has_space c = λ sofar h.
    let named : is_default c.args.path.now ≡ false = sym c.is_empty.ensures ∙ c.if-is_empty.false in
    drop_missing c.args.contents.now c.args.plan.now sofar c.args.path.now named (sym c.has_space.ensures ∙ c.if-not-has_space.true) h

pub returns : goal.returns
returns c = λ sofar h.
    let named : is_default c.args.path.now ≡ false = sym c.is_empty.ensures ∙ c.if-is_empty.false in
    drop_planned c.args.contents.now c.args.plan.now c.drop_space.new.self sofar c.args.path.now named (sym c.has_space.ensures ∙ c.if-not-has_space.false) (c.in_ok-drop_space.ensures c.args.contents.now) h
