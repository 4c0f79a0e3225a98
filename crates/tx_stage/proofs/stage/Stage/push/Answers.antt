use Rattle.std.proofs.Common.{◌≡◌, ◌+◌, ◌++◌, ◌∷◌, [], sym, ap, subst, ◌∙◌, arith}
use Rattle.std.proofs.lemmas.Grind.{common_steps}
use Rattle.etp_values.specs.Weight.{weigh}
use Rattle.tx_stage.specs.Altered.{FindsAltered, with_op}
use Rattle.tx_stage.specs.Counted.{op_bytes}
use Rattle.tx_stage.specs.Staging.{Transaction}
use Rattle.tx_stage.proofs.AlteredLemmas.{finds-next}
use Rattle.tx_stage.proofs.StageLemmas.{weigh-push}
use Rattle.tx_stage.proofs.stage.Stage.push.Goals as goal

pub invariant_of-self-2 : goal.invariant_of-self-2
invariant_of-self-2 c =
    let s = c.self.inside in
    let op = c.args.op in
    let pushed : c.push.new.self.items ≡ s.ops.items ++ op ∷ [] = grind (arith, common_steps) in
    let altered : c.add.new.self ≡ with_op s.altered op = c.in_ok-add.ensures.ok in
    let found = finds-next s.altered s.ops.items op c.self.invariant.found in
    record {
      counted = c.requires.counted ∙ ap (λ (x : Transaction). weigh op_bytes x.ops + op_bytes op) (sym c.self.view_is) ∙ sym (weigh-push op_bytes s.ops.items op) ∙ ap (weigh op_bytes) (sym pushed);
      limit = c.requires.limit;
      found = subst (FindsAltered c.add.new.self) (sym pushed) (subst (λ a. FindsAltered a (s.ops.items ++ op ∷ [])) (sym altered) found);
      empty = c.self.invariant.empty;
      enough = c.self.invariant.enough;
    }
