-- What was copied, and the operation that was made, in the callee's clauses.
use Rattle.std.proofs.Common.{◌≡◌, ◌∙◌, ap, subst, rules, w64, FitsSigned}
use Rattle.std.proofs.lemmas.Int.{to_z-of_z}
use Rattle.std.specs.Prelude.{IfOk, OnOk}
use Rattle.request_scope.specs.Finding.{found_refusal, putting}
use Rattle.session_rows.specs.Objects.{set_object}
use Rattle.tx_stage.specs.declared.key.Key.TheVariants.{Space}
use Rattle.session_rows.proofs.objects.putting.StagedPutReply.stage.Goals as goal

pub returns-clause-refusal : goal.returns-clause-refusal
returns-clause-refusal c =
    let scope = c.args.scope.now in
    let o = set_object c.args.self.now.moment c.args.object in
    let fits : FitsSigned w64 c.args.self.now.moment = search rules in
    let op : c.in_ok-op.op ≡ o = c.in_ok-op.ensures ∙ ap (λ m. set_object m c.args.object) (to_z-of_z w64 c.args.self.now.moment fits) in
    let staged = subst (λ p. IfOk c.put_found.result (λ code. code ≡ found_refusal scope.stage (Space c.in_ok-copy.field-0) p c.args.found.now)) op c.put_found.ensures.refusal in
    subst (λ p. IfOk c.put_found.result (λ code. code ≡ found_refusal scope.stage (Space p) o c.args.found.now)) c.in_ok-copy.ensures staged

pub returns-clause-state : goal.returns-clause-state
returns-clause-state c =
    let scope = c.args.scope.now in
    let o = set_object c.args.self.now.moment c.args.object in
    let fits : FitsSigned w64 c.args.self.now.moment = search rules in
    let op : c.in_ok-op.op ≡ o = c.in_ok-op.ensures ∙ ap (λ m. set_object m c.args.object) (to_z-of_z w64 c.args.self.now.moment fits) in
    let staged = subst (λ p. OnOk c.put_found.result (c.put_found.new.self ≡ putting scope (Space c.in_ok-copy.field-0) p c.args.found.now)) op c.put_found.ensures.state in
    subst (λ p. OnOk c.put_found.result (c.put_found.new.self ≡ putting scope (Space p) o c.args.found.now)) c.in_ok-copy.ensures staged
