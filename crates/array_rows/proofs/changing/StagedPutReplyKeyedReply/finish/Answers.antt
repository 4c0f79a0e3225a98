use Rattle.std.proofs.Common.{◌≡◌, ◌∙◌, ℤ, [], ap, rules, subst, to_z, of_z, w64}
use Rattle.std.proofs.lemmas.Int.{to_z-of_z}
use Rattle.std.specs.Prelude.{IfOk, OnOk}
use Rattle.etp_values.specs.declared.uri.StoreUri.{StoreUri}
use Rattle.keyed_requests.specs.Keyed.{granted_unless}
use Rattle.request_scope.specs.Finding.{found_refusal, putting}
use Rattle.tx_stage.specs.declared.key.Key.TheVariants.{Object}
use Rattle.tx_stage.specs.declared.op.Op.{Op}
use Rattle.array_rows.specs.Changing.{set_array}
use Rattle.array_rows.proofs.changing.StagedPutReplyKeyedReply.finish.Goals as goal

pub returns-clause-decision : goal.returns-clause-decision
returns-clause-decision c =
    let s = c.args.state.now in
    let moment : to_z w64 (of_z w64 c.args.self.now.moment) ≡ c.args.self.now.moment = to_z-of_z w64 c.args.self.now.moment (search rules) in
    let op : c.set_array.result ≡ set_array c.args.self.now.moment c.args.kept = c.set_array.ensures ∙ ap (λ (z : ℤ). set_array z c.args.kept) moment in
    let at_uri = subst (λ (u : StoreUri). IfOk c.put_seen.result (λ d. d ≡ granted_unless (found_refusal s.stage (Object u) c.set_array.result c.args.found) [])) c.in_ok-copy.ensures c.put_seen.ensures.decision in
    subst (λ (o : Op). IfOk c.put_seen.result (λ d. d ≡ granted_unless (found_refusal s.stage (Object c.args.kept.key.uri) o c.args.found) [])) op at_uri

pub returns-clause-state : goal.returns-clause-state
returns-clause-state c =
    let s = c.args.state.now in
    let moment : to_z w64 (of_z w64 c.args.self.now.moment) ≡ c.args.self.now.moment = to_z-of_z w64 c.args.self.now.moment (search rules) in
    let op : c.set_array.result ≡ set_array c.args.self.now.moment c.args.kept = c.set_array.ensures ∙ ap (λ (z : ℤ). set_array z c.args.kept) moment in
    let at_uri = subst (λ (u : StoreUri). OnOk c.put_seen.result (c.put_seen.new.scope ≡ putting s (Object u) c.set_array.result c.args.found)) c.in_ok-copy.ensures c.put_seen.ensures.state in
    subst (λ (o : Op). OnOk c.put_seen.result (c.put_seen.new.scope ≡ putting s (Object c.args.kept.key.uri) o c.args.found)) op at_uri
