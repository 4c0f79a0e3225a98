use Rattle.std.proofs.Common.{◌≡◌, ◌∙◌, subst, w64, to_z, of_z}
use Rattle.std.proofs.lemmas.Int.{to_z-of_z}
use Rattle.std.specs.Prelude.{IfOk}
use Rattle.keyed_requests.specs.Plain.{plain_reply}
use Rattle.channel_rows.specs.Loads.{truncate_decided, truncate_response}
use Rattle.channel_rows.proofs.truncating.truncate_reply.Goals as goal

pub returns : goal.returns
returns c =
    let all : c.from_vec-findings.result ≡ c.args.verdicts = c.from_vec-findings.ensures ∙ c.into_vec.ensures.items in
    let same : to_z w64 (of_z w64 c.args.moment) ≡ c.args.moment = to_z-of_z w64 c.args.moment c.ranges.moment in
    subst (λ m. IfOk c.request_reply.result (λ l. l ≡ plain_reply (truncate_decided m) truncate_response c.args.items c.args.verdicts)) same
    (subst (λ found. IfOk c.request_reply.result (λ l. l ≡ plain_reply (truncate_decided (to_z w64 (of_z w64 c.args.moment))) truncate_response c.args.items found)) all c.request_reply.ensures.sendings)
