use Rattle.std.proofs.Common.{◌≡◌, ◌∙◌, subst}
use Rattle.std.specs.Prelude.{IfOk}
use Rattle.keyed_requests.specs.Keyed.{finished, request_reply}
use Rattle.keyed_requests.specs.Plain.{nothing}
use Rattle.session_rows.specs.Objects.{delete_one, delete_response}
use Rattle.session_rows.proofs.objects.deleting.delete_reply.Goals as goal

pub returns : goal.returns
returns c =
    let all : c.from_vec-findings.result ≡ c.args.verdicts = c.from_vec-findings.ensures ∙ c.into_vec.ensures.items in
    subst (λ found. IfOk c.request_reply.result (λ l. l ≡ request_reply delete_response (finished delete_one 1 nothing c.args.items found))) all c.request_reply.ensures.sendings
