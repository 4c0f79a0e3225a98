use Rattle.std.proofs.Common.{◌≡◌, ◌∙◌, subst}
use Rattle.std.specs.Prelude.{IfOk}
use Rattle.keyed_requests.specs.Plain.{plain_reply}
use Rattle.session_rows.specs.Objects.{put_decided, put_response}
use Rattle.session_rows.proofs.objects.putting.put_reply.Goals as goal

pub returns : goal.returns
returns c =
    let all : c.from_vec-findings.result ≡ c.args.verdicts = c.from_vec-findings.ensures ∙ c.into_vec.ensures.items in
    subst (λ found. IfOk c.request_reply.result (λ l. l ≡ plain_reply put_decided put_response c.args.items found)) all c.request_reply.ensures.sendings
