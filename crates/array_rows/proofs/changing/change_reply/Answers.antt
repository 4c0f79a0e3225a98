use Rattle.std.proofs.Common.{◌≡◌, ◌∙◌, subst}
use Rattle.std.specs.Prelude.{IfOk}
use Rattle.keyed_requests.specs.Plain.{plain_reply}
use Rattle.array_rows.specs.Changing.{change_response, decided_found}
use Rattle.array_rows.proofs.changing.change_reply.Goals as goal

pub returns : goal.returns
returns c =
    let all : c.from_vec-findings.result ≡ c.args.verdicts = c.from_vec-findings.ensures ∙ c.into_vec.ensures.items in
    subst (λ found. IfOk c.request_reply.result (λ l. l ≡ plain_reply decided_found (change_response c.args.what) c.args.items found)) all c.request_reply.ensures.sendings
