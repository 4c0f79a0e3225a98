use Rattle.std.proofs.Common.{◌≡◌, ◌∙◌, subst}
use Rattle.std.specs.Prelude.{IfOk}
use Rattle.request_scope.specs.Reply.{scoped_reply}
use Rattle.session_rows.specs.Objects.{get_one, get_response}
use Rattle.session_rows.proofs.objects.getting.get_reply.Goals as goal

pub returns : goal.returns
returns c =
    let all : c.from_vec-findings.result ≡ c.args.looks = c.from_vec-findings.ensures ∙ c.into_vec.ensures in
    subst (λ found. IfOk c.scoped_reply.result (λ r. r ≡ scoped_reply (get_one c.args.format) 1 get_response c.args.stage c.args.items found)) all c.scoped_reply.ensures
