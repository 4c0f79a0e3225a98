use Rattle.std.proofs.Common.{◌≡◌, ◌∙◌, subst, of_z, to_z, w64}
use Rattle.std.proofs.lemmas.Int.{to_z-of_z}
use Rattle.std.specs.Prelude.{IfOk}
use Rattle.request_scope.specs.Reply.{scoped_reply}
use Rattle.session_rows.specs.Objects.{put_response, staged_put}
use Rattle.session_rows.proofs.objects.putting.staged_put_reply.Goals as goal

pub returns : goal.returns
returns c =
    let all : c.from_vec-findings.result ≡ c.args.looks = c.from_vec-findings.ensures ∙ c.into_vec.ensures in
    let replied = subst (λ found. IfOk c.scoped_reply.result (λ r. r ≡ scoped_reply (staged_put (to_z w64 (of_z w64 c.args.moment))) 2 put_response c.args.stage c.args.items found)) all c.scoped_reply.ensures in
    subst (λ at. IfOk c.scoped_reply.result (λ r. r ≡ scoped_reply (staged_put at) 2 put_response c.args.stage c.args.items c.args.looks)) (to_z-of_z w64 c.args.moment c.ranges.moment) replied
