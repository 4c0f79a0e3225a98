use Rattle.std.proofs.Common.{◌≡◌, ℤ, subst, w64}
use Rattle.std.proofs.lemmas.Int.{to_z-of_z}
use Rattle.std.specs.Prelude.{IfOk}
use Rattle.request_scope.specs.Reply.{scoped_reply}
use Rattle.array_rows.specs.Changing.{change_response, staged_put}
use Rattle.array_rows.proofs.changing.staged_put_reply.Goals as goal

pub returns : goal.returns
returns c = subst (λ (z : ℤ). IfOk c.seen_reply.result (λ r. r ≡ scoped_reply (staged_put z) 2 (change_response c.args.what) c.args.stage c.args.items c.args.looks)) (to_z-of_z w64 c.args.moment c.ranges.moment) c.seen_reply.ensures
