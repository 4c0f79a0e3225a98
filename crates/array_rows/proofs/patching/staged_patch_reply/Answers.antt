use Rattle.std.proofs.Common.{◌≡◌, ℤ, subst, w64}
use Rattle.std.proofs.lemmas.Int.{to_z-of_z}
use Rattle.std.specs.Prelude.{IfOk}
use Rattle.request_scope.specs.Reply.{scoped_reply}
use Rattle.array_rows.specs.Changing.{change_response, staged_patch}
use Rattle.array_rows.specs.declared.changing.ArrayChange.TheVariants as change
use Rattle.array_rows.proofs.patching.staged_patch_reply.Goals as goal

pub returns : goal.returns
returns c = subst (λ (z : ℤ). IfOk c.seen_reply.result (λ r. r ≡ scoped_reply (staged_patch z) 1 (change_response change.Patch) c.args.stage c.args.items c.args.looks)) (to_z-of_z w64 c.args.moment c.ranges.moment) c.seen_reply.ensures
