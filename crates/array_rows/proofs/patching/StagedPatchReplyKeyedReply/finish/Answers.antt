use Rattle.std.proofs.Common.{◌≡◌, ◌∙◌, ℤ, ap, rules, subst, to_z, of_z, w64}
use Rattle.std.proofs.lemmas.Int.{to_z-of_z}
use Rattle.std.specs.Prelude.{IfOk, OnOk, slice_get}
use Rattle.array_store.specs.declared.record.ArrayRecord.{ArrayRecord}
use Rattle.keyed_requests.specs.declared.keys.Decision.{Decision}
use Rattle.array_rows.specs.Changing.{patch_seen}
use Rattle.array_rows.specs.Reading.{array_seen}
use Rattle.array_rows.proofs.patching.StagedPatchReplyKeyedReply.finish.Goals as goal

pub returns-clause-decision : goal.returns-clause-decision
returns-clause-decision c =
    let s = c.args.state.now in
    let m = c.args.self.now.moment in
    let moment : to_z w64 (of_z w64 m) ≡ m = to_z-of_z w64 m (search rules) in
    let seen : c.in_ok-seen.seen ≡ array_seen s.stage c.args.kept.key (slice_get c.args.found 0) = c.in_ok-seen.ensures ∙ ap (array_seen s.stage c.args.kept.key) c.first_found.ensures in
    let by_seen = subst (λ (v : Decision ArrayRecord). IfOk c.patch_seen.result (λ d. d ≡ (patch_seen (to_z w64 (of_z w64 m)) s c.args.kept v).1)) seen c.patch_seen.ensures.decision in
    subst (λ (z : ℤ). IfOk c.patch_seen.result (λ d. d ≡ (patch_seen z s c.args.kept (array_seen s.stage c.args.kept.key (slice_get c.args.found 0))).1)) moment by_seen

pub returns-clause-state : goal.returns-clause-state
returns-clause-state c =
    let s = c.args.state.now in
    let m = c.args.self.now.moment in
    let moment : to_z w64 (of_z w64 m) ≡ m = to_z-of_z w64 m (search rules) in
    let seen : c.in_ok-seen.seen ≡ array_seen s.stage c.args.kept.key (slice_get c.args.found 0) = c.in_ok-seen.ensures ∙ ap (array_seen s.stage c.args.kept.key) c.first_found.ensures in
    let by_seen = subst (λ (v : Decision ArrayRecord). OnOk c.patch_seen.result (c.patch_seen.new.scope ≡ (patch_seen (to_z w64 (of_z w64 m)) s c.args.kept v).0)) seen c.patch_seen.ensures.state in
    subst (λ (z : ℤ). OnOk c.patch_seen.result (c.patch_seen.new.scope ≡ (patch_seen z s c.args.kept (array_seen s.stage c.args.kept.key (slice_get c.args.found 0))).0)) moment by_seen
