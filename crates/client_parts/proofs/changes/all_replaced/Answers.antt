use Rattle.std.proofs.Common.{◌≡◌, ◌∙◌, [], ap, arith, get_or, of_z, to_z, w64}
use Rattle.std.proofs.lemmas.Grind.{common_steps}
use Rattle.std.proofs.lemmas.Int.{to_z-of_z}
use Rattle.std.specs.BTreeMap.{get}
use Rattle.std.specs.Option.{unwrap_or}
use Rattle.std.specs.Ordering.{int_cmp}
use Rattle.std.specs.Prelude.{ℤ, pos}
use Rattle.channel_store.specs.declared.copy.ChangeMsg.{ChangeMsg}
use Rattle.client_parts.specs.Changes.{replaced_by}
use Rattle.client_parts.proofs.GroupLemmas.{changes_done, changes_more}
use Rattle.client_parts.proofs.changes.all_replaced.Goals as goal

pub loop-channel-preserved : goal.loop-channel-preserved
loop-channel-preserved c =
    let ids = c.args.channels.now in
    let n = c.loop-channel.channel-index in
    let id = get_or ids n (pos 0) in
    let key : to_z w64 (of_z w64 id) ≡ id = grind (arith, common_steps, to_z-of_z) in
    let by : ℤ → ChangeMsg = λ k. replaced_by c.args.interval.now (unwrap_or (get int_cmp c.args.held k) []) k in
    record {
      same = λ q. c.in_ok-change.ensures.same q ∙ c.loop-channel.invariant.same q;
      changes = changes_more by ids n (to_z w64 (of_z w64 id)) c.in_ok-change.change _ _ _ c.loop-channel-test.true c.in_ok-push.ensures.items
          (c.in_ok-change.ensures.change ∙ ap (λ t. replaced_by c.args.interval.now (unwrap_or t []) (to_z w64 (of_z w64 id))) (c.loop-channel.invariant.same (to_z w64 (of_z w64 id)))) key c.loop-channel.invariant.changes;
    }

pub returns : goal.returns
returns c =
    c.from_vec.ensures
    ∙ changes_done (λ k. replaced_by c.args.interval.now (unwrap_or (get int_cmp c.args.held k) []) k) c.args.channels.now c.loop-channel.channel-index _ _ c.loop-channel-test.false c.loop-channel.invariant.changes
