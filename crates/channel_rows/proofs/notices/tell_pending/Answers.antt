use Rattle.std.proofs.Common.{ap, ◌∙◌, ◌++◌, ◌∷◌, List, [], drop}
use Rattle.channel_store.specs.declared.change.ChannelChange.{ChannelChange}
use Rattle.keyed_requests.specs.declared.sending.Sending.TheVariants.{Notice}
use Rattle.msg_channel.specs.declared.channel_subscribe_messages.ChannelSubscribeMessage.{ChannelSubscribeMessage}
use Rattle.subscribe_core.specs.Subscriptions.{Subbed}
use Rattle.channel_rows.specs.Notices.{notice}
use Rattle.channel_rows.proofs.TellingLemmas.{all_told, fewer_left, next_told, none_left}
use Rattle.channel_rows.proofs.notices.tell_pending.Goals as goal

pub loop-told-preserved : goal.loop-told-preserved
loop-told-preserved c = record {
  subs = ap (λ (v : Subbed). record v { pending = [] }) c.in-Some.ensures.rest ∙ c.loop-told.invariant.subs;
  notices =
      next_told notice c.loop-told.notices.items c.push.new.self.items c.loop-told.subs.pending c.next.new.self.pending _ _ c.in-Some.ensures.first (ap (λ (v : Subbed). v.pending) c.in-Some.ensures.rest)
      (c.in_ok-push.ensures.items ∙ ap (λ (m : ChannelSubscribeMessage). c.loop-told.notices.items ++ Notice m ∷ []) c.in_ok-message.ensures) c.loop-told.invariant.notices;
}

pub loop-told-smaller : goal.loop-told-smaller
loop-told-smaller c = fewer_left c.loop-told.subs.pending c.next.new.self.pending _ c.in-Some.ensures.first (ap (λ (v : Subbed). v.pending) c.in-Some.ensures.rest)

pub returns : goal.returns
returns c = record {
  subs =
      c.in_default.ensures.rest
      ∙ ap (λ (ps : List ChannelChange). record c.loop-told.subs { pending = drop 1 ps }) (none_left c.loop-told.subs.pending c.in_default.ensures.first)
      ∙ c.loop-told.invariant.subs;
  notices = all_told notice c.loop-told.notices.items c.loop-told.subs.pending _ c.in_default.ensures.first c.loop-told.invariant.notices;
}
