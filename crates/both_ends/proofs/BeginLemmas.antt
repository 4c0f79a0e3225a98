-- The reply with which a subscription is accepted, as a client takes it.
use Rattle.std.proofs.Common.{◌≡◌, ℕ, ℤ, true, false, List, [], ◌∷◌, None, Ok, map, refl, sym, ap, subst, ◌∙◌}
use Rattle.client_core.specs.Answers.{done, subscribed, without}
use Rattle.client_core.specs.Joining.{grown, is_broken}
use Rattle.client_core.specs.State.{Heard}
use Rattle.client_core.specs.Taking.{Taken, by_answer, by_due, may_come, on_read, on_whole}
use Rattle.client_core.specs.declared.got.Got.TheVariants as got
use Rattle.client_core.specs.declared.state.Due.TheVariants as due
use Rattle.client_laws.specs.Parts.{IsFree, PartsAreJoined, Sent, Splits, at_last}
use Rattle.client_laws.proofs.TakenLemmas.{ends_fresh, on_part_of}
use Rattle.etp_frame.specs.declared.header.Header.{Header}
use Rattle.etp_frame.specs.declared.message.Message.{Message}
use Rattle.etp_frame.specs.declared.message.Message.TheVariants as message
use Rattle.msg_channel.specs.declared.channel_subscribe_messages.ChannelSubscribeMessage.TheVariants as subscribe
use Rattle.msg_channel.specs.declared.channel_subscribe_messages.SubscribeChannelsResponse.{SubscribeChannelsResponse}
use Rattle.both_ends.specs.Beginnings.{IsAccepted, RepliesAccept}

abbrev pub reply_of : SubscribeChannelsResponse → Message
reply_of x = message.ChannelSubscribe (subscribe.SubscribeChannelsResponse x)

-- the client with one more subscription, and what it returns
abbrev pub begun_with : ℤ → Header → Heard → Taken
begun_with channel h s = record { state = record s { last = h.id; asks = without h.correlation s.asks; channels = subscribed channel s.channels }; result = Ok (got.Done h.correlation ∷ []) }

module _ (limit number blobs : ℕ) (x : SubscribeChannelsResponse) (channel : ℤ) (h : Header) (sent : List Sent) (s : Heard) (n : IsAccepted limit number blobs x channel h sent s) where
  may : may_come s.phase (reply_of x) ≡ true
  may = ap (λ p. may_come p (reply_of x)) n.begun

  whole : on_read h (reply_of x) s ≡ begun_with channel h s
  whole =
      let end = ends_fresh h s.last (map (λ x. x.0) sent) n.headers in
      let t : Heard = record s { last = h.id; kept = None } in
      on_part_of true false h (reply_of x) s end.0 (refl, refl, may, refl, refl) (ap (λ k. is_broken k h (reply_of x)) n.free) end.1
      ∙ ap (λ k. on_whole h (grown k (reply_of x)) t) n.free
      ∙ ap (λ d. by_due h (reply_of x) d t) n.asked
      ∙ ap (λ b. by_answer h (reply_of x) (due.Subscription channel) (done h.correlation b) t) n.grants
      ∙ ap (λ k. begun_with channel h (record s { kept = k })) (sym n.free)

  split : Splits limit number blobs h (reply_of x) sent s
  split = record {
    messages = n.messages;
    headers = n.headers;
    without_objects = refl;
    rises = n.rise;
    free = subst (λ k. IsFree k h (reply_of x)) (sym n.free) tt;
    comes = may;
  }

pub replies_accept : PartsAreJoined → RepliesAccept
replies_accept law limit number blobs x channel h sent s n =
    let joined = law limit number blobs h (reply_of x) sent s (split limit number blobs x channel h sent s n) in
    let is = whole limit number blobs x channel h sent s n in
    (joined.0 ∙ ap (λ t. t.state) is, joined.1 ∙ ap (λ t. at_last t.result sent) is)
