-- The reply with which a subscription is accepted, and what a client makes of it.
use Rattle.std.specs.Prelude.{◌≡◌, ℕ, ℤ, true, List, [], ◌∷◌, Some, None, Ok, map}
use Rattle.client_core.specs.Answers.{due_at, is_granted, subscribed, without}
use Rattle.client_core.specs.State.{Heard}
use Rattle.client_core.specs.declared.got.Got.TheVariants as got
use Rattle.client_core.specs.declared.state.Due.TheVariants as due
use Rattle.client_core.specs.declared.state.Phase.TheVariants as phase
use Rattle.client_laws.specs.Parts.{AreOfParts, Rise, Sent, at_last, given_by, left_by}
use Rattle.etp_frame.specs.Splitting.{parts}
use Rattle.etp_frame.specs.declared.header.Header.{Header}
use Rattle.etp_frame.specs.declared.message.Message.TheVariants as message
use Rattle.msg_channel.specs.declared.channel_subscribe_messages.ChannelSubscribeMessage.TheVariants as subscribe
use Rattle.msg_channel.specs.declared.channel_subscribe_messages.SubscribeChannelsResponse.{SubscribeChannelsResponse}

-- These are the parts of a reply that grants the key under which a client asks, to an ask of it that waits for a subscription of this
-- channel; the client's session is open, and it keeps no part of another message.
pub record IsAccepted (limit number blobs : ℕ) (x : SubscribeChannelsResponse) (channel : ℤ) (h : Header) (sent : List Sent) (s : Heard) : Type 0 where
  pub messages : map (λ x. x.1) sent ≡ parts limit number blobs (message.ChannelSubscribe (subscribe.SubscribeChannelsResponse x))
  pub headers : AreOfParts h s.last (map (λ x. x.0) sent)
  pub rise : Rise x.success
  pub grants : is_granted x.success ≡ true
  pub asked : due_at h.correlation s.asks ≡ Some (due.Subscription channel)
  pub begun : s.phase ≡ phase.Open
  pub free : s.kept ≡ None

-- then the last part says that the ask is done; it is over, and the subscription of the channel is active from there on, with an empty copy
abbrev pub RepliesAccept : Type 0
RepliesAccept = (limit number blobs : ℕ) (x : SubscribeChannelsResponse) (channel : ℤ) (h : Header) (sent : List Sent) (s : Heard) → IsAccepted limit number blobs x channel h sent s
    → (left_by s sent ≡ record s { last = h.id; asks = without h.correlation s.asks; channels = subscribed channel s.channels }) × (given_by s sent ≡ at_last (Ok (got.Done h.correlation ∷ [])) sent)
