-- What is sent when a SubscribeChannels is answered.
use Rattle.std.specs.Prelude.{ℕ, List, [], ◌++◌, ◌≡◌, map}
use Rattle.std.proofs.Common.{◌∙◌}
use Rattle.keyed_requests.specs.Keyed.{finished, finished_state, request_reply}
use Rattle.keyed_requests.specs.declared.keys.Decision.{Decision}
use Rattle.keyed_requests.specs.declared.sending.Sending.{Sending}
use Rattle.keyed_requests.specs.declared.sending.Sending.TheVariants.{Notice}
use Rattle.msg_channel.specs.declared.channel_subscribe_messages.ChannelSubscribeMessage.{ChannelSubscribeMessage}
use Rattle.store_machine.specs.declared.call.StartAsk.{StartAsk}
use Rattle.store_machine.specs.declared.call.StartReply.{StartReply}
use Rattle.subscribe_core.specs.Subscriptions.{Subbed}
use Rattle.channel_rows.specs.Subscriptions.{beginning, subscribe_response}
use Rattle.channel_rows.specs.declared.subscribing.Beginning.{Beginning}

abbrev pub begun_with : Subbed → List ChannelSubscribeMessage → Beginning
begun_with subs notices = record { subs = subs; notices = notices }

-- the reply, and then the notices of the subscriptions that began
pub begun_reply : (one : Beginning → List ℕ → StartAsk → List (List ℕ × StartReply) → Beginning × Decision (List ℕ)) (subs : Subbed) (items : List (List ℕ × Decision StartAsk)) (found started : List (List ℕ × StartReply)) (none : List ChannelSubscribeMessage) (last : Beginning) (said all : List (Sending ChannelSubscribeMessage))
    → found ≡ started → none ≡ []
    → said ≡ request_reply subscribe_response (finished one 1 (begun_with subs none) items found)
    → last ≡ finished_state one 1 (begun_with subs none) items found
    → all ≡ said ++ map Notice last.notices
    → all ≡ request_reply subscribe_response (finished one 1 (beginning subs) items started) ++ map Notice (finished_state one 1 (beginning subs) items started).notices
begun_reply one subs items found started none last said all is_found is_none is_said is_last is =
    is
    ∙ (λ i. is_said i ++ map Notice (is_last i).notices)
    ∙ (λ i. request_reply subscribe_response (finished one 1 (begun_with subs (is_none i)) items (is_found i)) ++ map Notice (finished_state one 1 (begun_with subs (is_none i)) items (is_found i)).notices)
