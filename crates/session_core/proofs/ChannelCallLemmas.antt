-- What the channel protocols ask of the store concerns only channels; for the crates above too.
use Rattle.std.specs.Prelude.{ℕ, ℤ, ◌==◌, Bool, true, false, not, length, List, [], ◌∷◌, Option, Some, None, if◌then◌else◌}
use Rattle.channel_rows.specs.Loads as loads
use Rattle.channel_rows.specs.Opens.{are_open}
use Rattle.channel_rows.specs.Points.{ends_of}
use Rattle.channel_rows.specs.Subscriptions as subscribes
use Rattle.channel_rows.specs.declared.subscriptions.SubscribePending.{SubscribePending}
use Rattle.channel_rows.specs.declared.subscriptions.SubscribePending.TheVariants as keeps_subscription
use Rattle.channel_store.specs.declared.subscription.Sub.{Sub}
use Rattle.etp_values.specs.declared.code.ErrorCode.{ErrorCode}
use Rattle.etp_values.specs.declared.code.ErrorCode.TheVariants as code
use Rattle.etp_values.specs.declared.point.ChannelPoint.{ChannelPoint}
use Rattle.etp_values.specs.declared.uri.StoreUri.{StoreUri}
use Rattle.keyed_requests.specs.Keys.{keys_refusal}
use Rattle.keyed_requests.specs.Sending.{refusal_alone, unless_refused}
use Rattle.keyed_requests.specs.declared.keys.Decision.{Decision}
use Rattle.keyed_requests.specs.declared.keys.Decision.TheVariants.{Granted, Refused}
use Rattle.keyed_requests.specs.declared.sending.Outcome.{Outcome}
use Rattle.keyed_requests.specs.declared.sending.Outcome.TheVariants.{Replies, Calls}
use Rattle.msg_channel.specs.declared.channel_data_load_messages.ChannelDataLoadMessage.{ChannelDataLoadMessage}
use Rattle.msg_channel.specs.declared.channel_data_load_messages.ChannelDataLoadMessage.TheVariants as load
use Rattle.msg_channel.specs.declared.channel_data_load_messages.ReplaceRange.{ReplaceRange}
use Rattle.msg_channel.specs.declared.channel_subscribe_messages.ChannelSubscribeInfo.{ChannelSubscribeInfo}
use Rattle.msg_channel.specs.declared.channel_subscribe_messages.ChannelSubscribeMessage.{ChannelSubscribeMessage}
use Rattle.msg_channel.specs.declared.channel_subscribe_messages.ChannelSubscribeMessage.TheVariants as subscribe
use Rattle.msg_channel.specs.declared.points.TruncateInfo.{TruncateInfo}
use Rattle.store_machine.specs.declared.call.Cutting.{Cutting}
use Rattle.store_machine.specs.declared.call.RangeAsk.{RangeAsk}
use Rattle.store_machine.specs.declared.call.StartAsk.{StartAsk}
use Rattle.store_machine.specs.declared.call.StoreCall.TheVariants as call
use Rattle.subscribe_core.specs.Subscriptions.{Subbed}
use Rattle.store_machine.specs.Laws.{IsCallAt}
use Rattle.store_machine.specs.declared.journal.Entry.{Entry}
use Rattle.store_machine.specs.declared.call.StoreCall.{StoreCall}
use Rattle.session_core.specs.Staged.{IsOfChannels}

abbrev pub CallsOfChannels : {P M : Type 0} → Outcome StoreCall P M → Type 0
CallsOfChannels (Replies sendings) = Unit {0}
CallsOfChannels (Calls c p) = IsOfChannels c

unless : {P M : Type 0} (why : Option ErrorCode) (o : Outcome StoreCall P M) → CallsOfChannels o → CallsOfChannels (unless_refused why o)
unless (Some code) o of = tt
unless None o of = of

-- ---- ChannelDataLoad
open_channels : (o : Outcome (List (List ℕ × StoreUri)) (List (List ℕ × Decision (Unit {0}))) ChannelDataLoadMessage) → CallsOfChannels (loads.open_call o)
open_channels (Replies sendings) = tt
open_channels (Calls c p) = tt

truncate_channels : (at : ℤ) (o : Outcome (List (List ℕ × Cutting)) (List (List ℕ × Decision (Unit {0}))) ChannelDataLoadMessage) → CallsOfChannels (loads.truncate_call at o)
truncate_channels at (Replies sendings) = tt
truncate_channels at (Calls c p) = tt

load_points : (d : Decision (List ChannelPoint)) → CallsOfChannels (loads.load_called d)
load_points (Refused code) = tt
load_points (Granted []) = tt
load_points (Granted (p ∷ ps)) = tt

replace_points : (at : ℤ) (channels : List ℤ) (ends : ℤ × ℤ) (d : Decision (List ChannelPoint)) → CallsOfChannels (loads.replace_call at channels ends d)
replace_points at channels ends (Refused code) = tt
replace_points at channels ends (Granted ps) = tt

replace_within : (opens : List Bool) (at : ℤ) (m : ReplaceRange) (ends : Option (ℤ × ℤ)) → CallsOfChannels (loads.replace_within opens at m ends)
replace_within opens at m None = tt
replace_within opens at m (Some ends) = replace_points at m.channel_ids ends _

open_uris : (uris : List (List ℕ × List ℕ)) → CallsOfChannels (loads.open_outcome uris)
open_uris uris = open_channels _

truncate_items : (opens : List Bool) (at : ℤ) (items : List (List ℕ × TruncateInfo)) → CallsOfChannels (loads.truncate_outcome opens at items)
truncate_items opens at items = truncate_channels at _

-- a replacement without channels, or of some that are not all open, is refused
abbrev replaced : Bool → Bool → List Bool → ℤ → ReplaceRange → loads.LoadOutcome
replaced none some_closed opens at m =
    if none then Replies (refusal_alone code.InvalidArgument)
    else if some_closed then Replies (refusal_alone code.NotFound)
    else loads.replace_within opens at m (ends_of m.changed_interval)

replace_range : (none some_closed : Bool) (opens : List Bool) (at : ℤ) (m : ReplaceRange) → CallsOfChannels (replaced none some_closed opens at m)
replace_range true some_closed opens at m = tt
replace_range false true opens at m = tt
replace_range false false opens at m = replace_within opens at m (ends_of m.changed_interval)

leaving : (why : Option ErrorCode) (opens : List Bool) (l : loads.Loading) → CallsOfChannels l.outcome → CallsOfChannels (loads.unless_leaving why opens l).outcome
leaving (Some code) opens l asks = tt
leaving None opens l asks = asks

pub of_load_message : (opens : List Bool) (at : ℤ) (m : ChannelDataLoadMessage) → CallsOfChannels (loads.load_outcome opens at m).outcome
of_load_message opens at (load.OpenChannels m) = unless _ _ (open_uris m.uris)
of_load_message opens at (load.CloseChannels m) = leaving (keys_refusal m.id) opens (loads.close_outcome opens m.id) tt
of_load_message opens at (load.LoadChannelData m) = load_points _
of_load_message opens at (load.ReplaceRange m) = replace_range (length m.channel_ids == 0) (not (are_open opens m.channel_ids)) opens at m
of_load_message opens at (load.TruncateChannels m) = unless _ _ (truncate_items opens at m.channels)
of_load_message opens at (load.OpenChannelsResponse m) = tt
of_load_message opens at (load.ChannelsClosed m) = tt
of_load_message opens at (load.ReplaceRangeResponse m) = tt
of_load_message opens at (load.TruncateChannelsResponse m) = tt

-- ---- ChannelSubscribe
channel_metadata : (o : Outcome (List (List ℕ × StoreUri)) (List (List ℕ × Decision (Unit {0}))) ChannelSubscribeMessage) → CallsOfChannels (subscribes.metadata_call o)
channel_metadata (Replies sendings) = tt
channel_metadata (Calls c p) = tt

subscribe_channels : (o : Outcome (List (List ℕ × StartAsk)) (List (List ℕ × Decision StartAsk)) ChannelSubscribeMessage) → CallsOfChannels (subscribes.subscribe_call o)
subscribe_channels (Replies sendings) = tt
subscribe_channels (Calls c p) = tt

stopping : (why : Option ErrorCode) (v : Subbed) (l : subscribes.Subscribing) → CallsOfChannels l.outcome → CallsOfChannels (subscribes.unless_leaving why v l).outcome
stopping (Some code) v l asks = tt
stopping None v l asks = asks

metadata_uris : (uris : List (List ℕ × List ℕ)) → CallsOfChannels (subscribes.metadata_outcome uris)
metadata_uris uris = channel_metadata _

subscribe_items : (subs : List Sub) (items : List (List ℕ × ChannelSubscribeInfo)) → CallsOfChannels (subscribes.begin_outcome subs items)
subscribe_items subs items = subscribe_channels _

get_ranges : (why : Option ErrorCode) (asks : List RangeAsk) → CallsOfChannels {P = SubscribePending} {M = ChannelSubscribeMessage} (unless_refused why (Calls (call.Range asks) keeps_subscription.Ranges))
get_ranges (Some code) asks = tt
get_ranges None asks = tt

pub of_subscribe_message : (v : Subbed) (m : ChannelSubscribeMessage) → CallsOfChannels (subscribes.subscribe_outcome v m).outcome
of_subscribe_message v (subscribe.GetChannelMetadata m) = unless _ _ (metadata_uris m.uris)
of_subscribe_message v (subscribe.SubscribeChannels m) = unless _ _ (subscribe_items v.subs m.channels)
of_subscribe_message v (subscribe.UnsubscribeChannels m) = stopping (keys_refusal m.channel_ids) v (subscribes.stop_outcome v m.channel_ids) tt
of_subscribe_message v (subscribe.GetRanges m) = get_ranges (subscribes.ranges_refusal m.channel_ranges) (subscribes.asks_of m.channel_ranges)
of_subscribe_message v (subscribe.GetChannelMetadataResponse m) = tt
of_subscribe_message v (subscribe.ChannelData m) = tt
of_subscribe_message v (subscribe.RangeReplaced m) = tt
of_subscribe_message v (subscribe.SubscriptionsStopped m) = tt
of_subscribe_message v (subscribe.GetRangesResponse m) = tt
of_subscribe_message v (subscribe.SubscribeChannelsResponse m) = tt
of_subscribe_message v (subscribe.ChannelsTruncated m) = tt

-- a session may make such a call at each history
pub channels_ask : (h : List Entry) (c : StoreCall) → IsOfChannels c → IsCallAt h c
channels_ask h call.Enter of = of
channels_ask h _ of = tt
