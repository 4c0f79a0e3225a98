-- The notices about channels that a session sends its client.
use Rattle.std.specs.Prelude.{ℕ, ℤ, List, [], ◌∷◌, ◌++◌, Option, Some, None, codes, map, fold}
use Rattle.std.specs.BTreeMap.{insert_entry}
use Rattle.std.specs.Cmp.Lexicographic.{slice_cmp}
use Rattle.std.specs.Fmt.{decimal, signed_decimal}
use Rattle.std.specs.List.{flat_map}
use Rattle.std.specs.Ordering.{nat_cmp}
use Rattle.channel_store.specs.declared.change.ChannelChange.{ChannelChange}
use Rattle.channel_store.specs.declared.change.What.{What}
use Rattle.channel_store.specs.declared.change.What.TheVariants.{Append, Replace, Truncate}
use Rattle.channel_store.specs.declared.subscription.Sub.{Sub}
use Rattle.etp_values.specs.declared.point.Point.{Point}
use Rattle.keyed_requests.specs.declared.sending.Sending.{Sending}
use Rattle.keyed_requests.specs.declared.sending.Sending.TheVariants.{Notice}
use Rattle.msg_channel.specs.declared.channel_subscribe_messages.ChannelSubscribeMessage.{ChannelSubscribeMessage}
use Rattle.msg_channel.specs.declared.channel_subscribe_messages.ChannelSubscribeMessage.TheVariants as message
use Rattle.msg_channel.specs.declared.indexes.IndexInterval.{IndexInterval}
use Rattle.msg_channel.specs.declared.indexes.IndexValue.TheVariants as index
use Rattle.subscribe_core.specs.Subscriptions.{Subbed}
use Rattle.subscribe_core.specs.Views.{told}
use Rattle.subscribe_core.specs.declared.stop.StopCause.{StopCause}
use Rattle.subscribe_core.specs.declared.stop.StopCause.TheVariants.{Unsubscribed, Lagged}
use Rattle.channel_rows.specs.Points.{items_of}

-- points after the last one
abbrev pub append_notice : ℤ → List Point → ChannelSubscribeMessage
append_notice channel points = message.ChannelData (record { payload = items_of channel points })

-- an interval of times
abbrev pub interval_of : ℤ → ℤ → IndexInterval
interval_of from to = record { start_index = index.Long from; end_index = index.Long to; uom = []; depth_datum = [] }

-- the notice of a change
abbrev pub notice_of : ℤ → ℤ → What → ChannelSubscribeMessage
notice_of at channel (Append points) = append_notice channel points
notice_of at channel (Replace from to points) = message.RangeReplaced (record { change_time = at; channel_ids = channel ∷ []; changed_interval = interval_of from to; payload = items_of channel points })
notice_of at channel (Truncate end) = message.ChannelsTruncated (record { change_time = at; channels = record { channel_id = channel; new_end_index = index.Long end } ∷ [] })

abbrev pub notice : ChannelChange → Sending ChannelSubscribeMessage
notice c = Notice (notice_of c.at c.channel c.what)

-- ---- the end of subscriptions

-- why subscriptions ended, in the words that the client gets
abbrev pub reason_of : StopCause → List ℕ
reason_of Unsubscribed = codes "unsubscribed"
reason_of (Lagged lag) = codes "lagged " ++ decimal lag

abbrev pub stop_response : StopCause → List (List ℕ × ℤ) → ChannelSubscribeMessage
stop_response cause ids = message.SubscriptionsStopped (record { reason = reason_of cause; channel_ids = ids })

-- channels under their ids in decimal
abbrev pub ids_of : List Sub → List (List ℕ × ℤ)
ids_of subs = fold (λ ids s. insert_entry (slice_cmp nat_cmp) ids (signed_decimal s.channel) s.channel) [] subs

-- ---- News

-- what is sent, and the subscriptions that are left
pub record Told : Type 0 where
  pub subs : Subbed
  pub sendings : List (Sending ChannelSubscribeMessage)

-- all subscriptions end if too many entries were left to send, otherwise all changes are sent
abbrev pub news_told : Option StopCause → ℕ → List ChannelChange → Subbed → Told
news_told (Some cause) upto changes v = record { subs = record v { subs = [] }; sendings = Notice (stop_response cause (ids_of v.subs)) ∷ [] }
news_told None upto changes v = record {
  subs = record v { cursor = upto; pending = [] };
  sendings = map notice (v.pending ++ flat_map (told v.subs) changes);
}
