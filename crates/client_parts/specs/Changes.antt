-- What a server sends, without being asked, about channels that are subscribed to.
use Rattle.std.specs.Prelude.{ℤ, pos, Bool, true, false, ◌&&◌, List, [], ◌∷◌, ◌++◌, Option, Some, None, filter, fold, map, option_map, if◌then◌else◌}
use Rattle.std.specs.List.{list_all, list_any}
use Rattle.std.specs.Ordering.{int_eq}
use Rattle.etp_values.specs.declared.point.ChannelPoint.{ChannelPoint}
use Rattle.etp_values.specs.declared.point.Point.{Point}
use Rattle.channel_store.specs.declared.change.What.TheVariants.{Append, Replace, Truncate}
use Rattle.channel_store.specs.declared.copy.ChangeMsg.{ChangeMsg}
use Rattle.msg_channel.specs.declared.channel_ranges.RangeReplaced.{RangeReplaced}
use Rattle.msg_channel.specs.declared.channel_subscribe_messages.ChannelSubscribeMessage.{ChannelSubscribeMessage}
use Rattle.msg_channel.specs.declared.channel_subscribe_messages.ChannelSubscribeMessage.TheVariants as subscribe
use Rattle.msg_channel.specs.declared.indexes.IndexInterval.{IndexInterval}
use Rattle.msg_channel.specs.declared.indexes.IndexValue.{IndexValue}
use Rattle.msg_channel.specs.declared.indexes.IndexValue.TheVariants as index
use Rattle.msg_channel.specs.declared.points.DataItem.{DataItem}
use Rattle.msg_channel.specs.declared.points.TruncateInfo.{TruncateInfo}
use Rattle.client_parts.specs.declared.changes.Run.{Run}

-- ---- points

abbrev pub is_long : IndexValue → Bool
is_long (index.Long z) = true
is_long _ = false

-- the number of an index that is a long
abbrev pub long_of : IndexValue → ℤ
long_of (index.Long z) = z
long_of _ = pos 0

-- an item with one index, which is a long
abbrev pub has_one_long : List IndexValue → Bool
has_one_long (i ∷ []) = is_long i
has_one_long _ = false

abbrev pub is_point : DataItem → Bool
is_point x = has_one_long x.indexes

abbrev pub index_of : List IndexValue → ℤ
index_of (i ∷ is) = long_of i
index_of [] = pos 0

abbrev pub point_of : DataItem → ChannelPoint
point_of x = record { channel = x.channel_id; point = record { index = index_of x.indexes; value = x.value } }

-- the points of items, if all of them are points
abbrev pub points_of : List DataItem → Option (List ChannelPoint)
points_of xs = if list_all is_point xs then Some (map point_of xs) else None

-- an item that is a point of this channel
abbrev pub is_point_of : ℤ → DataItem → Bool
is_point_of channel x = is_point x && int_eq x.channel_id channel

abbrev pub bare_point : DataItem → Point
bare_point x = record { index = index_of x.indexes; value = x.value }

-- the points of items, if all of them are points of this channel
abbrev pub channel_points : ℤ → List DataItem → Option (List Point)
channel_points channel xs = if list_all (is_point_of channel) xs then Some (map bare_point xs) else None

-- ---- new points: one change for each run of points of one channel

abbrev pub run_of : ChannelPoint → Run
run_of p = record { channel = p.channel; points = p.point ∷ [] }

-- a point after the last run, or in a run of its own if its channel is another
abbrev pub behind : Run → ChannelPoint → List Run
behind r p = if int_eq r.channel p.channel then record r { points = r.points ++ p.point ∷ [] } ∷ [] else r ∷ run_of p ∷ []

abbrev pub with_point : List Run → ChannelPoint → List Run
with_point [] p = run_of p ∷ []
with_point (r ∷ []) p = behind r p
with_point (r ∷ s ∷ rs) p = r ∷ with_point (s ∷ rs) p

abbrev pub runs : List ChannelPoint → List Run
runs ps = fold with_point [] ps

abbrev pub appended : Run → ChangeMsg
appended r = record { channel = r.channel; what = Append r.points }

-- ---- replaced points: one change for each channel that is listed

-- one of these channels
abbrev pub is_listed : List ℤ → ChannelPoint → Bool
is_listed channels p = list_any (λ c. int_eq c p.channel) channels

-- the points of a channel
abbrev pub of_channel : ℤ → List ChannelPoint → List Point
of_channel c ps = map (λ p. p.point) (filter (λ p. int_eq p.channel c) ps)

abbrev pub has_long_ends : IndexInterval → Bool
has_long_ends i = is_long i.start_index && is_long i.end_index

-- these points replace those of a channel in an interval
abbrev pub replaced_by : IndexInterval → List Point → ℤ → ChangeMsg
replaced_by i ps c = record { channel = c; what = Replace (long_of i.start_index) (long_of i.end_index) ps }

abbrev pub replaced : IndexInterval → List ChannelPoint → ℤ → ChangeMsg
replaced i ps c = replaced_by i (of_channel c ps) c

-- each point has to be of a channel that is listed
abbrev pub replacements : List ℤ → IndexInterval → Option (List ChannelPoint) → Option (List ChangeMsg)
replacements channels i None = None
replacements channels i (Some ps) = if list_all (is_listed channels) ps then Some (map (replaced i ps) channels) else None

abbrev pub range_changes : RangeReplaced → Option (List ChangeMsg)
range_changes x = if has_long_ends x.changed_interval then replacements x.channel_ids x.changed_interval (points_of x.payload) else None

-- ---- truncations: one change each

abbrev pub truncated : TruncateInfo → ChangeMsg
truncated t = record { channel = t.channel_id; what = Truncate (long_of t.new_end_index) }

abbrev pub truncations : List TruncateInfo → Option (List ChangeMsg)
truncations ts = if list_all (λ t. is_long t.new_end_index) ts then Some (map truncated ts) else None

-- ---- notices

-- the changes that a notice on subscriptions reports; none for another message, or if an index or a point can't be in a channel
abbrev pub subscribe_changes : ChannelSubscribeMessage → Option (List ChangeMsg)
subscribe_changes (subscribe.ChannelData x) = option_map (λ ps. map appended (runs ps)) (points_of x.payload)
subscribe_changes (subscribe.RangeReplaced x) = range_changes x
subscribe_changes (subscribe.ChannelsTruncated x) = truncations x.channels
subscribe_changes _ = None
