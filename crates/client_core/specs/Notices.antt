-- What a server sends, without being asked, about channels that are subscribed to.
use Rattle.std.specs.Prelude.{ℤ, pos, Bool, false, ◌&&◌, List, Option, None, fold, map, option_map, if◌then◌else◌}
use Rattle.std.specs.List.{find, list_all, list_any}
use Rattle.std.specs.Ordering.{int_eq}
use Rattle.etp_values.specs.declared.point.Point.{Point}
use Rattle.channel_store.specs.Points.{after}
use Rattle.channel_store.specs.declared.copy.ChangeMsg.{ChangeMsg}
use Rattle.etp_frame.specs.declared.header.Header.{Header}
use Rattle.etp_frame.specs.declared.message.Message.{Message}
use Rattle.etp_frame.specs.declared.message.Message.TheVariants as message
use Rattle.client_parts.specs.Changes.{subscribe_changes}
use Rattle.client_core.specs.State.{State}
use Rattle.client_core.specs.declared.state.Channel.{Channel}

-- the changes that a message reports, if it is a notice with long indexes
abbrev pub changes_of : Message → Option (List ChangeMsg)
changes_of (message.ChannelSubscribe x) = subscribe_changes x
changes_of _ = None

-- a notice answers nothing
abbrev pub notice : Header → Message → Option (List ChangeMsg)
notice h m = if int_eq h.correlation (pos 0) then changes_of m else None

-- ---- what changes do to the copies

-- the channel's subscription is active
abbrev pub is_live : ℤ → List Channel → Bool
is_live channel cs = list_any (λ f. int_eq f.id channel && f.live) cs

-- the changes are all of channels whose subscriptions are active
abbrev pub are_live : List Channel → List ChangeMsg → Bool
are_live cs changes = list_all (λ c. is_live c.channel cs) changes

abbrev pub followed : ChangeMsg → Channel → Channel
followed change f = if int_eq f.id change.channel then record f { copy = after f.copy change.what } else f

-- a change is taken into the channel's copy
abbrev pub follows : List Channel → ChangeMsg → List Channel
follows cs change = map (followed change) cs

abbrev pub follow_all : List Channel → List ChangeMsg → List Channel
follow_all cs changes = fold follows cs changes

-- the subscriptions of these channels end; their copies are kept
abbrev pub stop : List ℤ → Channel → Channel
stop ids f = if list_any (λ id. int_eq id f.id) ids then record f { live = false } else f

abbrev pub stopped : List ℤ → List Channel → List Channel
stopped ids cs = map (stop ids) cs

-- the copy of a channel, if it was subscribed to
abbrev pub copy_in : ℤ → List Channel → Option (List Point)
copy_in channel cs = option_map (λ f. f.copy) (find (λ f. int_eq f.id channel) cs)

-- the copy that the client has of a channel, if it was subscribed to
abbrev pub copy_of : ℤ → State → Option (List Point)
copy_of channel s = copy_in channel s.heard.channels
