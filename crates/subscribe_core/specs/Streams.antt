-- What is sent of one channel.
use Rattle.std.specs.Prelude.{ℤ, ◌≡◌, Bool, true, false, List, [], ◌++◌, filter, Some, None}
use Rattle.std.specs.List.{flat_map, AllByRecursion}
use Rattle.std.specs.Ordering.{int_eq}
use Rattle.etp_values.specs.declared.point.Point.{Point}
use Rattle.channel_store.specs.declared.change.ChannelChange.{ChannelChange}
use Rattle.channel_store.specs.declared.change.What.{What}
use Rattle.channel_store.specs.Channels.{whats_of}
use Rattle.channel_store.specs.Points.{append_of, past, stream}
use Rattle.channel_store.specs.declared.subscription.Sub.{Sub}
use Rattle.subscribe_core.specs.Views.{sub_of}
use Rattle.subscribe_core.specs.Subscriptions.{Subbed}
use Rattle.subscribe_core.specs.Calls.{Call, Add, Remove, RemoveAll, Fill, Next, after_all, handed, views_in}

-- what happened to a channel, in order
abbrev pub of_channel : ℤ → List ChannelChange → List What
of_channel channel changes = whats_of (filter (λ c. int_eq c.channel channel) changes)

-- a call takes the subscription of a channel out
abbrev pub ends : ℤ → Call → Bool
ends channel (Add sub) = false
ends channel (Remove c) = int_eq c channel
ends channel RemoveAll = true
ends channel (Fill upto changes) = false
ends channel Next = false

-- a call adds a subscription of a channel
abbrev pub begins : ℤ → Call → Bool
begins channel (Add sub) = int_eq sub.channel channel
begins channel (Remove c) = false
begins channel RemoveAll = false
begins channel (Fill upto changes) = false
begins channel Next = false

-- the changes that a call brings in
abbrev pub came_by : Call → List ChannelChange
came_by (Add sub) = []
came_by (Remove channel) = []
came_by RemoveAll = []
came_by (Fill upto changes) = changes
came_by Next = []

-- the changes that calls bring in, in order
abbrev pub came : List Call → List ChannelChange
came cs = flat_map came_by cs

-- while a subscription exists, the stream from what was there at its beginning is those points, what was handed out since, and what is
-- pending
abbrev pub StreamGoesOn : Type 0
StreamGoesOn = (s : Sub) (there : List Point) (cs : List Call) (v : Subbed) → sub_of s.channel v.subs ≡ Some s
    → of_channel s.channel v.pending ≡ [] → AllByRecursion (λ c. ends s.channel c ≡ false) cs
    → append_of (past s.start there) ++ (of_channel s.channel (handed cs v) ++ of_channel s.channel (after_all cs v).pending)
    ≡ stream s.start s.all there (of_channel s.channel (came cs))

-- nothing is sent of a channel that has no subscription, and gets none
abbrev pub StaysSilent : Type 0
StaysSilent = (channel : ℤ) (cs : List Call) (v : Subbed) → sub_of channel v.subs ≡ None → AllByRecursion (λ c. begins channel c ≡ false) cs
    → of_channel channel (views_in cs v) ≡ []
