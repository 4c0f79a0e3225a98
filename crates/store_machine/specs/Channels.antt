-- The channels after a history: what its entries did to each of them.
use Rattle.std.specs.Prelude.{ℕ, ℤ, pos, ◌+◌, List, [], ◌∷◌, ◌++◌, Option, Some, None, map}
use Rattle.etp_values.specs.declared.code.ErrorCode.{ErrorCode}
use Rattle.etp_values.specs.declared.code.ErrorCode.TheVariants.{InvalidArgument, NotFound, InvalidAppend}
use Rattle.etp_values.specs.declared.point.Point.{Point}
use Rattle.server_config.specs.declared.config.ChannelDef.{ChannelDef}
use Rattle.server_config.specs.declared.config.Config.{Config}
use Rattle.channel_store.specs.declared.change.ChannelChange.{ChannelChange}
use Rattle.channel_store.specs.declared.change.What.{What}
use Rattle.channel_store.specs.declared.error.ChannelError.{ChannelError}
use Rattle.channel_store.specs.declared.error.ChannelError.TheVariants as fault
use Rattle.channel_store.specs.Channels.{Channel, whats_of}
use Rattle.channel_store.specs.Points.{copy}
use Rattle.channel_store.specs.Store.{by_number, appended, replaced, truncated}
use Rattle.store_machine.specs.declared.call.Cutting.{Cutting}
use Rattle.store_machine.specs.declared.journal.Act.{Act}
use Rattle.store_machine.specs.declared.journal.Act.TheVariants as act
use Rattle.store_machine.specs.declared.journal.Entry.{Entry}

-- ---- what an act does to channels

-- a channel and the end that it gets
abbrev pub cut_of : Cutting → ℤ × ℤ
cut_of c = (c.channel, c.end)

-- what an act does to the channel of an id: an append does something if it has an item for it, a replacement and a truncation if they list
-- it
abbrev pub what_of : Act → ℤ → Option What
what_of act.Enter id = None
what_of (act.PutSpaces puts) id = None
what_of (act.DropSpaces paths) id = None
what_of (act.Put ops) id = None
what_of (act.Commit staged) id = None
what_of (act.Append items) id = appended items id
what_of (act.Replace channels from to items) id = replaced channels from to items id
what_of (act.Truncate cuts) id = truncated (map cut_of cuts) id

-- ---- the channels after a history

-- a change at a place and a moment, or none
abbrev pub change_list : ℕ → ℤ → ℤ → Option What → List ChannelChange
change_list place id at None = []
change_list place id at (Some w) = record { place = place; channel = id; at = at; what = w } ∷ []

-- what the entry at a place changed in a channel
abbrev pub change_by : ℕ → ℤ → Entry → List ChannelChange
change_by place id e = change_list place id e.at (what_of e.act id)

-- the changes of a channel by entries in order, the first of which is at `place`
abbrev pub changes_from : ℕ → ℤ → List Entry → List ChannelChange
changes_from place id [] = []
changes_from place id (e ∷ es) = change_by place id e ++ changes_from (place + 1) id es

-- the changes of a channel by a history, and the points that they leave
abbrev pub channel_changes : ℤ → List Entry → List ChannelChange
channel_changes id history = changes_from 0 id history

abbrev pub channel_points : ℤ → List Entry → List Point
channel_points id history = copy (whats_of (channel_changes id history))

-- a channel by its definition and its changes
abbrev pub channel_by : ChannelDef → List ChannelChange → Channel
channel_by d changes = record { uri = d.uri; kind = d.kind; points = copy (whats_of changes); changes = changes }

-- the channels of a configuration after a history; a channel's id is its index in the configuration
unfoldable pub channels_of : Config → List Entry → List Channel
channels_of config history = by_number (λ k d. channel_by d (channel_changes (pos k) history)) 0 config.channels

-- ---- refusals

-- the code with which a call is refused. Running out of memory is not a refusal, and has a code only so that each error has one
abbrev pub code_of : ChannelError → ErrorCode
code_of (fault.NoChannel id) = NotFound
code_of (fault.Index id) = InvalidArgument
code_of (fault.Kind id) = InvalidArgument
code_of (fault.Doubled id) = InvalidArgument
code_of fault.Interval = InvalidArgument
code_of (fault.Order id) = InvalidAppend
code_of (fault.Outside id) = InvalidArgument
code_of fault.NoMemory = InvalidArgument
