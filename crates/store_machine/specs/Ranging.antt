-- What the code knows of ranges that are gathered one after the other.
use Rattle.std.specs.Prelude.{◌≡◌, List, ◌∷◌, Option, Some, None, Err}
use Rattle.etp_values.specs.declared.code.ErrorCode.{ErrorCode}
use Rattle.etp_values.specs.declared.point.ChannelPoint.{ChannelPoint}
use Rattle.channel_store.specs.Channels.{Channel}
use Rattle.store_machine.specs.declared.call.RangeAsk.{RangeAsk}
use Rattle.store_machine.specs.declared.reads.Room.{Room}
use Rattle.store_machine.specs.Reads.{behind, ranged}

-- a range joined those before it, or is refused, whatever ranges follow
abbrev pub JoinsRange : Option ErrorCode → List Channel → RangeAsk → Room → Room → List ChannelPoint → List ChannelPoint → Type 0
JoinsRange None cs a room left items more = (later : List RangeAsk) → behind more (ranged cs left later) ≡ behind items (ranged cs room (a ∷ later))
JoinsRange (Some code) cs a room left items more = (later : List RangeAsk) → ranged cs room (a ∷ later) ≡ Err code
