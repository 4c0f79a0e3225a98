-- Where subscriptions start, and the points from there on.
use Rattle.std.specs.Prelude.{ℕ, ℤ, pos, negsuc, ◌+ℤ◌, int_lt, ◌≡◌, Bool, true, List, [], ◌∷◌, Option, Some, None, if◌then◌else◌}
use Rattle.std.specs.List.{AllByRecursion}
use Rattle.std.specs.Option.{unwrap_or}
use Rattle.etp_values.specs.declared.code.ErrorCode.TheVariants.{InvalidArgument, NotFound, LimitExceeded}
use Rattle.etp_values.specs.declared.point.Point.{Point}
use Rattle.channel_store.specs.Channels.{Channel}
use Rattle.channel_store.specs.Points.{index_from_end, last_of, past}
use Rattle.channel_store.specs.Refusals.{channel_at, in_range}
use Rattle.store_machine.specs.declared.call.Start.{Start}
use Rattle.store_machine.specs.declared.call.Start.TheVariants.{At, Latest, Live}
use Rattle.store_machine.specs.declared.call.StartAsk.{StartAsk}
use Rattle.store_machine.specs.declared.call.StartReply.{StartReply}
use Rattle.store_machine.specs.declared.call.StartReply.TheVariants.{From, Refused}
use Rattle.store_machine.specs.declared.reads.Room.{Room}
use Rattle.store_machine.specs.Reads.{room_with}

-- ---- one start

-- the least index: -2^62
abbrev pub least_index : ℤ
least_index = negsuc 4611686018427387903

-- the number that an integer is, 0 if it is negative
abbrev pub natural : ℤ → ℕ
natural (pos n) = n
natural (negsuc n) = 0

-- the index past the last one, or the least if there is none
abbrev pub past_last : Option ℤ → ℤ
past_last None = least_index
past_last (Some i) = i +ℤ pos 1

-- the index at which a subscription starts: one that it names; that of its k-th point from the end, or the least index if it has fewer; or
-- the one after its last point
abbrev pub start_of : List Point → Start → ℤ
start_of xs (At i) = i
start_of xs (Latest k) = unwrap_or (index_from_end (natural k) xs) least_index
start_of xs Live = past_last (last_of xs)

-- an index in range, and a count of at least 1
abbrev pub is_start : Start → Bool
is_start (At i) = in_range i
is_start (Latest k) = int_lt (pos 0) k
is_start Live = true

-- ---- starts among others

-- the points from an index on, if they fit into the room
abbrev pub from_index : ℤ → List Point → Option Room → StartReply
from_index start ps None = Refused LimitExceeded
from_index start ps (Some left) = From start ps

-- a start in a channel, by the room of the answer that is left
abbrev pub begun : Option Channel → Room → Start → StartReply
begun None room s = Refused NotFound
begun (Some c) room s =
    if is_start s then from_index (start_of c.points s) (past (start_of c.points s) c.points) (room_with room (past (start_of c.points s) c.points))
    else Refused InvalidArgument

-- the room that is left after a reply
abbrev pub room_behind : Room → StartReply → Room
room_behind room (Refused code) = room
room_behind room (From start ps) = unwrap_or (room_with room ps) room

-- the starts of a call in order; what is refused takes no room
abbrev pub started : List Channel → Room → List (List ℕ × StartAsk) → List (List ℕ × StartReply)
started cs room [] = []
started cs room (i ∷ is) =
    (i.0, begun (channel_at cs i.1.channel) room i.1.start) ∷ started cs (room_behind room (begun (channel_at cs i.1.channel) room i.1.start)) is

-- ---- what the code relies on

-- an index, if there is one, has a next one in 64 bits
abbrev pub IsEnded : Option ℤ → Type 0
IsEnded None = Unit {0}
IsEnded (Some i) = in_range i ≡ true

-- the last index of each channel is in range
abbrev pub EndsInRange : List Channel → Type 0
EndsInRange cs = AllByRecursion (λ (c : Channel). IsEnded (last_of c.points)) cs
