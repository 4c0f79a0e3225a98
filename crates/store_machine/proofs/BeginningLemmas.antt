-- Where subscriptions start: the names of the items, and the answer.
use Rattle.std.specs.Prelude.{ℕ, ℤ, zero, suc, pos, negsuc, ◌≡◌, true, false, List, [], ◌∷◌, ◌++◌, Option, Some, None, Ok, Err, is_some, if◌then◌else◌, length, refl}
use Rattle.std.specs.Map.{keys_of}
use Rattle.std.specs.Option.{unwrap_or}
use Rattle.std.proofs.Common.{ap, sym, ◌∙◌, append_assoc}
use Rattle.etp_values.specs.declared.code.ErrorCode.TheVariants.{InvalidArgument, LimitExceeded, NotFound}
use Rattle.etp_values.specs.declared.point.Point.{Point}
use Rattle.server_config.specs.declared.config.Config.{Config}
use Rattle.channel_store.specs.declared.error.ChannelError.{ChannelError}
use Rattle.channel_store.specs.declared.points.PointSize.{PointSize}
use Rattle.channel_store.specs.Channels.{Channel}
use Rattle.channel_store.specs.Points.{last_of, past}
use Rattle.channel_store.specs.Refusals.{channel_at, points_at, points_in}
use Rattle.channel_store.specs.Store.{tail_in}
use Rattle.channel_store.specs.Told.{size_within, sized_within}
use Rattle.store_machine.specs.declared.call.Reply.TheVariants as replied
use Rattle.store_machine.specs.declared.call.Start.{Start}
use Rattle.store_machine.specs.declared.call.StartAsk.{StartAsk}
use Rattle.store_machine.specs.declared.call.StartReply.{StartReply}
use Rattle.store_machine.specs.declared.call.StartReply.TheVariants.{From, Refused}
use Rattle.store_machine.specs.declared.call.StoreCall.TheVariants as call
use Rattle.store_machine.specs.declared.journal.Entry.{Entry}
use Rattle.store_machine.specs.declared.reads.Room.{Room}
use Rattle.store_machine.specs.Answers.{answer, starts_after}
use Rattle.store_machine.specs.Channels.{channels_of}
use Rattle.store_machine.specs.Reads.{room_with, whole_room}
use Rattle.store_machine.specs.Starts.{EndsInRange, IsEnded, begun, from_index, is_start, room_behind, start_of, started}

pub names-started : (cs : List Channel) (room : Room) (items : List (List ℕ × StartAsk)) → keys_of (started cs room items) ≡ keys_of items
names-started cs room [] = refl
names-started cs room (i ∷ is) = ap (λ l. i.0 ∷ l) (names-started cs (room_behind room (begun (channel_at cs i.1.channel) room i.1.start)) is)

pub starts-answer : (config : Config) (journal : List Entry) (cs : List Channel) (items : List (List ℕ × StartAsk)) (starts : List (List ℕ × StartReply)) (mark : ℕ) → mark ≡ length journal → cs ≡ channels_of config journal
    → starts ≡ started cs whole_room items → record { mark = mark; reply = replied.Started starts } ≡ answer config journal (call.Subscribe items)
unfolding starts_after
starts-answer config journal cs items starts mark m ch r =
    let told : starts ≡ started (channels_of config journal) whole_room items = r ∙ ap (λ (c : List Channel). started c whole_room items) ch in
    (λ j. record { mark = m j; reply = replied.Started (told j) })

-- ---- one start

-- a channel that is there has points from an index on
pub tail_there : (o : Option Channel) (id start : ℤ) (most : ℕ) (e : ChannelError) → is_some o ≡ true → Err e ≡ sized_within most (tail_in o id start) → ⊥
tail_there None id start most e there h = absurd (cc)
tail_there (Some c) id start most e there h = absurd (cc)

tail-size : (o : Option Channel) (id start : ℤ) (most : ℕ) (size : Option PointSize) → Ok size ≡ sized_within most (tail_in o id start) → size ≡ size_within most (past start (points_in o))
tail-size None id start most size h = absurd (cc)
tail-size (Some c) id start most size h = cc

tail-points : (o : Option Channel) (id start : ℤ) (points : List Point) → tail_in o id start ≡ Ok points → points ≡ past start (points_in o)
tail-points None id start points h = absurd (cc)
tail-points (Some c) id start points h = cc

-- there is no room for its points
pub start_full : (o : Option Channel) (id start : ℤ) (size : Option PointSize) (room : Room) → Ok size ≡ sized_within room.points (tail_in o id start) → ((points : List Point) → size ≡ size_within room.points points → None ≡ room_with room points)
    → Refused LimitExceeded ≡ from_index start (past start (points_in o)) (room_with room (past start (points_in o)))
start_full o id start size room is full = ap (from_index start (past start (points_in o))) (full (past start (points_in o)) (tail-size o id start room.points size is))

-- there is
pub start_fits : (o : Option Channel) (id start : ℤ) (size : Option PointSize) (room left : Room) (points : List Point) → Ok size ≡ sized_within room.points (tail_in o id start)
    → ((xs : List Point) → size ≡ size_within room.points xs → Some left ≡ room_with room xs) → tail_in o id start ≡ Ok points
    → From start points ≡ from_index start (past start (points_in o)) (room_with room (past start (points_in o)))
start_fits o id start size room left points is fits given =
    ap (From start) (tail-points o id start points given) ∙ ap (from_index start (past start (points_in o))) (fits (past start (points_in o)) (tail-size o id start room.points size is))

pub room_left : (o : Option Channel) (id start : ℤ) (size : Option PointSize) (room left : Room) (points : List Point) → Ok size ≡ sized_within room.points (tail_in o id start)
    → ((xs : List Point) → size ≡ size_within room.points xs → Some left ≡ room_with room xs) → tail_in o id start ≡ Ok points → left ≡ room_behind room (From start points)
room_left o id start size room left points is fits given =
    ap (λ r. unwrap_or r room) (fits (past start (points_in o)) (tail-size o id start room.points size is))
    ∙ ap (λ xs. unwrap_or (room_with room xs) room) (sym (tail-points o id start points given))

-- a channel that does not exist
pub begun_nowhere : (o : Option Channel) (room : Room) (s : Start) → is_some o ≡ false → Refused NotFound ≡ begun o room s
begun_nowhere None room s h = refl
begun_nowhere (Some c) room s h = absurd (cc)

-- a start that is not possible
pub begun_wrong : (o : Option Channel) (room : Room) (s : Start) → is_some o ≡ true → is_start s ≡ false → Refused InvalidArgument ≡ begun o room s
begun_wrong None room s h wrong = absurd (cc)
begun_wrong (Some c) room s h wrong = ap (λ b. if b then from_index (start_of c.points s) (past (start_of c.points s) c.points) (room_with room (past (start_of c.points s) c.points)) else Refused InvalidArgument) (sym wrong)

-- a start
pub begun_there : (o : Option Channel) (room : Room) (s : Start) (start : ℤ) → is_some o ≡ true → is_start s ≡ true → start ≡ start_of (points_in o) s
    → from_index start (past start (points_in o)) (room_with room (past start (points_in o))) ≡ begun o room s
begun_there None room s start h fits at = absurd (cc)
begun_there (Some c) room s start h fits at =
    ap (λ i. from_index i (past i c.points) (room_with room (past i c.points))) at
    ∙ ap (λ b. if b then from_index (start_of c.points s) (past (start_of c.points s) c.points) (room_with room (past (start_of c.points s) c.points)) else Refused InvalidArgument) (sym fits)

-- the last index of each channel is in range
pub ended_at : (cs : List Channel) (id : ℤ) → EndsInRange cs → IsEnded (last_of (points_at cs id))
ended_at [] (pos k) h = tt
ended_at (c ∷ cs) (pos zero) h = h.0
ended_at (c ∷ cs) (pos (suc k)) h = ended_at cs (pos k) h.1
ended_at [] (negsuc k) h = tt
ended_at (c ∷ cs) (negsuc k) h = tt

-- ---- starts in order

pub started_step : (cs : List Channel) (room left : Room) (done : List (List ℕ × StartReply)) (name : List ℕ) (ask : StartAsk) (reply : StartReply) (rest : List (List ℕ × StartAsk)) (whole : List (List ℕ × StartReply))
    → reply ≡ begun (channel_at cs ask.channel) room ask.start → left ≡ room_behind room reply → done ++ started cs room ((name, ask) ∷ rest) ≡ whole → (done ++ (name, reply) ∷ []) ++ started cs left rest ≡ whole
started_step cs room left done name ask reply rest whole is l h =
    let behind = l ∙ ap (room_behind room) is in
    append_assoc done ((name, reply) ∷ []) (started cs left rest) ∙ (λ j. done ++ (name, is j) ∷ started cs (behind j) rest) ∙ h
