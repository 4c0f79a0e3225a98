-- What a session was served.
use Rattle.std.specs.Prelude.{◌≡◌, ◌≤◌, ◌⊎◌, ◌+◌, ℕ, ℤ, true, false, List, [], ◌∷◌, ◌++◌, length, map, Option, None}
use mathlib.Core.List.{IsPrefix}
use Rattle.server_config.specs.declared.config.Config.{Config}
use Rattle.store_machine.specs.declared.journal.Entry.{Entry}
use Rattle.etp_outside.specs.Told.{Told}
use Rattle.etp_outside.specs.Talk.{Talk}
use Rattle.etp_outside.specs.declared.link.Item.{Item}
use Rattle.etp_values.specs.Rising.{Rises}
use Rattle.turn_book.specs.Lists.{own}
use Rattle.store_hub.specs.Words.{Known, by_of, enters_of}
use Rattle.session_core.specs.Arriving.{Event}
use Rattle.session_core.specs.Run.{run, Heeds}
use Rattle.session_core.specs.Serial.{IsSerial}
use Rattle.session_core.specs.Session.{bytes_of, end_of}
use Rattle.session_core.specs.State.{State}
use Rattle.session_core.specs.Streams.{HasFront, HasIds, IsStreamed, IsToldAtIdle}
use Rattle.session_core.specs.declared.state.Outgoing.{Outgoing}
use Rattle.etp_serve.specs.Ends.{EndsAs}
use Rattle.etp_serve.specs.Events.{events, event_of, Matched, HasMoment, Turned, AllOpen}
use Rattle.etp_serve.specs.Talks.{Talked, IsSent}
use Rattle.etp_serve.specs.declared.ended.Ended.{Ended}
use Rattle.etp_serve.specs.declared.ended.Ended.TheVariants.{Closed, Refused, IdsSpent, PeerEnd, LinkFault, NoMemory}

-- ---- the session's own entries

-- the entry by which the session was let in, at its number, and then these
pub record IsEnterAnd (n : ℕ) (mine made : List (ℕ × Entry)) : Type 0 where
  pub entry : Entry
  pub enters : enters_of entry ≡ true
  pub all : mine ≡ (n, entry) ∷ made

-- the same without the last of these, at the last place
pub record LacksLast (n : ℕ) (mine : List (ℕ × Entry)) (places : List ℕ) (made : List (ℕ × Entry)) : Type 0 where
  pub kept : List (ℕ × Entry)
  pub lost : Entry
  pub place : ℕ
  pub before : List ℕ
  pub made_are : made ≡ kept ++ (place, lost) ∷ []
  pub places_are : places ≡ before ++ place ∷ []
  pub rest : IsEnterAnd n mine kept

-- if memory ran out, the last entry may be missing
abbrev pub Owns : Ended → ℕ → List (ℕ × Entry) → List ℕ → List (ℕ × Entry) → Type 0
Owns Closed n mine places made = IsEnterAnd n mine made
Owns (Refused code) n mine places made = IsEnterAnd n mine made
Owns IdsSpent n mine places made = IsEnterAnd n mine made
Owns PeerEnd n mine places made = IsEnterAnd n mine made
Owns LinkFault n mine places made = IsEnterAnd n mine made
Owns NoMemory n mine places made = IsEnterAnd n mine made ⊎ LacksLast n mine places made

-- ---- a link that failed

-- these messages are a front of what the run of these events sends, and end within what one event sends: of each channel they send a prefix
-- of what that event owes
pub record EndsInEvent (config : Config) (n : ℕ) (h : List Entry) (places : List ℕ) (es : List Event) (messages : List (List ℕ)) : Type 0 where
  pub front : List Outgoing
  pub messages_are : messages ≡ map bytes_of front
  pub within : HasFront config n h places es front

-- this holds for whatever first messages of the run a link was given
abbrev pub IsCutInEvent : Config → ℕ → List Entry → List ℕ → List Event → Type 0
IsCutInEvent config n h places es = (messages : List (List ℕ)) → IsPrefix messages (map bytes_of (run config n h places es).sent)
    → EndsInEvent config n h places es messages

-- ---- the session as a whole

-- The session of this number was served over a history: these are the places where its calls were answered, the moments that its clock
-- returned, the lengths of the journal that its polls found, and the items that its link gave. The session's own entries in the history are
-- those of the run; the run ended this way, and used all places, which never fall; no poll found less than was seen before; and after the
-- session's end there was no event. Whatever other sessions did between these places, each transaction that it committed was answered as if
-- it had been alone at the place of its commit, and of each channel it was sent the stream of its subscription in this history, which at a
-- poll that asked nothing is all that there was. If its link failed, what the link was given ends within what one event sends
pub record IsServed (end : Ended) (config : Config) (n : ℕ) (h : List Entry) (places : List ℕ) (moments : List ℤ) (fronts : List ℕ) (taken : List Item) : Type 0 where
  pub own : Owns end n (own by_of n h) places (run config n h places (events taken moments fronts)).made
  pub ends : EndsAs end (run config n h places (events taken moments fronts))
  pub used : (run config n h places (events taken moments fronts)).places ≡ []
  pub rises : Rises (n + 1) places (length h)
  pub turns : Turned end taken moments fronts
  pub before_end : AllOpen config n h places (events taken moments fronts)
  pub heeds : Heeds config n h places (events taken moments fronts)
  pub serial : IsSerial config n h places (events taken moments fronts)
  pub ids : HasIds config
  pub streams : IsStreamed config n h places (events taken moments fronts)
  pub idle : IsToldAtIdle config n h places (events taken moments fronts)
  pub cut : IsCutInEvent config n h places (events taken moments fronts)

-- what the link was asked to do: the items were taken, and the messages of the run sent, all or a part of them
abbrev pub Serving : Ended → List Item → List Outgoing → Talk → Talk → Type 0
Serving end taken said x y = (messages : List (List ℕ)) × Talked taken messages x y × IsSent end (map bytes_of said) messages

-- A session of this number, with what its pass knows then, and what its link and its clock reveal before and after, was served this way
pub record Serves (end : Ended) (config : Config) (n : ℕ) (v : Known) (a0 a : Option Talk) (c0 c : Option (List ℤ)) : Type 0 where
  pub taken : List Item
  pub moments : List ℤ
  pub places : List ℕ
  pub places_are : v.places ≡ n ∷ places
  pub link : Told a0 a (Serving end taken (run config n v.seen places (events taken moments v.heard)).sent)
  pub clock : Told c0 c (λ x y. y ≡ x ++ moments)
  pub served : IsServed end config n v.seen places moments v.heard taken

-- ---- up to a turn

-- these events were all run before the session's end, with a place for each call and no other places
pub record Ran (config : Config) (n : ℕ) (v : Known) (es : List Event) (s : State) (said : List Outgoing) : Type 0 where
  pub places : List ℕ
  pub made : List (ℕ × Entry)
  pub reach : ℕ
  pub places_are : v.places ≡ n ∷ places
  pub run : run config n v.seen places es ≡ record { state = s; places = []; sent = said; made = made; short = false; reach = reach }
  pub own : IsEnterAnd n (own by_of n v.seen) made
  pub rises : Rises (n + 1) places (length v.seen)
  pub before_end : AllOpen config n v.seen places es
  pub heeds : Heeds config n v.seen places es
  pub within : reach ≤ length v.seen
  pub ids : HasIds config

-- before a turn
pub record IsBeforeTurn (config : Config) (n : ℕ) (a0 : Option Talk) (c0 : Option (List ℤ)) (v : Known) (s : State) (a : Option Talk) (c : Option (List ℤ)) : Type 0 where
  pub taken : List Item
  pub moments : List ℤ
  pub said : List Outgoing
  pub ran : Ran config n v (events taken moments v.heard) s said
  pub going : end_of s.phase ≡ None
  pub matched : Matched taken moments v.heard
  pub link : Told a0 a (Talked taken (map bytes_of said))
  pub clock : Told c0 c (λ x y. y ≡ x ++ moments)

-- within a turn: an item was taken, and its message answered, if it is one
pub record IsWithinTurn (config : Config) (n : ℕ) (a0 : Option Talk) (c0 : Option (List ℤ)) (v : Known) (s : State) (a : Option Talk) (c : Option (List ℤ)) : Type 0 where
  pub taken : List Item
  pub moments : List ℤ
  pub said : List Outgoing
  pub item : Item
  pub moment : List ℤ
  pub ran : Ran config n v (events taken moments v.heard ++ event_of item moment) s said
  pub going : end_of s.phase ≡ None
  pub matched : Matched taken moments v.heard
  pub moment_is : HasMoment item moment
  pub link : Told a0 a (Talked (taken ++ item ∷ []) (map bytes_of said))
  pub clock : Told c0 c (λ x y. y ≡ x ++ (moments ++ moment))
