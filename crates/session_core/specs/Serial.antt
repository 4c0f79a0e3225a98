-- A transaction that was committed was answered as if it had been alone at the place of its commit.
use Rattle.std.specs.Prelude.{ℕ, ℤ, pos, Bool, true, false, ◌||◌, List, [], ◌∷◌, ◌++◌, ◌≡◌, ◌≤◌, ◌-◌, ◌^◌, Option, Some, None, map, take}
use Rattle.std.specs.Ordering.{int_eq}
use Rattle.server_config.specs.declared.config.Config.{Config}
use Rattle.etp_frame.specs.Message.{data_array_number, store_number}
use Rattle.etp_frame.specs.declared.message.Message.{Message}
use Rattle.store_machine.specs.Answers.{answered}
use Rattle.store_machine.specs.declared.call.Reply.TheVariants as reply
use Rattle.store_machine.specs.declared.call.StoreCall.{StoreCall}
use Rattle.store_machine.specs.declared.journal.Entry.{Entry}
use Rattle.tx_stage.specs.Staging.{Transaction, note_refusal}
use Rattle.tx_stage.specs.declared.error.StageError.TheVariants.{Keys}
use Rattle.tx_stage.specs.declared.key.Key.{Key}
use Rattle.session_core.specs.declared.state.Arrived.{Arrived}
use Rattle.session_core.specs.declared.state.Arrived.TheVariants as arrives
use Rattle.session_core.specs.declared.state.Live.TheVariants as live
use Rattle.session_core.specs.declared.state.Outgoing.{Outgoing}
use Rattle.session_core.specs.declared.state.Pending.{Pending}
use Rattle.session_core.specs.declared.state.Pending.TheVariants as pending
use Rattle.session_core.specs.declared.state.Phase.TheVariants as phase
use Rattle.session_core.specs.State.{State}
use Rattle.session_core.specs.Arriving.{Event, arrived}
use Rattle.session_core.specs.Noting.{note}
use Rattle.session_core.specs.Run.{Course, drained, happens, hears, run, takes}

-- ---- the requests of a transaction

-- the protocols whose requests belong to the open transaction: Store and DataArray
abbrev pub is_staged : ℤ → Bool
is_staged protocol = int_eq protocol (pos store_number) || int_eq protocol (pos data_array_number)

-- an event is a message whose id was accepted, and whose header names one of them
abbrev pub is_request_as : Arrived → Bool
is_request_as (arrives.Unreadable c) = false
is_request_as (arrives.Stale r) = false
is_request_as (arrives.Refused r c) = is_staged r.protocol
is_request_as (arrives.Fresh h moment m) = is_staged h.protocol
is_request_as (arrives.Polled front) = false

abbrev pub is_request : State → Event → Bool
is_request s e = is_request_as (arrived s.last_id e)

-- the bodies of messages
abbrev pub bodies : List Outgoing → List Message
bodies out = map (λ o. o.message) out

-- these, if that holds
abbrev pub where_so : {X : Type 0} → Bool → List X → List X
where_so true xs = xs
where_so false xs = []

-- these, as long as a transaction is open
abbrev pub while_open : {X : Type 0} → Option Transaction → List X → List X
while_open (Some x) xs = xs
while_open None xs = []

-- ---- in a run

module _ (config : Config) (n : ℕ) (h : List Entry) where
  -- what an event sends
  abbrev pub sends : Course → Event → List Outgoing
  sends c e = (happens config n h (record c { sent = [] }) e).sent

  -- of these events the requests of the open transaction, until it is over
  abbrev pub requests : Course → List Event → List Event
  requests c [] = []
  requests c (e ∷ es) = while_open (takes c.state e).state.stage (where_so (is_request c.state e) (e ∷ []) ++ requests (happens config n h c e) es)

  -- the bodies of what they are answered
  abbrev pub replies : Course → List Event → List Message
  replies c [] = []
  replies c (e ∷ es) = while_open (takes c.state e).state.stage (where_so (is_request c.state e) (bodies (sends c e)) ++ replies (happens config n h c e) es)

-- ---- the session alone

-- the state after the call of an event, if it has one, is answered after this history
abbrev pub after_call : Config → List Entry → State → Option StoreCall → State
after_call config h s None = s
after_call config h s (Some call) = hears s (answered config h call)

-- the state after an event whose call, if it has one, is answered after this history
abbrev pub after_event : Config → List Entry → State → Event → State
after_event config h s e = after_call config h (takes s e).state (takes s e).call

-- the bodies of what a session sends at these events, each of its calls answered after one and the same history
abbrev pub alone : Config → List Entry → State → List Event → List Message
alone config h s [] = []
alone config h s (e ∷ es) = bodies (after_event config h s e).out ++ alone config h (drained (after_event config h s e)) es

-- ---- a commit

-- the keys that a request in a transaction looks at
abbrev pub keys_kept : Option Pending → List Key
keys_kept (Some (pending.Staged r keys p)) = keys
keys_kept _ = []

-- each of these keys can be noted after the ones before it: none is refused because there are too many, for which their marks don't count
abbrev pub AllNoted : Transaction → List Key → Type 0
AllNoted x [] = Unit {0}
AllNoted x (key ∷ keys) = (note_refusal x key ≡ Some Keys → ⊥) × AllNoted (note 0 x key) keys

-- a call is the commit of a transaction, which succeeds after the entries below this place, the first of these
abbrev pub CommitsAt : Config → List Entry → ℕ → Option StoreCall → List ℕ → Type 0
CommitsAt config h p None places = ⊥
CommitsAt config h p (Some call) [] = ⊥
CommitsAt config h p (Some call) (q ∷ qs) = (q ≡ p) × ((answered config (take p h) call).reply ≡ reply.Committed)

-- an event either leaves the transaction open, and all keys that it looks at are noted, and the later ones end it; or it
-- ends it by a commit that succeeds
abbrev pub EndsBy : Config → List Entry → ℕ → Option Transaction → Option Pending → Option StoreCall → List ℕ → Type 0 → Type 0
EndsBy config h p (Some x) kept call places later = AllNoted x (keys_kept kept) × later
EndsBy config h p None kept call places later = CommitsAt config h p call places

module _ (config : Config) (n : ℕ) (h : List Entry) where
  -- the open transaction is committed by one of these events, successfully, after the entries below this place
  abbrev pub Succeeds : ℕ → Course → List Event → Type 0
  Succeeds p c [] = ⊥
  Succeeds p c (e ∷ es) = EndsBy config h p (takes c.state e).state.stage (takes c.state e).state.pending (takes c.state e).call c.places (Succeeds p (happens config n h c e) es)

-- ---- the law

-- places that never fall, from a number on
abbrev pub RisesFrom : ℕ → List ℕ → Type 0
RisesFrom n [] = Unit {0}
RisesFrom n (p ∷ ps) = (n ≤ p) × RisesFrom p ps

-- a session is open and has an open transaction, of which nothing was asked yet; nothing is pending or left to send
pub record Begins (s : State) (x : Transaction) : Type 0 where
  pub phase : s.phase ≡ phase.Live live.Open
  pub stage : s.stage ≡ Some x
  pub touched : x.touched ≡ []
  pub kept : s.pending ≡ None
  pub out : s.out ≡ []
  pub blobs : s.blobs ≤ 2 ^ 64 - 1

-- if a transaction is committed successfully after the entries below a place, its requests were answered as the session alone answers them
-- from its start on, all at that place, whatever others did in between
abbrev pub CommittedIsSerial : Type 0
CommittedIsSerial = (config : Config) (n : ℕ) (h : List Entry) (p : ℕ) (c : Course) (x : Transaction) (es : List Event)
    → c.short ≡ false → Begins c.state x → RisesFrom 0 c.places → Succeeds config n h p c es
    → replies config n h c es ≡ alone config (take p h) c.state (requests config n h c es)

-- in the run of these events, wherever it is split: a transaction that has just begun there, and is committed successfully by the later
-- ones after the entries below a place, was answered this way
abbrev pub IsSerial : Config → ℕ → List Entry → List ℕ → List Event → Type 0
IsSerial config n h places es = (before later : List Event) (p : ℕ) (x : Transaction) → es ≡ before ++ later
    → let c = run config n h places before in
    c.state.stage ≡ Some x → x.touched ≡ [] → Succeeds config n h p c later
    → replies config n h c later ≡ alone config (take p h) c.state (requests config n h c later)

-- if the places never fall, each run is serial
abbrev pub RunIsSerial : Type 0
RunIsSerial = (config : Config) (n : ℕ) (h : List Entry) (places : List ℕ) (es : List Event) → RisesFrom 0 places → IsSerial config n h places es
