-- What became of the links that a listener gave out.
use Rattle.std.specs.Prelude.{◌≡◌, ◌≤◌, ◌<◌, ◌+◌, ◌-◌, ℕ, ℤ, Bool, true, false, List, [], ◌∷◌, ◌++◌, length, map, Option, Some, None, IfSome, IsSome}
use Rattle.std.specs.List.{AllByRecursion}
use mathlib.Core.List.{IsPrefix}
use Rattle.server_config.specs.declared.config.Config.{Config}
use Rattle.store_machine.specs.declared.journal.Act.TheVariants.{Enter}
use Rattle.store_machine.specs.declared.journal.Entry.{Entry}
use Rattle.store_machine.specs.Answers.{has_room_for}
use Rattle.etp_outside.specs.Doors.{Back, IsAccepted}
use Rattle.etp_outside.specs.Told.{Told}
use Rattle.etp_outside.specs.Talk.{Talk}
use Rattle.etp_outside.specs.declared.link.Item.{Item}
use Rattle.turn_book.specs.Lists.{own}
use Rattle.turn_book.specs.declared.view.Met.{Met}
use Rattle.store_hub.specs.declared.hub.Hub.{Hub}
use Rattle.store_hub.specs.Words.{Known, by_of}
use Rattle.session_core.specs.Run.{run}
use Rattle.session_core.specs.Session.{bytes_of}
use Rattle.etp_serve.specs.Ends.{HasCause}
use Rattle.etp_serve.specs.Events.{events}
use Rattle.etp_serve.specs.Served.{IsServed, Serving}
use Rattle.etp_serve.specs.Talks.{IsSent}
use Rattle.etp_serve.specs.declared.ended.Ended.{Ended}
use Rattle.etp_serve.specs.declared.ended.Ended.TheVariants.{Closed, Refused, IdsSpent, PeerEnd, LinkFault, NoMemory}
use Rattle.etp_serve.specs.declared.served.Served.{Served}
use Rattle.etp_serve.specs.declared.served.Served.TheVariants as all_ended
use Rattle.etp_serve.specs.declared.thread.Started.{Started}

-- the number of an end: 1 to 4 as captures have it, and further ones for those that they never have; 5 is that of a link
-- for which no session was let in, as the journal was full
abbrev pub end_number : Ended → ℕ
end_number Closed = 1
end_number (Refused code) = 2
end_number IdsSpent = 3
end_number PeerEnd = 4
end_number LinkFault = 6
end_number NoMemory = 7

-- ---- one session, by the thread that served it

-- The session of this number was served over a link to an end, with what its pass knows then, what its link reveals before and after, and
-- how often that failed. The moments that its clock returned pass this test, and its pass met nobody
pub record IsDone (test : List ℤ → Bool) (config : Config) (n : ℕ) (v : Known) (end : Ended) (a0 a : Option Talk) (f0 f : ℕ) (over : Bool) : Type 0 where
  pub taken : List Item
  pub moments : List ℤ
  pub places : List ℕ
  pub number : v.number ≡ Some n
  pub places_are : v.places ≡ n ∷ places
  pub alone : v.met ≡ []
  pub passes : test moments ≡ true
  pub link : Told a0 a (Serving end taken (run config n v.seen places (events taken moments v.heard)).sent)
  pub served : IsServed end config n v.seen places moments v.heard taken
  pub cause : HasCause end f0 f over

-- ---- what became of each link

-- a session that was served to its end: what its pass knew when it was met, how it ended, what its link gave and its clock returned, and
-- the messages that it was sent
pub record Session : Type 0 where
  pub met : Met Entry
  pub end : Ended
  pub taken : List Item
  pub moments : List ℤ
  pub sent : List (List ℕ)

-- it was served this way over this history
pub record WasServed (test : List ℤ → Bool) (config : Config) (h : List Entry) (s : Session) : Type 0 where
  pub places : List ℕ
  pub places_are : s.met.places ≡ s.met.number ∷ places
  pub passes : test s.moments ≡ true
  pub served : IsServed s.end config s.met.number h places s.moments s.met.heard s.taken
  pub all_sent : IsSent s.end (map bytes_of (run config s.met.number h places (events s.taken s.moments s.met.heard)).sent) s.sent

-- a link had a session, or none was let in: the journal was full, or memory ran out
pub data Came : Type 0 where
  AsSession : Session → Came
  OnFull : Came
  OnLack : Came

-- what was met of these
abbrev pub mets : List Came → List (Met Entry)
mets [] = []
mets (AsSession s ∷ cs) = s.met ∷ mets cs
mets (OnFull ∷ cs) = mets cs
mets (OnLack ∷ cs) = mets cs

-- a session whose number is at least this one was served over this history, or this is a full journal
abbrev pub IsCame : (List ℤ → Bool) → Config → ℕ → List Entry → Came → Type 0
IsCame test config low h (AsSession s) = (low ≤ s.met.number) × WasServed test config h s
IsCame test config low h OnFull = has_room_for config h Enter ≡ false
IsCame test config low h OnLack = Unit {0}

-- ---- the links that came back

-- the link of a session, with its number and its end, and with what it took and was sent
pub record IsBackOf (s : Session) (b : Back) : Type 0 where
  pub number_is : b.number ≡ s.met.number
  pub end_is : b.end ≡ end_number s.end
  pub cause : HasCause s.end 0 b.faults b.ended
  pub talk : Talk
  pub told : b.talk ≡ Some talk
  pub taken_is : talk.taken ≡ s.taken
  pub sent_is : talk.sent ≡ s.sent

-- a link that nothing came or went over, with the number 0
pub record IsUnused (end : ℕ) (b : Back) : Type 0 where
  pub number_is : b.number ≡ 0
  pub end_is : b.end ≡ end
  pub talk : Talk
  pub told : b.talk ≡ Some talk
  pub taken_is : talk.taken ≡ []
  pub sent_is : talk.sent ≡ []

abbrev pub IsBack : Came → Back → Type 0
IsBack (AsSession s) b = IsBackOf s b
IsBack OnFull b = IsUnused 5 b
IsBack OnLack b = IsUnused 7 b

-- each link came back once
abbrev pub Backs : List Came → List Back → Type 0
Backs [] [] = Unit {0}
Backs [] (b ∷ bs) = ⊥
Backs (c ∷ cs) [] = ⊥
Backs (c ∷ cs) (b ∷ bs) = IsBack c b × Backs cs bs

-- ---- the whole

-- a session was let in, if the journal had room
abbrev pub HadMemory : Came → Type 0
HadMemory (AsSession s) = Unit {0}
HadMemory OnFull = Unit {0}
HadMemory OnLack = ⊥

-- for how many links memory to let a session in ran out
abbrev pub lacks : List Came → ℕ
lacks [] = 0
lacks (AsSession s ∷ cs) = lacks cs
lacks (OnFull ∷ cs) = lacks cs
lacks (OnLack ∷ cs) = 1 + lacks cs

-- memory to let a session in ran out only if the serving ended for that reason, and then for one link at most
abbrev pub HadMemoryBut : Served → List Came → Type 0
HadMemoryBut all_ended.Stopped cs = AllByRecursion HadMemory cs
HadMemoryBut all_ended.ListenFault cs = AllByRecursion HadMemory cs
HadMemoryBut all_ended.NoMemory cs = lacks cs ≤ 1

-- the accepting pass made no entry: it has the number that it had, and has seen no further entry under it
pub record IsSilent (v0 v : Known) : Type 0 where
  pub number : v.number ≡ v0.number
  pub own : IfSome v0.number (λ n. own by_of n v.seen ≡ own by_of n v0.seen)

-- Links were served until this end, with what the accepting pass knew before and after, and how many links the listener gave out and which
-- it took back. There is an answer for each link that was given out: the sessions among them were met, in this order, each was served over
-- the one history that the pass has seen in the end, and each link came back. The pass itself made no entry
pub record ServesAll (end : Served) (test : List ℤ → Bool) (config : Config) (v0 v : Known) (given0 given : ℕ) (b0 b : Option (List Back)) : Type 0 where
  pub came : List Came
  pub met : v.met ≡ v0.met ++ mets came
  pub before : IsPrefix v0.seen v.seen
  pub silent : IsSilent v0 v
  pub each : AllByRecursion (IsCame test config (length v0.seen) v.seen) came
  pub count : given ≡ given0 + length came
  pub links : Told b0 b (λ x y. (new : List Back) × (y ≡ x ++ new) × Backs came new)
  pub memory : HadMemoryBut end came

-- as many links were given as were to be served
abbrev pub IsReached : Option ℕ → ℕ → ℕ → Type 0
IsReached None given0 given = ⊥
IsReached (Some most) given0 given = given ≡ given0 + most

-- ---- on the way

-- a session was served over the history that its own pass had seen
abbrev pub IsOfItsOwn : (List ℤ → Bool) → Config → ℕ → Came → Type 0
IsOfItsOwn test config low (AsSession s) = (low ≤ s.met.number) × WasServed test config s.met.seen s
IsOfItsOwn test config low OnFull = Unit {0}
IsOfItsOwn test config low OnLack = Unit {0}

-- that history is a prefix of this one, which has no further entry of the session; or this is a full journal
abbrev pub IsSettledIn : Config → List Entry → Came → Type 0
IsSettledIn config h (AsSession s) = IsPrefix s.met.seen h × (own by_of s.met.number h ≡ own by_of s.met.number s.met.seen)
IsSettledIn config h OnFull = has_room_for config h Enter ≡ false
IsSettledIn config h OnLack = Unit {0}

-- links were served so far, and this many that were given out have no answer yet; the accepting pass had seen its own first entry before
pub record Accepts (end : Served) (test : List ℤ → Bool) (config : Config) (v0 v : Known) (given0 given left : ℕ) (b0 b : Option (List Back)) : Type 0 where
  pub came : List Came
  pub met : v.met ≡ v0.met ++ mets came
  pub before : IsPrefix v0.seen v.seen
  pub begun : IfSome v0.number (λ n. n < length v0.seen)
  pub silent : IsSilent v0 v
  pub each : AllByRecursion (IsOfItsOwn test config (length v0.seen)) came
  pub settled : AllByRecursion (IsSettledIn config v.seen) came
  pub count : given ≡ given0 + (length came + left)
  pub few : IfSome b0 (λ bs. length bs ≤ given0)
  pub links : Told b0 b (λ x y. (new : List Back) × (y ≡ x ++ new) × Backs came new)
  pub memory : HadMemoryBut end came

-- a session's thread was given this hub, a clock with this test, a number that is at least this one, and a new link, which reveals what
-- goes over it if the listener reveals what it takes back
pub record IsBegun {L C : Type 0} (talk : L → Option Talk) (faults : L → ℕ) (over : L → Bool) (tests : C → List ℤ → Bool) (hub : Hub) (test : List ℤ → Bool) (low : ℕ) (b0 : Option (List Back)) (p : Started L C) : Type 0 where
  pub hub_is : p.hub.value ≡ hub
  pub test_is : tests p.clock.value ≡ test
  pub late : low ≤ p.number
  pub fresh : IsAccepted (talk p.link.value) (faults p.link.value) (over p.link.value)
  pub tells : IsSome b0 → IsSome (talk p.link.value)

-- this many more links may be given out
abbrev pub IsLeft : Option ℕ → Option ℕ → ℕ → ℕ → Type 0
IsLeft None left given0 given = left ≡ None
IsLeft (Some most) left given0 given = (n : ℕ) × (left ≡ Some n) × (given + n ≡ given0 + most)

-- one of these is taken: there is one less, or no limit
abbrev pub IsOneLess : Option ℕ → Option ℕ → Type 0
IsOneLess None after = after ≡ None
IsOneLess (Some n) after = (0 < n) × (after ≡ Some (n - 1))
