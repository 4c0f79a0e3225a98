-- The events of a session that is served: what each turn of a link gives it.
use Rattle.std.specs.Prelude.{◌≡◌, ◌⊎◌, ℕ, ℤ, List, [], ◌∷◌, ◌++◌, None}
use Rattle.server_config.specs.declared.config.Config.{Config}
use Rattle.store_machine.specs.declared.journal.Entry.{Entry}
use Rattle.etp_outside.specs.declared.link.Item.{Item}
use Rattle.etp_outside.specs.declared.link.Item.TheVariants.{Message, Idle}
use Rattle.session_core.specs.Arriving.{Event, Receives, Polls}
use Rattle.session_core.specs.Run.{run}
use Rattle.session_core.specs.Session.{end_of}
use Rattle.etp_serve.specs.declared.ended.Ended.{Ended}
use Rattle.etp_serve.specs.declared.ended.Ended.TheVariants.{Closed, Refused, IdsSpent, PeerEnd, LinkFault, NoMemory}

-- each item that was taken is a turn: a message with the next moment, and then a poll with the next front, if there is one
abbrev pub events : List Item → List ℤ → List ℕ → List Event
events [] moments fronts = []
events (Idle ∷ items) moments [] = []
events (Idle ∷ items) moments (f ∷ fs) = Polls f ∷ events items moments fs
events (Message bytes ∷ items) [] fronts = []
events (Message bytes ∷ items) (m ∷ ms) [] = Receives bytes m ∷ []
events (Message bytes ∷ items) (m ∷ ms) (f ∷ fs) = Receives bytes m ∷ Polls f ∷ events items ms fs

-- as many moments as messages, and as many fronts as turns
abbrev pub Matched : List Item → List ℤ → List ℕ → Type 0
Matched [] [] [] = Unit {0}
Matched [] [] (f ∷ fs) = ⊥
Matched [] (m ∷ ms) fronts = ⊥
Matched (Idle ∷ items) moments [] = ⊥
Matched (Idle ∷ items) moments (f ∷ fs) = Matched items moments fs
Matched (Message bytes ∷ items) [] fronts = ⊥
Matched (Message bytes ∷ items) (m ∷ ms) [] = ⊥
Matched (Message bytes ∷ items) (m ∷ ms) (f ∷ fs) = Matched items ms fs

-- the last turn has a message and no front; the turns before it have all
pub record Lacks (items : List Item) (moments : List ℤ) (fronts : List ℕ) : Type 0 where
  pub first : List Item
  pub bytes : List ℕ
  pub before : List ℤ
  pub moment : ℤ
  pub items_are : items ≡ first ++ Message bytes ∷ []
  pub moments_are : moments ≡ before ++ moment ∷ []
  pub matched : Matched first before fronts

-- if the peer ended the link, each turn has its front; otherwise the last turn has none if its message was the last event
abbrev pub Turned : Ended → List Item → List ℤ → List ℕ → Type 0
Turned PeerEnd items moments fronts = Matched items moments fronts
Turned Closed items moments fronts = Matched items moments fronts ⊎ Lacks items moments fronts
Turned (Refused code) items moments fronts = Matched items moments fronts ⊎ Lacks items moments fronts
Turned IdsSpent items moments fronts = Matched items moments fronts ⊎ Lacks items moments fronts
Turned LinkFault items moments fronts = Matched items moments fronts ⊎ Lacks items moments fronts
Turned NoMemory items moments fronts = Matched items moments fronts ⊎ Lacks items moments fronts

-- the session had not ended before the last of these events
pub record IsLastOpen (config : Config) (n : ℕ) (h : List Entry) (places : List ℕ) (es : List Event) : Type 0 where
  pub before : List Event
  pub last : Event
  pub used : List ℕ
  pub rest : List ℕ
  pub events_are : es ≡ before ++ last ∷ []
  pub places_are : places ≡ used ++ rest
  pub going : end_of (run config n h used before).state.phase ≡ None

-- no event came after the session's end
abbrev pub AllOpen : Config → ℕ → List Entry → List ℕ → List Event → Type 0
AllOpen config n h places es = (es ≡ []) ⊎ IsLastOpen config n h places es

-- the event of an item that was taken, if it has one, with the moments that it was given
abbrev pub event_of : Item → List ℤ → List Event
event_of Idle moments = []
event_of (Message bytes) [] = []
event_of (Message bytes) (m ∷ ms) = Receives bytes m ∷ []

-- a message was given one moment, and an idle turn none
abbrev pub HasMoment : Item → List ℤ → Type 0
HasMoment Idle moments = moments ≡ []
HasMoment (Message bytes) moments = (m : ℤ) × (moments ≡ m ∷ [])
