-- Which histories a store can have.
use Rattle.std.specs.Prelude.{ℕ, pos, ◌≡◌, ◌==◌, List, [], ◌∷◌, ◌++◌, IsSomeAnd, length, filter, slice_get}
use Rattle.server_config.specs.declared.config.Config.{Config}
use Rattle.store_machine.specs.declared.call.StoreCall.{StoreCall}
use Rattle.store_machine.specs.declared.call.StoreCall.TheVariants as call
use Rattle.store_machine.specs.declared.journal.Act.{Act}
use Rattle.store_machine.specs.declared.journal.Act.TheVariants.{Enter}
use Rattle.store_machine.specs.declared.journal.Entry.{Entry}
use Rattle.store_machine.specs.Answers.{granted, entered}

-- the entries of a session, by its number
abbrev pub own : ℕ → List Entry → List Entry
own by history = filter (λ (e : Entry). e.by == by) history

-- a number is a session's, and the session has this many entries so far
pub record IsNext (history : List Entry) (by nth : ℕ) : Type 0 where
  pub session : IsSomeAnd (slice_get history by) (λ (e : Entry). e.act ≡ Enter)
  pub entries : nth ≡ length (own by history)

-- who may make an entry of this act: for an Enter anyone
abbrev pub MayAct : List Entry → ℕ → ℕ → Act → Type 0
MayAct history by nth Enter = Unit {0}
MayAct history by nth _ = IsNext history by nth

-- who may make a call
abbrev pub MayAsk : List Entry → ℕ → ℕ → StoreCall → Type 0
MayAsk history by nth call.Enter = Unit {0}
MayAsk history by nth _ = IsNext history by nth

-- an entry is the one that the call with exactly its items adds to the history before it, by someone who may
pub record Follows (config : Config) (history : List Entry) (e : Entry) : Type 0 where
  pub same : entered config history e.by e.nth e.at (granted config history e.act) ≡ e ∷ []
  pub may : MayAct history e.by e.nth e.act

-- each further entry follows those before it
abbrev pub LegalFrom : Config → List Entry → List Entry → Type 0
LegalFrom config earlier [] = Unit {0}
LegalFrom config earlier (e ∷ es) = Follows config earlier e × LegalFrom config (earlier ++ e ∷ []) es

-- the first entry lets the door in, who serves the others
abbrev pub door : Entry
door = record { by = 0; nth = 0; at = pos 0; act = Enter }

-- a history that the store can have: it begins with the door, and each further entry follows those before it
abbrev pub Legal : Config → List Entry → Type 0
Legal config [] = ⊥
Legal config (e ∷ es) = (e ≡ door) × LegalFrom config (e ∷ []) es
