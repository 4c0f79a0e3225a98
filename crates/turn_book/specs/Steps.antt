-- The view after each kind of step, and what the step shows.
use Rattle.std.specs.Prelude.{◌≡◌, ◌≢◌, ℕ, ◌+◌, ◌≤◌, Bool, true, List, [], ◌∷◌, ◌++◌, length, Option, Some, None, IfSome}
use mathlib.Core.List.{IsPrefix}
use Rattle.atomic_table.specs.Table.{Step, Me}
use Rattle.turn_book.specs.declared.view.View.{View}
use Rattle.turn_book.specs.declared.view.Met.{Met}
use Rattle.turn_book.specs.Lists.{longer, own}
use Rattle.turn_book.specs.Rules.{Knows, Sound}

-- the first seat has the number 0, and has seen the whole journal
abbrev pub first_view : {E F : Type 0} → List E → F → View E F
first_view log fixed = record { fixed = Some fixed; number = Some 0; seen = log; marks = []; places = []; held = None; heard = []; missed = 0; met = []; olds = [] }

-- a seat that has only seen a prefix of the journal
abbrev pub fresh_view : {E F : Type 0} → Option F → List E → View E F
fresh_view fixed seen = record { fixed = fixed; number = None; seen = seen; marks = []; places = []; held = None; heard = []; missed = 0; met = []; olds = [] }

-- the turn was taken, with the journal
abbrev pub holding : {E F : Type 0} → List E → View E F → View E F
holding log v = record v { held = Some log }

-- the turn was given back
abbrev pub released : {E F : Type 0} → View E F → View E F
released v = record v { held = None }

-- a take found the turn taken
abbrev pub missing : {E F : Type 0} → View E F → View E F
missing v = record v { missed = v.missed + 1 }

-- a look with the turn found the length n of the journal
abbrev pub marked : {E F : Type 0} → List E → ℕ → View E F → View E F
marked log n v = record v { seen = log; marks = v.marks ++ n ∷ []; places = v.places ++ n ∷ [] }

-- a look without the turn found the length n
abbrev pub hearing : {E F : Type 0} → ℕ → View E F → View E F
hearing n v = record v { heard = v.heard ++ n ∷ [] }

-- a seat's first entry gives it its number
abbrev pub number_or : Option ℕ → ℕ → Option ℕ
number_or None n = Some n
number_or (Some k) n = Some k

-- an entry of the seat's own was published at n, after all that it had seen
abbrev pub grown : {E F : Type 0} → E → ℕ → View E F → View E F
grown e n v = record v { number = number_or v.number n; seen = v.seen ++ e ∷ []; held = Some (v.seen ++ e ∷ []); marks = v.marks ++ n ∷ [] }

-- an entry of the seat's own went in with the book
abbrev pub wrote : {E F : Type 0} → E → View E F → View E F
wrote e v = released (grown e (length v.seen) v)

-- the entry is the seat's own; without a number yet, it is the one by which the seat enters at n
abbrev pub IsOwn : {E : Type 0} → (E → ℕ) → (E → Bool) → Option ℕ → ℕ → E → Type 0
IsOwn by enters None n e = (by e ≡ n) × (enters e ≡ true)
IsOwn by enters (Some k) n e = by e ≡ k

-- a seat with a number is met
abbrev pub met_of : {E : Type 0} → Option ℕ → List E → List ℕ → List ℕ → List (Met E)
met_of None seen places heard = []
met_of (Some n) seen places heard = record { number = n; seen = seen; places = places; heard = heard } ∷ []

-- the seat with the view w was joined into the one with the view v
abbrev pub joined : {E F : Type 0} → View E F → View E F → View E F
joined v w = record v { seen = longer v.seen w.seen; met = v.met ++ (met_of w.number w.seen w.places w.heard ++ w.met); olds = v.seen ∷ w.seen ∷ [] }

-- all entries under the seat's number were seen
abbrev pub IsOwnSeen : {E : Type 0} → (E → ℕ) → Option ℕ → List E → List E → Type 0
IsOwnSeen by number seen log = IfSome number (λ n. own by n log ≡ own by n seen)

-- a look with the turn found the length of the journal, which is then seen whole, and all entries under the seat's number
-- had been seen before
pub record Sees {E F : Type 0} (by : E → ℕ) (enters : E → Bool) (log : List E) (v : View E F) (n : ℕ) (w : View E F) : Type 0 where
  pub found : n ≡ length log
  pub view : w ≡ marked log n v
  pub before : IsPrefix v.seen log
  pub own : IsOwnSeen by v.number v.seen log
  pub knows : Knows by enters log w

-- a look without the turn found at least the length that was seen
pub record Hears {E F : Type 0} (by : E → ℕ) (enters : E → Bool) (v : View E F) (n : ℕ) (w : View E F) : Type 0 where
  pub least : length v.seen ≤ n
  pub view : w ≡ hearing n v
  pub sound : Sound by enters w

module _ {B E F : Type 0} (journal : B → List E) (fixed : B → F) (by : E → ℕ) (enters : E → Bool) where
  -- taking the turn: the word was 0, and the seat has the turn and the slot; or it was 1, and the seat missed the turn
  abbrev pub took : Step (Option B) → Me (Option B) (View E F) → ℕ → Me (Option B) (View E F) → Type 0
  took st m n m' =
      (n ≡ 0 → (b : B) × (m' ≡ (holding (journal b) m.0, (0, Some b) ∷ [])) × IfSome m.0.fixed (λ f. f ≡ fixed b) × Knows by enters (journal b) m.0)
      × (n ≢ 0 → (n ≡ 1) × (m' ≡ (missing m.0, [])))

module _ {B E F : Type 0} (by : E → ℕ) (enters : E → Bool) where
  -- giving it back: the slot is at home again
  abbrev pub gave : Step (Option B) → Me (Option B) (View E F) → ℕ → Me (Option B) (View E F) → Type 0
  gave st m n m' = (m' ≡ (released m.0, [])) × ((log : List E) → m.0.held ≡ Some log → Knows by enters log m'.0)

  -- publishing an entry: the number found is its place, after all that was seen
  abbrev pub published : Option E → Step (Option B) → Me (Option B) (View E F) → ℕ → Me (Option B) (View E F) → Type 0
  published entry st m n m' = (e : E) → entry ≡ Some e → (n ≡ length m.0.seen) × (m' ≡ (grown e n m.0, m.1))

  -- looking at the journal's length, with the turn or without
  abbrev pub looked : Step (Option B) → Me (Option B) (View E F) → ℕ → Me (Option B) (View E F) → Type 0
  looked st m n m' =
      (m'.1 ≡ m.1)
      × ((log : List E) → m.0.held ≡ Some log → Sees by enters log m.0 n m'.0)
      × (m.0.held ≡ None → Hears by enters m.0 n m'.0)
