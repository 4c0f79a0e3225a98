-- What the rule says about the turn, word by word.
use Rattle.std.specs.Prelude.{◌≡◌, ◌⊎◌, ℕ, Bool, List, [], ◌∷◌, length, Option, Some, None}
use mathlib.Core.Option.{some, none}
use lib.ListN.{get_elem?}
use Rattle.atomic_table.specs.Table.{State}
use Rattle.turn_book.specs.declared.view.View.{View}
use Rattle.turn_book.specs.Rules.{Ruled}

-- the first word is 0, no seat has the turn, and the book is at home: it has the fixed part, and as many entries as the second word says
pub record IsFree {B E F : Type 0} (journal : B → List E) (fixed : B → F) (key : F) (s : State (Option B) (View E F)) : Type 0 where
  pub book : B
  pub words : s.words ≡ 0 ∷ length (journal book) ∷ []
  pub home : s.homes ≡ some (Some book) ∷ []
  pub fixed_is : fixed book ≡ key
  pub nobody : (i : ℕ) (v : View E F) → get_elem? s.views i ≡ some v → v.held ≡ None

-- the first word is 1, one seat has the turn and no other, the slot is out, and the journal that the seat holds has as many entries as the second word says
pub record IsTaken {B E F : Type 0} (s : State (Option B) (View E F)) : Type 0 where
  pub log : List E
  pub place : ℕ
  pub view : View E F
  pub words : s.words ≡ 1 ∷ length log ∷ []
  pub out : s.homes ≡ none ∷ []
  pub there : get_elem? s.views place ≡ some view
  pub held : view.held ≡ Some log
  pub others : (i : ℕ) (v : View E F) → ¬ (i ≡ place) → get_elem? s.views i ≡ some v → v.held ≡ None

-- in each state that satisfies the rule the turn is free, or one seat has it
abbrev pub TurnIsWithOne : {B E F : Type 0} → (B → List E) → (B → F) → (E → ℕ) → (E → Bool) → Type 0
TurnIsWithOne {B} {E} {F} journal fixed by enters = (key : F) (s : State (Option B) (View E F)) → Ruled journal fixed by enters key s → IsFree journal fixed key s ⊎ IsTaken s
