-- The rule over the two words, the slot of the book and the views of all seats.
use Rattle.std.specs.Prelude.{◌≡◌, ◌==◌, ℕ, ◌≤◌, ◌<◌, Bool, true, List, [], ◌∷◌, ◌++◌, map, length, Option, Some, None, IfSome, if◌then◌else◌, slice_get}
use mathlib.Core.Option.{some, none}
use mathlib.Core.Option as maybe
use mathlib.Core.List.{IsPrefix}
use lib.ListN.{get_elem?}
use Rattle.atomic_table.specs.Table.{State}
use Rattle.turn_book.specs.declared.view.View.{View}
use Rattle.etp_values.specs.Rising.{Rises}
use Rattle.etp_values.specs.Weight.{weigh}
use Rattle.turn_book.specs.Lists.{Each, occurrences, without_each, longer, own, own_places}

-- the turn is free and the book is at home, or the seat of this place has the turn and the book
pub data Turn (B : Type 0) : Type 0 where
  free : B → Turn B
  taken : ℕ → Turn B

-- the word of the turn
abbrev pub flag : {B : Type 0} → Turn B → ℕ
flag (free b) = 0
flag (taken h) = 1

-- what is at home in the slot
abbrev pub home : {B : Type 0} → Turn B → maybe.Option (Option B)
home (free b) = some (Some b)
home (taken h) = none

-- what the seat j holds of the journal: the whole, while it has the turn
abbrev pub held_by : {B E : Type 0} → Turn B → List E → ℕ → Option (List E)
held_by (free b) log j = None
held_by (taken h) log j = if j == h then Some log else None

-- the book at home has the journal and the fixed part; or the seat that has the turn is there
abbrev pub IsAtHome : {B E F : Type 0} → (B → List E) → (B → F) → F → List E → List (View E F) → Turn B → Type 0
IsAtHome journal fixed key log views (free b) = (journal b ≡ log) × (fixed b ≡ key)
IsAtHome {B} {E} {F} journal fixed key log views (taken h) = (v : View E F) × (get_elem? views h ≡ some v)

-- the entry at n enters its own writer, and the journal has no entry by n that was not seen
pub record IsSettled {E : Type 0} (by : E → ℕ) (enters : E → Bool) (log : List E) (n : ℕ) (seen : List E) : Type 0 where
  pub entry : E
  pub place : slice_get seen n ≡ Some entry
  pub entering : enters entry ≡ true
  pub writer : by entry ≡ n
  pub own : own by n log ≡ own by n seen

-- with one list joined into another, the entries by n are those of the first, which has a place n
abbrev pub IsMine : {E : Type 0} → (E → ℕ) → ℕ → List (List E) → Type 0
IsMine by n [] = Unit {0}
IsMine by n (o ∷ []) = Unit {0}
IsMine by n (o ∷ p ∷ []) = n < length o → own by n (longer o p) ≡ own by n o
IsMine by n (o ∷ p ∷ q ∷ more) = Unit {0}

-- a number or none, as a list
abbrev pub numbers_of : Option ℕ → List ℕ
numbers_of None = []
numbers_of (Some n) = n ∷ []

-- the seat's number, and those that were joined into it
abbrev pub numbers : {E F : Type 0} → View E F → List ℕ
numbers v = numbers_of v.number ++ map (λ m. m.number) v.met

-- no entry at a mark has a later writer
abbrev pub IsDated : {E : Type 0} → (E → ℕ) → List E → List ℕ → Type 0
IsDated by log marks = Each (λ m. IfSome (slice_get log m) (λ e. by e ≤ m)) marks

-- the view is one of a journal: what was seen is a prefix of it; marks never fall and are at most the length seen; no length that was heard
-- is above the journal's; the number, and each that was met, is settled by what its seat had seen; what was met and what was seen before a
-- join is a prefix of what is seen now, and the join brought no entry under the seat's own number; no entry at a mark has a later writer;
-- and places, which never fall either, are the marks with one left out for each own entry
pub record Fits {E F : Type 0} (by : E → ℕ) (enters : E → Bool) (log : List E) (v : View E F) : Type 0 where
  pub seen : IsPrefix v.seen log
  pub marks : Rises 0 v.marks (length v.seen)
  pub heard : Each (λ n. n ≤ length log) v.heard
  pub number : IfSome v.number (λ n. IsSettled by enters log n v.seen)
  pub met : Each (λ m. IsPrefix m.seen v.seen × IsSettled by enters log m.number m.seen) v.met
  pub olds : Each (λ o. IsPrefix o v.seen) v.olds
  pub mine : IfSome v.number (λ n. IsMine by n v.olds)
  pub dated : IsDated by log v.marks
  pub rises : Rises 0 v.places (length v.seen)
  pub places : v.places ≡ without_each (own_places by v.number v.seen) v.marks

-- the numbers of one view differ
abbrev pub IsApart : {E F : Type 0} → View E F → Type 0
IsApart v = (n : ℕ) → occurrences n (numbers v) ≤ 1

-- the view is one of this journal, and its numbers differ
pub record Knows {E F : Type 0} (by : E → ℕ) (enters : E → Bool) (log : List E) (v : View E F) : Type 0 where
  pub fits : Fits by enters log v
  pub apart : IsApart v

-- what a seat knows whatever the journal is: apart from what was heard, the view is one of a journal that ends where the
-- seat has seen it
abbrev pub Sound : {E F : Type 0} → (E → ℕ) → (E → Bool) → View E F → Type 0
Sound by enters v = Knows by enters v.seen (record v { heard = [] })

-- The rule. There are a journal and a turn such that
--   the first word is 0 while the book is at home and 1 while a seat has it, and the second is the journal's length;
--   the book at home has the journal and the fixed part, and a book that is out is with the seat that has the turn;
--   one seat at most has the turn, namely exactly while the first word is 1;
--   each view is one of the journal and has the book's fixed part;
--   no number is that of two seats, nor met twice, nor both
pub record Ruled {B E F : Type 0} (journal : B → List E) (fixed : B → F) (by : E → ℕ) (enters : E → Bool) (key : F) (s : State (Option B) (View E F)) : Type 0 where
  pub log : List E
  pub turn : Turn B
  pub words : s.words ≡ flag turn ∷ length log ∷ []
  pub homes : s.homes ≡ home turn ∷ []
  pub at_home : IsAtHome journal fixed key log s.views turn
  pub held : (j : ℕ) (v : View E F) → get_elem? s.views j ≡ some v → v.held ≡ held_by turn log j
  pub fixes : (j : ℕ) (v : View E F) → get_elem? s.views j ≡ some v → IfSome v.fixed (λ f. f ≡ key)
  pub fits : (j : ℕ) (v : View E F) → get_elem? s.views j ≡ some v → Fits by enters log v
  pub apart : (n : ℕ) → weigh (λ v. occurrences n (numbers v)) s.views ≤ 1
