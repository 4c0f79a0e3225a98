-- What a seat has in hand between two calls, what it may give, and how a book ends.
use Rattle.std.specs.Prelude.{◌≡◌, ◌⊎◌, ◌≤◌, ℕ, Bool, true, List, [], ◌∷◌, ◌++◌, length, Option, Some, None, slice_get}
use mathlib.Core.Option.{some}
use lib.ListN.{get_elem?}
use Rattle.atomic_table.specs.Table.{State}
use Rattle.atomic_table.specs.Seated.{TableId}
use Rattle.atomic_table.specs.declared.shared.Seat as declared_seat
use Rattle.turn_book.specs.declared.view.View.{View}
use Rattle.turn_book.specs.Rules.{taken, Ruled}
use Rattle.turn_book.specs.Steps.{IsOwn}

-- with the turn a seat has the slot, which is empty while the book is with its caller
abbrev pub hand_of : {B E : Type 0} → Option (List E) → List (ℕ × Option B)
hand_of None = []
hand_of (Some log) = (0, None) ∷ []

-- the length of the journal that is held; n without the turn
abbrev pub held_len : {E : Type 0} → Option (List E) → ℕ → ℕ
held_len None n = n
held_len (Some log) n = length log

-- the seat belongs to the table, and knows its fixed part
abbrev pub IsSeatAt : {B E F : Type 0} → TableId → F → declared_seat.Seat (Option B) (View E F) → Type 0
IsSeatAt z key s = (s.table_id ≡ z) × (s.me.0.fixed ≡ Some key)

-- the journal begins with an entry by which the number 0 enters
abbrev pub IsBegun : {E : Type 0} → (E → ℕ) → (E → Bool) → List E → Type 0
IsBegun {E} by enters log = (e : E) × (slice_get log 0 ≡ Some e) × (enters e ≡ true) × (by e ≡ 0)

-- with the turn the seat has seen the whole journal, and this one has one entry more
abbrev pub IsOneMore : {E F : Type 0} → View E F → E → List E → Type 0
IsOneMore v e log = (v.held ≡ Some v.seen) × (log ≡ v.seen ++ e ∷ [])

-- the journal has one more entry of the seat's own
abbrev pub MayAdd : {E F : Type 0} → (E → ℕ) → (E → Bool) → View E F → List E → Type 0
MayAdd {E} by enters v log = (e : E) × IsOneMore v e log × IsOwn by enters v.number (length v.seen) e

-- the journal is the one taken, or has one more entry of the seat's own
abbrev pub MayGive : {E F : Type 0} → (E → ℕ) → (E → Bool) → View E F → List E → Type 0
MayGive by enters v log = (v.held ≡ Some log) ⊎ MayAdd by enters v log

-- the seat has the turn with this journal, after some takes that missed it
abbrev pub Waits : {E F : Type 0} → View E F → List E → View E F → Type 0
Waits v log w = (k : ℕ) × (v.missed ≤ k) × (w ≡ record v { held = Some log; missed = k })

-- the table was last in a state that satisfies the rule, with this journal, in which the seat with the view v has the turn
pub record EndsAt {B E F : Type 0} (journal : B → List E) (fixed : B → F) (by : E → ℕ) (enters : E → Bool) (key : F) (v : View E F) (log : List E) : Type 0 where
  pub state : State (Option B) (View E F)
  pub rule : Ruled journal fixed by enters key state
  pub whole : rule.log ≡ log
  pub place : ℕ
  pub turn : rule.turn ≡ taken place
  pub missed : ℕ
  pub more : v.missed ≤ missed
  pub mine : get_elem? state.views place ≡ some (record v { held = Some log; missed = missed })
