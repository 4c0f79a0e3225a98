-- What a clause reads of a book and of a seat.
use Rattle.std.specs.Prelude.{◌≡◌, Some}
use Rattle.turn_book.specs.declared.book.Book.{Ghosts}
use Rattle.turn_book.specs.declared.view.View.{View}
use Rattle.turn_book.specs.declared.seat.Seat.{Seat}
use Rattle.turn_book.specs.declared.turn.TurnBook.{TurnBook}

-- the part of the book that never changes
abbrev pub fixed_of : {B E F : Type 0} → (B → F) → TurnBook B E F → F
fixed_of fixed b = fixed b.table.shared.key.value

module _ {B E F : Type 0} {g : Ghosts B E F} where
  -- what the seat knows
  abbrev pub view : Seat B E F g → View E F
  view s = s.seat.me.0

  -- the seat came from this book
  abbrev pub IsSeatOf : (B → F) → TurnBook B E F → Seat B E F g → Type 0
  IsSeatOf fixed b s = (s.seat.table_id ≡ b.table.shared.table_id) × ((view s).fixed ≡ Some (fixed b.table.shared.key.value))
