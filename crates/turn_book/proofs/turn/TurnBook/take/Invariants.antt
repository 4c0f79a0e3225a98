use Rattle.std.proofs.Common.{◌≡◌, ◌≤◌, ℕ}
use Rattle.turn_book.specs.Hands.{IsSeatAt}
use Rattle.turn_book.proofs.turn.TurnBook.take.Given as goal

-- so far each take missed the turn
abbrev pub invariant-loop : goal.invariant-loop
invariant-loop g l = record {
  own : IsSeatAt l.self.table.shared.table_id (g.B.Book.fixed l.self.table.shared.key.value) l.seat.seat;
  missed : (k : ℕ) × (l.initial.seat.seat.me.0.missed ≤ k) × (l.seat.seat.me.0 ≡ record l.initial.seat.seat.me.0 { missed = k });
}
