use Rattle.std.proofs.Common.{rules}
use Rattle.turn_book.proofs.KeptLemmas.{splits}
use Rattle.turn_book.proofs.turn.TurnBook.split.Goals as goal

pub split_seat-seat-requires : goal.split_seat-seat-requires
split_seat-seat-requires g c = let T = g.B.Book in (search rules, search rules, splits T.journal T.fixed T.by T.enters _ _ _)
