use Rattle.std.proofs.Common.{rules}
use Rattle.turn_book.proofs.KeptLemmas.{looks}
use Rattle.turn_book.proofs.turn.TurnBook.look.Goals as goal

pub load-requires : goal.load-requires
load-requires g c = let T = g.B.Book in (search rules, search rules, looks T.journal T.fixed T.by T.enters _ _ _ _)
