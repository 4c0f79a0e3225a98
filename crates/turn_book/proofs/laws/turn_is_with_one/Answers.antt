use Rattle.turn_book.proofs.KeptLemmas.{turn_with_one}
use Rattle.turn_book.proofs.laws.turn_is_with_one.Goals as goal

pub returns : goal.returns
returns g c = let T = g.B.Book in λ key s rule. turn_with_one T.journal T.fixed T.by T.enters key s rule
