use Rattle.turn_book.proofs.ToldLemmas.{knows_missed}
use Rattle.turn_book.proofs.turn.TurnBook.take.Goals as goal

pub returns-in-Some-try_take-clause-knows : goal.returns-in-Some-try_take-clause-knows
returns-in-Some-try_take-clause-knows g c = let T = g.B.Book in let m = c.loop.invariant.missed in
    knows_missed T.by T.enters _ c.args.seat.now.seat.me.0 c.loop.seat.seat.me.0 m.0 m.2 c.in-Some-try_take.ensures.knows
