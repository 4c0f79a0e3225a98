use Rattle.turn_book.proofs.ToldLemmas.{ends}
use Rattle.turn_book.proofs.turn.TurnBook.close.Goals as goal

pub returns-clause-rule : goal.returns-clause-rule
returns-clause-rule g c =
    let T = g.B.Book in
    ends T.journal T.fixed T.by T.enters (T.fixed c.args.self.table.shared.key.value) c.args.seat.seat.me.0 c.take-book.new.seat.seat.me.0 (T.journal c.take-book.result) c.take-book.new.seat.seat.id _ _
    c.take-book.ensures.view c.close_with-closed.ensures.values.2
