use Rattle.std.proofs.Common.{rules, ◌∷◌, Some, ap, ◌∙◌}
use Rattle.atomic_table.specs.Table.{rest}
use Rattle.turn_book.specs.Hands.{hand_of}
use Rattle.turn_book.proofs.KeptLemmas.{gives_turn_at}
use Rattle.turn_book.proofs.turn.TurnBook.put.Goals as goal

pub store-requires : goal.store-requires
store-requires g c = let T = g.B.Book in let seat = c.args.seat.now in let now = c.exchange.ensures.3 in let hand = seat.hand ∙ ap hand_of c.requires.held in (
  search rules,
  search rules,
  gives_turn_at T.journal T.fixed T.by T.enters _ _ _ _ c.args.book (ap (λ m. m.1) now ∙ ap (λ cs. (0, Some c.args.book) ∷ rest cs) hand) (ap (λ m. m.0.held) now ∙ c.requires.held) c.requires.fixed,
)

pub returns-clause-knows : goal.returns-clause-knows
returns-clause-knows g c = c.store.ensures.2.1 (g.B.Book.journal c.args.book) (ap (λ m. m.0.held) c.exchange.ensures.3 ∙ c.requires.held)
