use Rattle.std.proofs.Common.{rules, ◌∷◌, Some, ap, ◌∙◌}
use Rattle.atomic_table.specs.Table.{rest}
use Rattle.turn_book.specs.Hands.{hand_of}
use Rattle.turn_book.proofs.KeptLemmas.{takes_turn_at}
use Rattle.turn_book.proofs.turn.TurnBook.try_take.Goals as goal

pub compare_exchange-found-requires : goal.compare_exchange-found-requires
compare_exchange-found-requires g c = let T = g.B.Book in let seat = c.args.seat.now in (
  search rules,
  search rules,
  takes_turn_at T.journal T.fixed T.by T.enters _ _ _ _ (seat.hand ∙ ap hand_of c.requires.idle) c.requires.idle,
)

pub exchange-requires : goal.exchange-requires
exchange-requires g c =
    let took = c.compare_exchange-found.ensures.2.0 c.if-found-ne0.false in
    let slots = ap (λ m. m.1) took.1 in (
      search rules,
      (Some took.0, slots ∙ ap (λ cs. (0, Some took.0) ∷ rest cs) (Rattle.std.proofs.Common.sym slots)),
    )
