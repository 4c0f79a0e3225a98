use Rattle.std.proofs.Common.{rules, ap, ◌∙◌}
use Rattle.turn_book.specs.Hands.{hand_of}
use Rattle.turn_book.proofs.KeptLemmas.{joins}
use Rattle.turn_book.proofs.turn.TurnBook.join.Goals as goal

pub join_seat-requires : goal.join_seat-requires
join_seat-requires g c = let T = g.B.Book in (
  search rules,
  search rules,
  c.args.ended.hand ∙ ap hand_of c.requires.idle.1,
  search rules,
  joins T.journal T.fixed T.by T.enters _ _ _ _ _ c.requires.idle.0 c.requires.idle.1,
)
