use Rattle.turn_book.specs.Lists.{last}
use Rattle.turn_book.proofs.turn.TurnBook.give.Given as goal

-- the entry that is published is the book's last
abbrev pub ghosts-publish : goal.ghosts-publish
ghosts-publish g a = record { entry = last (g.B.Book.journal a.book.now) }
