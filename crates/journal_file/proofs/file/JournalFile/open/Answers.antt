use Rattle.std.proofs.Common.{ℕ, List, subst, sym}
use Rattle.journal_file.specs.Layout.{OpensTo}
use Rattle.journal_file.proofs.ReadingLaws.{file_opens}
use Rattle.journal_file.proofs.file.JournalFile.open.Goals as goal

pub returns-in-Ok-clause-opened : goal.returns-in-Ok-clause-opened
returns-in-Ok-clause-opened g c = λ f is.
    subst (λ (ss : List (List ℕ)). OpensTo c.args.id ss f) (sym c.from_vec.ensures) (file_opens c.args.id c.in-Ok.walk.spellings.items f (c.in-Ok.ensures.read f is))
