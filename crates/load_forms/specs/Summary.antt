-- The lines of a summary.
use Rattle.std.specs.Prelude.{ℕ, List, ◌++◌, codes}
use Rattle.std.specs.Fmt.{decimal}
use Rattle.load_forms.specs.declared.tally.Tally.{Tally}

-- how many messages a load has, how many sessions send them, and how many entries the journal then has
abbrev pub first_lines : ℕ → ℕ → List ℕ
first_lines messages entries = codes "messages " ++ (decimal messages ++ (codes "\nsessions 8\nentries " ++ (decimal entries ++ codes "\n")))

-- how many messages were sent, and how many of them report changes
abbrev pub last_lines : Tally → List ℕ
last_lines t = codes "sent " ++ (decimal t.sent ++ (codes "\nchanges " ++ (decimal t.changes ++ codes "\n")))

-- the five lines
abbrev pub summary_lines : ℕ → ℕ → Tally → List ℕ
summary_lines messages entries t = first_lines messages entries ++ last_lines t
