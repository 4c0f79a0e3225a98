-- The report of a journal: how many entries it has, and how many each session wrote.
use Rattle.std.specs.Prelude.{ℕ, ◌+◌, ◌-◌, Bool, true, false, List, [], ◌∷◌, ◌++◌, codes, length, slice_get, Option, None, Some}
use Rattle.std.specs.Fmt.{decimal}
use Rattle.store_machine.specs.Laws.{is_enter}
use Rattle.store_machine.specs.Legal.{own}
use Rattle.store_machine.specs.declared.journal.Entry.{Entry}

-- the first line
abbrev pub entries_line : ℕ → List ℕ
entries_line entries = codes "entries " ++ (decimal entries ++ codes "\n")

-- the line of a session with this many entries, of which the first let it in
abbrev pub session_line : ℕ → ℕ → List ℕ
session_line number entries = codes "session " ++ (decimal number ++ (codes " writes " ++ (decimal (entries - 1) ++ codes "\n")))

-- an entry that lets a session in has a line
abbrev pub line_if : Bool → ℕ → ℕ → List ℕ
line_if true number entries = session_line number entries
line_if false number entries = []

-- the line of an entry, if there is one
abbrev pub line_of : List Entry → ℕ → Option Entry → List ℕ
line_of journal place None = []
line_of journal place (Some e) = line_if (is_enter e.act) place (length (own place journal))

-- the line of the entry at a place
abbrev pub line_at : List Entry → ℕ → List ℕ
line_at journal place = line_of journal place (slice_get journal place)

-- the lines of entries that are in a journal from a place on
abbrev pub lines_from : List Entry → ℕ → List Entry → List ℕ
lines_from journal place [] = []
lines_from journal place (e ∷ es) = line_if (is_enter e.act) place (length (own place journal)) ++ lines_from journal (place + 1) es

-- the number of entries, and for each session that was let in, by its number, how many more entries it wrote
abbrev pub report : List Entry → List ℕ
report journal = entries_line (length journal) ++ lines_from journal 0 journal
