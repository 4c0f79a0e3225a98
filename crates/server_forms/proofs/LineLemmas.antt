-- The lines of a report, entry by entry.
use Rattle.std.proofs.Common.{◌≡◌, ◌≤◌, ◌<◌, ℕ, suc, ◌+◌, List, [], ◌++◌, length, drop, Some, ap, sym, ◌∙◌, ⊎_elim, arith, add-one}
use Rattle.std.proofs.lemmas.List.{drop_all}
use Rattle.std.proofs.lemmas.Option.{slice_get_cases}
use Rattle.std.specs.Prelude.{slice_get}
use Rattle.etp_values.proofs.ListLemmas.{drop_item}
use Rattle.store_machine.specs.Laws.{is_enter}
use Rattle.store_machine.specs.Legal.{own}
use Rattle.store_machine.specs.declared.journal.Entry.{Entry}
use Rattle.server_forms.specs.Report.{line_at, line_if, line_of, lines_from}

next_by : (journal : List Entry) (k : ℕ) (e : Entry) → slice_get journal k ≡ Some e
    → lines_from journal k (drop k journal) ≡ line_at journal k ++ lines_from journal (k + 1) (drop (k + 1) journal)
next_by journal k e at =
    ap (lines_from journal k) (drop_item journal k e at)
    ∙ (ap (λ l. l ++ lines_from journal (k + 1) (drop (suc k) journal)) (sym (ap (line_of journal k) at))
    ∙ ap (λ j. line_at journal k ++ lines_from journal (k + 1) (drop j journal)) (sym (add-one k)))

-- the line of an entry, and those of the entries after it
pub lines_next : (journal : List Entry) (k : ℕ) → k < length journal → lines_from journal k (drop k journal) ≡ line_at journal k ++ lines_from journal (k + 1) (drop (k + 1) journal)
lines_next journal k within = ⊎_elim (λ found. next_by journal k found.0 found.2) (λ past. absurd (omega (arith, within, past.0))) (slice_get_cases journal k).1

-- the line of an entry that was looked at
pub line_is : (journal : List Entry) (k entries : ℕ) (e : Entry) → slice_get journal k ≡ Some e → entries ≡ length (own k journal)
    → line_at journal k ≡ line_if (is_enter e.act) k entries
line_is journal k entries e at is = ap (line_of journal k) at ∙ ap (line_if (is_enter e.act) k) (sym is)

-- after the last entry there are none
pub lines_end : (journal : List Entry) (k : ℕ) → length journal ≤ k → lines_from journal k (drop k journal) ≡ []
lines_end journal k over = ap (lines_from journal k) (drop_all k journal over)
