-- Laws on answers and passes.
use Rattle.std.specs.Prelude.{◌≡◌, ◌≤◌, ℕ, ℤ, true, [], ◌∷◌, ◌++◌, map, length, take}
use Rattle.server_config.specs.declared.config.Config.{Config}
use Rattle.store_machine.specs.declared.call.StoreCall.{StoreCall}
use Rattle.store_machine.specs.declared.call.Answer.{Answer}
use Rattle.store_machine.specs.declared.journal.Entry.{Entry}
use Rattle.store_machine.specs.Answers.{answered, added}
use Rattle.turn_book.specs.Lists.{Each, own}
use Rattle.store_hub.specs.declared.pass.Pass.{Pass}
use Rattle.store_hub.specs.Words.{Known, by_of, enters_of}
use Rattle.store_hub.specs.Notes.{Answers}
use Rattle.store_hub.specs.Passes.{known, IsFresh}

-- the answer is the store's at the first `mark` entries of what is seen now, and the mark is no less than what was seen
-- before, nor than any length that was heard; what is seen now are those entries and the one that the call adds there; the mark was noted, and once more for
-- that entry
pub record Reads (config : Config) (n nth : ℕ) (at : ℤ) (call : StoreCall) (v : Known) (a : Answer) (w : Known) : Type 0 where
  pub least : length v.seen ≤ a.mark
  pub heard : Each (λ n. n ≤ a.mark) v.heard
  pub answer : a ≡ answered config (take a.mark w.seen) call
  pub seen : w.seen ≡ take a.mark w.seen ++ added config (take a.mark w.seen) n nth at call
  pub marks : w.marks ≡ (v.marks ++ a.mark ∷ []) ++ map (λ e. a.mark) (added config (take a.mark w.seen) n nth at call)

-- each answer that a call left in its pass is read this way
abbrev pub AnswersRead : Type 0
AnswersRead = (config : Config) (n nth : ℕ) (at : ℤ) (call : StoreCall) (v : Known) (a : Answer) (w : Known)
    → Answers config n nth at call v a w → Reads config n nth at call v a w

-- the one own entry of a session that was answered nothing since it was let in is the one that let it in
abbrev pub FreshHaveEntered : Type 0
FreshHaveEntered = (p : Pass) → IsFresh p
    → (e : Entry) × (own by_of p.number (known p).seen ≡ (p.number, e) ∷ []) × (enters_of e ≡ true)
