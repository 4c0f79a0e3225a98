-- What became of links, over the journal in the end.
use Rattle.std.proofs.Common.{◌≡◌, ◌≤◌, ℕ, suc, ℤ, Bool, false, List, [], ◌∷◌, ◌++◌, length, map, None, Some, ap, ◌∙◌, subst, refl, arith}
use Rattle.std.specs.List.{AllByRecursion}
use Rattle.std.specs.Prelude.{IfSome}
use Rattle.std.specs.declared.option.Option.{Option}
use mathlib.Core.List.{IsPrefix}
use Rattle.server_config.specs.declared.config.Config.{Config}
use Rattle.store_machine.specs.declared.journal.Act.TheVariants.{Enter}
use Rattle.store_machine.specs.declared.journal.Entry.{Entry}
use Rattle.store_machine.specs.Answers.{has_room_for}
use Rattle.store_machine.specs.Laws.{FullStaysFull}
use Rattle.etp_outside.specs.Doors.{Back}
use Rattle.turn_book.specs.Lists.{Each, occurrences, own}
use Rattle.turn_book.specs.Rules.{IsSettled, Knows, numbers_of as own_number}
use Rattle.turn_book.specs.declared.view.Met.{Met}
use Rattle.turn_book.proofs.ListLemmas.{occurrences_append}
use Rattle.turn_book.proofs.OwnLemmas.{own_between}
use Rattle.store_hub.specs.Words.{Known, by_of, enters_of}
use Rattle.etp_serve.specs.Accepted.{AsSession, Came, IsCame, IsSilent, OnFull, OnLack, ServesAll, mets}
use Rattle.etp_serve.specs.Closing.{HasNoMoreOf, ServedOver}
use Rattle.etp_serve.specs.Laws.{Laws}
use Rattle.etp_serve.specs.declared.served.Served.{Served}
use Rattle.etp_serve.proofs.AcceptLemmas.{own_chain, was_served}

-- what was met is settled in the journal and had seen a front of what the pass has
abbrev pub IsMetBelow : List Entry → List Entry → Met Entry → Type 0
IsMetBelow seen h m = IsPrefix m.seen seen × IsSettled by_of enters_of h m.number m.seen

came_longer : Laws → FullStaysFull → (test : List ℤ → Bool) (config : Config) (low : ℕ) (old new : List Entry) → IsPrefix old new → (cs : List Came)
    → Each (IsMetBelow old new) (mets cs) → AllByRecursion (IsCame test config low old) cs → AllByRecursion (IsCame test config low new) cs
came_longer laws room test config low old new pre [] met each = tt
came_longer laws room test config low old new pre (AsSession s ∷ cs) met each =
    let m : IsMetBelow old new s.met = met 0 s.met refl in
    let mine : own by_of s.met.number new ≡ own by_of s.met.number old = own_between by_of s.met.number s.met.seen old new m.0 pre m.1.own in
    ((each.0.0, was_served laws test config old new s pre mine each.0.1), came_longer laws room test config low old new pre cs (λ i x at. met (suc i) x at) each.1)
came_longer laws room test config low old new pre (OnFull ∷ cs) met each =
    (subst (λ (h : List Entry). has_room_for config h Enter ≡ false) pre.1 (room config old pre.0 each.0), came_longer laws room test config low old new pre cs met each.1)
came_longer laws room test config low old new pre (OnLack ∷ cs) met each = (tt, came_longer laws room test config low old new pre cs met each.1)

-- what a pass is settled by in the journal has no further entry under its number
settled_own : (o : Option ℕ) (h seen : List Entry) → IfSome o (λ n. IsSettled by_of enters_of h n seen) → IfSome o (λ n. own by_of n h ≡ own by_of n seen)
settled_own None h seen is = tt
settled_own (Some n) h seen is = is.own

no_more_of : (v0 v : Known) (h : List Entry) → Knows by_of enters_of h v → IsSilent v0 v → HasNoMoreOf v0 h
no_more_of v0 v h knows s =
    own_chain v0.number v0.seen v.seen h (subst (λ (o : Option ℕ). IfSome o (λ n. own by_of n h ≡ own by_of n v.seen)) s.number (settled_own v.number h v.seen knows.fits.number)) s.own

-- the numbers that were met are among the pass's own
numbers_apart : (o : Option ℕ) (met : List (Met Entry)) (n : ℕ) → occurrences n (own_number o ++ map (λ m. m.number) met) ≤ 1 → occurrences n (map (λ m. m.number) met) ≤ 1
numbers_apart o met n few = let sum = occurrences_append n (own_number o) (map (λ m. m.number) met) in omega (arith, sum, few)

pub served_over : Laws → FullStaysFull → (end : Served) (test : List ℤ → Bool) (config : Config) (v0 v : Known) (given0 given : ℕ) (b0 b : Option (List Back)) (h : List Entry)
    → v0.met ≡ [] → Knows by_of enters_of h v → ServesAll end test config v0 v given0 given b0 b → ServedOver end test config (length v0.seen) h given0 given b0 b × HasNoMoreOf v0 h
served_over laws room end test config v0 v given0 given b0 b h alone knows s =
    let met : v.met ≡ mets s.came = s.met ∙ ap (λ (l : List (Met Entry)). l ++ mets s.came) alone in
    let over : ServedOver end test config (length v0.seen) h given0 given b0 b = record {
      came = s.came;
      each = came_longer laws room test config (length v0.seen) v.seen h knows.fits.seen s.came (subst (Each (IsMetBelow v.seen h)) met knows.fits.met) s.each;
      apart = λ n. subst (λ (l : List (Met Entry)). occurrences n (map (λ m. m.number) l) ≤ 1) met (numbers_apart v.number v.met n (knows.apart n));
      count = s.count;
      links = s.links;
      memory = s.memory;
    } in
    (over, no_more_of v0 v h knows s.silent)
