-- Entries that are counted one after the other.
use Rattle.std.proofs.Common.{◌≡◌, ◌≤◌, ◌<◌, ◌+◌, ◌-◌, ◌^◌, ◌==◌, ℕ, Bool, true, false, cond, List, [], ◌∷◌, ◌++◌, length, take, drop, Some, ap, ◌∙◌, arith, min, get_or}
use Rattle.std.proofs.Math.Nat.{min-eq_left}
use Rattle.std.proofs.lemmas.List.{append-nil, drop_all, take_all}
use Rattle.std.specs.Prelude.{slice_get, if◌then◌else◌}
use Rattle.store_machine.proofs.NumberLemmas.{own-step, own_few}
use Rattle.store_machine.specs.Legal.{own}
use Rattle.store_machine.specs.declared.journal.Entry.{Entry}
use Rattle.server_forms.specs.Counts.{CountsSoFar}

next_count : (b : Bool) (e : Entry) (was now rest all most : ℕ) → now ≡ (if b then min (was + 1) (2 ^ 64 - 1) else was) → was + (length (cond b (e ∷ []) []) + rest) ≡ all → all ≤ most → most < 2 ^ 64 → now + rest ≡ all
next_count true e was now rest all most is sum few fits =
    let same : min (was + 1) (2 ^ 64 - 1) ≡ was + 1 = min-eq_left (omega (arith, sum, few, fits)) in
    omega (arith, is, same, sum)
next_count false e was now rest all most is sum few fits = omega (arith, is, sum)

-- one more entry is counted
pub counts_next : (journal : List Entry) (k : ℕ) (e : Entry) (old new : List ℕ) → length journal < 2 ^ 64 → slice_get journal k ≡ Some e → length new ≡ length old
    → ((place : ℕ) → place < length old → get_or new place 0 ≡ (if e.by == place then min (get_or old place 0 + 1) (2 ^ 64 - 1) else get_or old place 0))
    → CountsSoFar journal k old → CountsSoFar journal (k + 1) new
counts_next journal k e old new fits at same each c = record {
  long = same ∙ c.long;
  each = λ place within.
      let step = own-step place journal k e at in
      let sofar = c.each place within in
      let inside : place < length old = omega (arith, within, c.long) in
      next_count (e.by == place) e (get_or old place 0) (get_or new place 0) (length (own place (drop (k + 1) journal))) (length (own place journal)) (length journal) (each place inside) (omega (arith, step, sofar)) (own_few place journal) fits;
}

-- the numbers are in their vector again
pub back_whole : (len : ℕ) (new old : List ℕ) → length new ≡ length old → length old ≡ len → take len (new ++ drop (length new) old) ≡ new
back_whole len new old same long =
    let past : drop (length new) old ≡ [] = drop_all (length new) old (omega (arith, same)) in
    ap (λ l. take len (new ++ l)) past ∙ (ap (take len) (append-nil new) ∙ take_all len new (omega (arith, same, long)))
