-- What a crash may leave, over several calls of a disk; for the crates above too.
use Rattle.std.proofs.Common.{inl, inr, ⊎_elim, ℕ, List, refl, arith}
use Rattle.std.proofs.lemmas.List.{take_min}
use Rattle.journal_disk.specs.Disks.{Torn, Elapses, LeavesOnly}

-- a write that did nothing
pub torn_self : (at n : ℕ) (f : List ℕ) → Torn at n f f
torn_self at n f = record { before = take_min at f; after = refl; no_shorter = omega arith; no_longer = omega arith }

module _ {D : Type 0} (moment : D → ℕ) (left_since : D → ℕ → List ℕ → Type 0) where
  -- before the first call
  pub started : (old : D) (P : List ℕ → Type 0) → ((c : List ℕ) → left_since old (moment old) c → P c) → LeavesOnly moment left_since old old P
  started old P here = record { later = omega arith; each = here; before = λ t c le left. inl left }

  -- one call more, after which a crash leaves what has P
  pub goes_on : (old mid new : D) (P may_leave : List ℕ → Type 0) → LeavesOnly moment left_since old mid P → Elapses (moment mid) (moment new) (left_since mid) (left_since new) may_leave
      → ((c : List ℕ) → may_leave c → P c) → LeavesOnly moment left_since old new P
  goes_on old mid new P may_leave so_far time here = record {
    later = omega (arith, so_far.later, time.later);
    each = λ c left. ⊎_elim (so_far.each c) (here c) (time.nothing_else (moment old) c so_far.later left);
    before = λ t c le left. ⊎_elim (so_far.before t c le) (λ now. inr (here c now)) (time.nothing_else t c (omega (arith, le, so_far.later)) left);
  }

  -- two runs, one after the other
  pub joined : (old mid new : D) (P Q R : List ℕ → Type 0) → LeavesOnly moment left_since old mid P → LeavesOnly moment left_since mid new Q
      → ((c : List ℕ) → P c → R c) → ((c : List ℕ) → Q c → R c) → LeavesOnly moment left_since old new R
  joined old mid new P Q R first second p q = record {
    later = omega (arith, first.later, second.later);
    each = λ c left. ⊎_elim (λ early. p c (first.each c early)) (q c) (second.before (moment old) c first.later left);
    before = λ t c le left. ⊎_elim (λ early. ⊎_elim inl (λ x. inr (p c x)) (first.before t c le early)) (λ x. inr (q c x)) (second.before t c (omega (arith, le, first.later)) left);
  }

  -- a weaker fact
  pub leaves_weaker : (old new : D) (P R : List ℕ → Type 0) → LeavesOnly moment left_since old new P → ((c : List ℕ) → P c → R c) → LeavesOnly moment left_since old new R
  leaves_weaker old new P R run p = record {
    later = run.later;
    each = λ c left. p c (run.each c left);
    before = λ t c le left. ⊎_elim inl (λ x. inr (p c x)) (run.before t c le left);
  }
