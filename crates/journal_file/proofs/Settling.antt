-- A write that is brought to the disk, at each moment.
use Rattle.std.proofs.Common.{ℕ, List, sym, subst}
use Rattle.journal_disk.specs.Disks.{Torn, Only, Follows, Elapses, LeavesOnly}
use Rattle.journal_disk.proofs.DiskLemmas.{torn_self, started, goes_on}

module _ {D : Type 0} (moment : D → ℕ) (left_since : D → ℕ → List ℕ → Type 0) (may_leave : D → List ℕ → Type 0)
    (only_now : (file : D) (c : List ℕ) → left_since file (moment file) c → may_leave file c)
    (at n : ℕ) (f : List ℕ) (old mid : D) (only : Only f (may_leave old)) (follows : Follows (Torn at n) (may_leave old) (may_leave mid)) where
  now_torn : (c : List ℕ) → may_leave mid c → Torn at n f c
  now_torn c left =
      let from = follows c left in
      subst (λ (d : List ℕ). Torn at n d c) (only from.0 from.1) from.2

  at_start : LeavesOnly moment left_since old old (Torn at n f)
  at_start = started moment left_since old (Torn at n f) (λ c left. subst (λ (d : List ℕ). Torn at n f d) (sym (only c (only_now old c left))) (torn_self at n f))

  -- after the write
  pub wrote : Elapses (moment old) (moment mid) (left_since old) (left_since mid) (may_leave mid) → LeavesOnly moment left_since old mid (Torn at n f)
  wrote time = goes_on moment left_since old old mid (Torn at n f) (may_leave mid) at_start time now_torn

  -- after the sync, done or failed
  pub synced : (new : D) → Elapses (moment old) (moment mid) (left_since old) (left_since mid) (may_leave mid) → Elapses (moment mid) (moment new) (left_since mid) (left_since new) (may_leave new)
      → ((c : List ℕ) → may_leave new c → may_leave mid c) → LeavesOnly moment left_since old new (Torn at n f)
  synced new time later kept = goes_on moment left_since old mid new (Torn at n f) (may_leave new) (wrote time) later (λ c left. now_torn c (kept c left))
