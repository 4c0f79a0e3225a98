-- A piece that is brought behind a gate, and the gate that is opened then.
use Rattle.std.proofs.Common.{◌≡◌, inl, inr, ◌+◌, ℕ, List, [], ◌∷◌, ◌++◌, length, drop, ◌∙◌, subst, Some}
use Rattle.std.specs.Prelude.{IfSome}
use Rattle.std.specs.declared.option.Option.{Option}
use Rattle.etp_outside.specs.Told.{Told}
use Rattle.journal_disk.specs.Disks.{Torn, Holds, Only, LeavesOnly}
use Rattle.journal_disk.proofs.DiskLemmas.{joined, leaves_weaker}
use Rattle.journal_file.specs.Gates.{IsKept, IsShutOrOpen}
use Rattle.journal_file.proofs.Pieces.{told_on, torn_behind, held_behind, torn_gate, held_gate}

module _ {D : Type 0} (seen : D → Option (List ℕ)) (may_leave : D → List ℕ → Type 0) where
  -- a write that was done, and then a sync
  pub settled : (at : ℕ) (piece f : List ℕ) (old mid new : D) → seen old ≡ Some f → Told (seen old) (seen mid) (Holds at piece) → seen new ≡ seen mid
      → IfSome (seen mid) (λ g. Only g (may_leave new)) → (h : List ℕ) × Holds at piece f h × IsKept seen may_leave new h
  settled at piece f old mid new is told same durable =
      let got = told_on (seen old) (seen mid) f (Holds at piece) is told in
      (got.0, got.2, record { told = same ∙ got.1; durable = subst (λ (o : Option (List ℕ)). IfSome o (λ g. Only g (may_leave new))) got.1 durable })

  module _ (front : List ℕ) (gate : ℕ) (junk piece : List ℕ) (at : ℕ) (here : length front ≡ at) (old mid new : D) where
    -- with the piece behind the gate
    abbrev staged : List ℕ
    staged = front ++ gate ∷ (piece ++ drop (length piece) junk)

    pub behind_kept : seen old ≡ Some (front ++ gate ∷ junk) → ((f : List ℕ) → seen old ≡ Some f → (h : List ℕ) × Holds (at + 1) piece f h × IsKept seen may_leave mid h)
        → IsKept seen may_leave mid staged
    behind_kept is first =
        let got = first (front ++ gate ∷ junk) is in
        subst (λ (h : List ℕ). IsKept seen may_leave mid h) (held_behind front gate at here junk got.0 piece got.1) got.2

    pub gate_kept : IsKept seen may_leave mid staged → ((f : List ℕ) → seen mid ≡ Some f → (h : List ℕ) × Holds at (1 ∷ []) f h × IsKept seen may_leave new h)
        → IsKept seen may_leave new (front ++ 1 ∷ (piece ++ drop (length piece) junk))
    gate_kept kept second =
        let got = second staged kept.told in
        subst (λ (h : List ℕ). IsKept seen may_leave new h) (held_gate front gate at here (piece ++ drop (length piece) junk) got.0 got.1) got.2

    module _ (moment : D → ℕ) (left_since : D → ℕ → List ℕ → Type 0) (first : LeavesOnly moment left_since old mid (Torn (at + 1) (length piece) (front ++ gate ∷ junk))) where
      torn_first : (c : List ℕ) → Torn (at + 1) (length piece) (front ++ gate ∷ junk) c → IsShutOrOpen front gate piece c
      torn_first c torn = inl (torn_behind front gate at here junk c (length piece) torn)

      pub behind_moment : LeavesOnly moment left_since old mid (IsShutOrOpen front gate piece)
      behind_moment = leaves_weaker moment left_since old mid (Torn (at + 1) (length piece) (front ++ gate ∷ junk)) (IsShutOrOpen front gate piece) first torn_first

      pub gate_moment : LeavesOnly moment left_since mid new (Torn at 1 staged) → LeavesOnly moment left_since old new (IsShutOrOpen front gate piece)
      gate_moment second =
          joined moment left_since old mid new (Torn (at + 1) (length piece) (front ++ gate ∷ junk)) (Torn at 1 staged) (IsShutOrOpen front gate piece) first second torn_first
          (λ c torn. let got = torn_gate front gate at here (piece ++ drop (length piece) junk) c torn in inr (got.0, drop (length piece) junk, got.1))
