-- A file while a piece is brought behind a gate, and the gate is opened.
use Rattle.std.specs.Prelude.{◌≡◌, ◌⊎◌, ◌++◌, ◌∷◌, ℕ, List, Some}
use Rattle.std.specs.declared.option.Option.{Option}
use Rattle.journal_disk.specs.Disks.{Only}

-- a read gives this, and so does a crash
pub record IsKept {D : Type 0} (seen : D → Option (List ℕ)) (may_leave : D → List ℕ → Type 0) (disk : D) (f : List ℕ) : Type 0 where
  pub told : seen disk ≡ Some f
  pub durable : Only f (may_leave disk)

-- a read gives something that has P
abbrev pub Leaves : {D : Type 0} → (D → Option (List ℕ)) → D → (List ℕ → Type 0) → Type 0
Leaves seen disk P = (f : List ℕ) × (seen disk ≡ Some f) × P f

-- behind the gate stands what may, or the gate may be anything and the piece stands behind it
abbrev pub IsShutOrOpen : List ℕ → ℕ → List ℕ → List ℕ → Type 0
IsShutOrOpen front gate piece f = ((junk : List ℕ) × (f ≡ front ++ gate ∷ junk)) ⊎ ((other : ℕ) × (junk : List ℕ) × (f ≡ front ++ other ∷ (piece ++ junk)))
