-- What reading one more item changes.
use Rattle.std.specs.Prelude.{◌≡◌, ℕ, ◌+◌, ◌++◌, false, List, [], ◌∷◌}
use Rattle.std.specs.Ordering.{nat_cmp}
use Rattle.std.specs.Cmp.Lexicographic.{slice_cmp}
use Rattle.std.specs.BTreeMap.{insert_entry}
use Rattle.avro_bin.specs.Value.{Value, nodes}
use Rattle.avro_bin.specs.Reading.{Row, Names, has}

-- one more value
abbrev pub Push : Row → Value → Row → Type 0
Push s v t = (t.0 ≡ s.0 ++ v ∷ []) × (s.1 ≡ nodes v + t.1)

-- one more entry, whose name had not occurred
abbrev pub Put : Names → List ℕ × Value → Names → Type 0
Put s e t = (has e.0 s.0 ≡ false) × (t.0 ≡ insert_entry (slice_cmp nat_cmp) s.0 e.0 e.1) × (s.1 ≡ nodes e.1 + t.1)

-- step by step
abbrev pub Steps : {S A : Type 0} → (S → A → S → Type 0) → S → List A → S → Type 0
Steps Step s [] t = s ≡ t
Steps {S} Step s (x ∷ xs) t = (m : S) × Step s x m × Steps Step m xs t
