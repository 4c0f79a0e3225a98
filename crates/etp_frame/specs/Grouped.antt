-- Groups under construction.
use Rattle.std.specs.Prelude.{◌≡◌, ◌++◌, min, List, ℕ}
use Rattle.etp_schema.specs.Measure.{most}
use Rattle.etp_schema.specs.declared.measure.Measure.{Measure}
use Rattle.etp_frame.specs.Grouping.{Amount, groups_from}

-- the measure of something this large: its numbers stop at the greatest 64-bit number
abbrev pub capped : Amount → Measure
capped a = record { bytes = min a.bytes most; nodes = min a.nodes most }

abbrev pub amount : Measure → Amount
amount m = record { bytes = m.bytes; nodes = m.nodes }

-- the groups that result when those that are closed and the one that is open continue with further items
abbrev pub leads : {A : Type 0} → (A → Amount) → ℕ → List (List A) → List A → List A → List (List A)
leads size limit closed held xs = closed ++ groups_from size limit held xs

-- groups under construction are these
abbrev pub AreMade : {A : Type 0} → List (List A) → List A → Measure → List (List A) → List A → Measure → Type 0
AreMade closed held measure closed_is held_is measure_is = (closed ≡ closed_is) × (held ≡ held_is) × (measure ≡ measure_is)
