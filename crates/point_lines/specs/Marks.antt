-- Finding marks among bytes.
use Rattle.std.specs.Prelude.{◌≡◌, ◌<◌, ℕ, suc, List, take, drop, length, Option, None, Some}
use Rattle.etp_values.specs.Uri.{parted}

-- the first mark is at this offset, or there is none
abbrev pub IsPlace : ℕ → List ℕ → Option ℕ → Type 0
IsPlace mark bytes None = parted mark bytes ≡ None
IsPlace mark bytes (Some i) = (i < length bytes) × (parted mark bytes ≡ Some (take i bytes, drop (suc i) bytes))
