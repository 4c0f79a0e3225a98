-- The frames in an input.
use Rattle.std.specs.Prelude.{◌≡◌, ℕ, ◌+◌, false, nat_eq, List, [], ◌∷◌, ◌++◌, length}
use Rattle.std.specs.List.{starts_with}
use Rattle.etp_capture.specs.Frames.{magic}
use Rattle.etp_capture.specs.Found.{found, Whole}
use Rattle.etp_capture.specs.declared.frame.Frame.{Frame}

-- these frames follow each other from an offset on, and the rest follows
abbrev pub Front : ℕ → List ℕ → List Frame → List ℕ → Type 0
Front at bytes [] rest = bytes ≡ rest
Front at bytes (f ∷ fs) rest = (mid : List ℕ) × (found at bytes ≡ Whole f mid) × Front (at + (17 + length f.bytes)) mid fs rest

-- the same after the magic
abbrev pub IsRead : List ℕ → List Frame → List ℕ → Type 0
IsRead xs frames rest = (behind : List ℕ) × (xs ≡ magic ++ behind) × Front 8 behind frames rest

-- what is not a capture: it does not begin with the magic
abbrev pub HasNoMagic : List ℕ → Type 0
HasNoMagic xs = starts_with nat_eq xs magic ≡ false
