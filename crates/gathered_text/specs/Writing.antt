-- A text that is written in parts.
use Rattle.std.specs.Prelude.{◌≡◌, ℕ, List, ◌++◌, Option}
use Rattle.std.specs.Io.KnownBytes.{Appends}
use Rattle.gathered_text.specs.declared.writing.Wrote.{Wrote}
use Rattle.gathered_text.specs.declared.writing.Wrote.TheVariants.{Whole, WriteFault, NoMemory}

-- a prefix of the text was written, which may be all of it
abbrev pub AppendsSome : List ℕ → Option (List ℕ) → Option (List ℕ) → Type 0
AppendsSome text old new = (front : List ℕ) × (rest : List ℕ) × (text ≡ front ++ rest) × Appends old new front

-- the text is what was written, what is gathered, and this rest
pub record Going (text gathered rest : List ℕ) (old new : Option (List ℕ)) : Type 0 where
  pub sent : List ℕ
  pub written : Appends old new sent
  pub whole : text ≡ sent ++ (gathered ++ rest)

-- what came of a part, after which this is gathered and the rest is left
abbrev pub GoesOn : Wrote → List ℕ → List ℕ → List ℕ → Option (List ℕ) → Option (List ℕ) → Type 0
GoesOn Whole text gathered rest old new = Going text gathered rest old new
GoesOn WriteFault text gathered rest old new = AppendsSome text old new
GoesOn NoMemory text gathered rest old new = AppendsSome text old new

-- what came of a text
abbrev pub Writes : Wrote → List ℕ → Option (List ℕ) → Option (List ℕ) → Type 0
Writes Whole text old new = Appends old new text
Writes WriteFault text old new = AppendsSome text old new
Writes NoMemory text old new = AppendsSome text old new
