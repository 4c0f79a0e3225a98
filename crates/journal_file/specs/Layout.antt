-- How a journal's file is laid out, and what it opens to. An entry is its spelling.
use Rattle.std.specs.Prelude.{◌≡◌, ◌≢◌, ◌⊎◌, ◌+◌, ◌<◌, ◌≤◌, ◌^◌, ◌==◌, ◌++◌, ◌∷◌, [], ℕ, List, length, take, drop, codes, nat_le, if◌then◌else◌}
use Rattle.std.specs.Int.{w64, to_be_bytes, from_be_bytes}
use Rattle.std.specs.List.{AllByRecursion}

-- what stands before the first gate
abbrev pub head : List ℕ → List ℕ
head id = codes "ETPJRN01" ++ id

-- an open gate, the length of a spelling, and the spelling
abbrev pub block : List ℕ → List ℕ
block s = 1 ∷ (to_be_bytes w64 (length s) ++ s)

abbrev pub blocks : List (List ℕ) → List ℕ
blocks [] = []
blocks (s ∷ ss) = block s ++ blocks ss

-- what stands at a gate: a spelling and what follows it, the end, or what nobody wrote
pub data AtGate : Type 0 where
  Whole : (spelling : List ℕ) → (rest : List ℕ) → AtGate
  NoMore : AtGate
  Bad : AtGate

-- the length that is told behind an open gate
abbrev pub length_in : List ℕ → ℕ
length_in rest = from_be_bytes w64 (take 8 rest)

-- behind an open gate: a spelling of the length that is told, and at least one byte after it
abbrev pub record_at : List ℕ → AtGate
record_at rest = if nat_le (length rest) (8 + length_in rest) then Bad else Whole (take (length_in rest) (drop 8 rest)) (drop (8 + length_in rest) rest)

abbrev pub at_gate : List ℕ → AtGate
at_gate [] = Bad
at_gate (gate ∷ rest) = if gate == 1 then record_at rest else NoMore

-- these spellings stand from here on, and then a gate that is not 1
abbrev pub Stand : List ℕ → List (List ℕ) → Type 0
Stand bytes [] = at_gate bytes ≡ NoMore
Stand bytes (s ∷ ss) = (rest : List ℕ) × (at_gate bytes ≡ Whole s rest) × Stand rest ss

-- the file of this instance opens to these spellings
abbrev pub OpensTo : List ℕ → List (List ℕ) → List ℕ → Type 0
OpensTo id ss f = (rest : List ℕ) × (f ≡ head id ++ rest) × Stand rest ss

-- it opens to the spellings from before, with those that are appended or without them
abbrev pub IsBeforeOrAfter : List ℕ → List (List ℕ) → List (List ℕ) → List ℕ → Type 0
IsBeforeOrAfter id ss more f = OpensTo id ss f ⊎ OpensTo id (ss ++ more) f

-- spellings whose lengths can be told
abbrev pub AreShort : List (List ℕ) → Type 0
AreShort ss = AllByRecursion (λ s. length s < 2 ^ 64) ss

-- what an instance's file with these spellings is: their blocks, a gate that is not 1, and any bytes
pub record IsFile (id : List ℕ) (ss : List (List ℕ)) (f : List ℕ) : Type 0 where
  pub gate : ℕ
  pub junk : List ℕ
  pub shut : gate ≢ 1
  pub bytes : f ≡ (head id ++ blocks ss) ++ gate ∷ junk
  pub short : AreShort ss

-- what the making of a file leaves that is cut short: no more bytes than a file without an entry has
abbrev pub IsShort : List ℕ → Type 0
IsShort f = length f ≤ 25
