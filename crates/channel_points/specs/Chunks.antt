-- How the points of a channel are kept: in chunks of 1 to 1,024, of which the last one is open.
use Rattle.std.specs.Prelude.{ℕ, ◌≡◌, ◌<◌, ◌≤◌, ◌+◌, Bool, true, false, ℤ, not, int_lt, Option, Some, None, List, [], ◌∷◌, ◌++◌, length}
use Rattle.std.specs.List.{AllByRecursion}
use Rattle.etp_values.specs.declared.point.Point.{Point}

-- the points of a channel, and those that are about to be added after them
pub record Held : Type 0 where
  pub points : List Point
  pub added : List Point

-- these points, with nothing about to be added
abbrev pub settled : List Point → Held
settled points = record { points = points; added = [] }

-- one more point is about to be added
abbrev pub with_added : Point → Held → Held
with_added p h = record h { added = h.added ++ p ∷ [] }

-- what was about to be added is
abbrev pub all_added : Held → Held
all_added h = settled (h.points ++ h.added)

-- nothing is about to be added any more
abbrev pub none_added : Held → Held
none_added h = settled h.points

-- a chunk has from 1 to 1,024 points
pub record IsChunk (c : List Point) : Type 0 where
  pub some : 0 < length c
  pub few : length c ≤ 1024

-- so has each of these, and any two neighbours have more than 1,024 together
abbrev pub AreChunks : List (List Point) → Type 0
AreChunks [] = Unit {0}
AreChunks (c ∷ []) = IsChunk c
AreChunks (c ∷ d ∷ ds) = IsChunk c × (1024 < length c + length d) × AreChunks (d ∷ ds)

-- how many points the last chunk has; without chunks, as many as a chunk may have
abbrev pub last_size : List (List Point) → ℕ
last_size [] = 1024
last_size (c ∷ []) = length c
last_size (c ∷ d ∷ ds) = last_size (d ∷ ds)

-- chunks with the open one after them, if it has points
abbrev pub with_tail : List (List Point) → List Point → List (List Point)
with_tail sealed [] = sealed
with_tail sealed (x ∷ xs) = sealed ++ (x ∷ xs) ∷ []

-- chunks, and the open one after them, which is empty only if there are no points
pub record Stands (sealed : List (List Point)) (tail : List Point) : Type 0 where
  pub chunks : AreChunks sealed
  pub few : length tail ≤ 1024
  pub follows : 0 < length tail → 1024 < last_size sealed + length tail
  pub empty : length tail ≡ 0 → sealed ≡ []

-- full chunks that are about to be added, and the points after them
pub record IsFresh (fresh : List (List Point)) (more : List Point) : Type 0 where
  pub full : AllByRecursion (λ c. length c ≡ 1024) fresh
  pub few : length more ≤ 1024
  pub empty : length more ≡ 0 → fresh ≡ []

-- where `fresh` full chunks and `more` points after them are about to be added, there is room for them: in the open chunk if they are few,
-- and for as many more chunks
pub record HasRoom (sealed_len sealed_cap tail_len tail_cap fresh more : ℕ) : Type 0 where
  pub slots : sealed_len + 1 + fresh ≤ sealed_cap
  pub space : fresh ≡ 0 → tail_len + more ≤ 1024 → tail_len + more ≤ tail_cap

-- an index is below another, or at it if `ends` says so
abbrev pub lies_before : Bool → ℤ → ℤ → Bool
lies_before true end index = not (int_lt end index)
lies_before false end index = int_lt index end

-- a list with this last index, if it has points, ends before another index, or at it if `ends` says so
abbrev pub ends_before : Bool → ℤ → Option ℤ → Bool
ends_before ends end None = false
ends_before ends end (Some last) = lies_before ends end last

-- the points are counted, and those that are about to be added too
pub record AreCounted (h : Held) (count added : ℕ) : Type 0 where
  pub shown : count ≡ length h.points
  pub coming : added ≡ length h.added
  pub bounded : count + added ≤ 18446744073709551615
