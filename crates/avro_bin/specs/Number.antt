-- Whole numbers: zigzag, in groups of seven bits, the lowest group first.
use Rattle.std.specs.Prelude.{◌≡◌, ℕ, zero, suc, ◌+◌, ◌*◌, ◌/◌, ◌%◌, ◌<◌, ◌≤◌, ℤ, pos, negsuc, List, [], ◌∷◌, length, ◌++◌, slice_index, nat_lt, ◌==◌, if◌then◌else◌}
use Rattle.avro_bin.specs.declared.fault.Why.{Why}
use Rattle.avro_bin.specs.declared.fault.Why.TheVariants as why

-- each byte but the last has its high bit set, and the last has not
abbrev pub IsGroups : List ℕ → Type 0
IsGroups [] = ⊥
IsGroups (b ∷ []) = b < 128
IsGroups (b ∷ c ∷ bs) = (128 ≤ b) × (b < 256) × IsGroups (c ∷ bs)

-- the low seven bits of each byte, the lowest first
abbrev pub group_sum : List ℕ → ℕ
group_sum [] = 0
group_sum (b ∷ bs) = b % 128 + 128 * group_sum bs

-- 0, 1, 2, 3 denote 0, -1, 1, -2
abbrev pub signed : ℕ → ℤ
signed z = if z % 2 == 0 then pos (z / 2) else negsuc (z / 2)

-- the inverse
abbrev pub unsigned : ℤ → ℕ
unsigned (pos n) = 2 * n
unsigned (negsuc n) = 2 * n + 1

-- the bytes spell the number: up to ten of them, and a tenth is at most 1
pub record Number (x : ℤ) (bytes : List ℕ) : Type 0 where
  pub groups : IsGroups bytes
  pub short : length bytes ≤ 10
  pub tenth : slice_index bytes 9 ≤ 1
  pub value : x ≡ signed (group_sum bytes)

-- one more than what k groups can make
abbrev pub top : ℕ → ℕ
top zero = 1
top (suc zero) = 2
top (suc (suc k)) = 128 * top (suc k)

-- the shortest bytes of a number, at most k + 1 of them
abbrev pub shortest : ℕ → ℕ → List ℕ
shortest zero z = z ∷ []
shortest (suc k) z = if nat_lt z 128 then z ∷ [] else (z % 128 + 128) ∷ shortest k (z / 128)

-- the one spelling that is written
unfoldable pub plain_number : ℤ → List ℕ
plain_number x = shortest 9 (unsigned x)

-- each byte has the high bit
abbrev pub AreHigh : List ℕ → Type 0
AreHigh [] = Unit {0}
AreHigh (b ∷ bs) = (128 ≤ b) × AreHigh bs

-- the bytes end inside a number of at most k bytes
pub record EndsInside (k : ℕ) (bytes : List ℕ) : Type 0 where
  pub high : AreHigh bytes
  pub few : length bytes < k

-- k - 1 bytes don't end a number, and the k-th is above 1
pub record RunsOn (k : ℕ) (bytes : List ℕ) : Type 0 where
  pub text : List ℕ
  pub byte : ℕ
  pub rest : List ℕ
  pub parts : bytes ≡ text ++ byte ∷ rest
  pub high : AreHigh text
  pub count : suc (length text) ≡ k
  pub big : 1 < byte

-- why there is no number of at most k bytes at the front
abbrev pub NumberFails : ℕ → List ℕ → Why → Type 0
NumberFails k bytes why.Short = EndsInside k bytes
NumberFails k bytes why.Number = RunsOn k bytes
NumberFails k bytes _ = ⊥
