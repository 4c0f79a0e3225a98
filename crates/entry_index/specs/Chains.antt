-- Chains of places by their numbers.
use Rattle.std.specs.Prelude.{ℕ, zero, suc, nat_le, Bool, false, List, [], Option, Some, None, get_or}
use Rattle.std.specs.List.{last_or}

-- what a contract sees of chains: the chains in order, and how many more fit without allocating
pub record AllChains : Type 0 where
  pub chains : List (List ℕ)
  pub spare : ℕ

-- the chain of a number; they are numbered from 1, and 0 is the empty one
abbrev pub chain : List (List ℕ) → ℕ → List ℕ
chain chains zero = []
chain chains (suc n) = get_or chains n []

-- the last of a list
abbrev pub last_of : List ℕ → Option ℕ
last_of xs = last_or None xs

-- a last place is at or past this one
abbrev pub is_reached : ℕ → Option ℕ → Bool
is_reached from None = false
is_reached from (Some last) = nat_le from last
