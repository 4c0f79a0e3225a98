-- How chains are kept: each as its last place, the number of the chain that it extends, and a jump from there.
use Rattle.std.specs.Prelude.{ℕ, ◌≡◌, ◌≤◌, List, [], ◌∷◌, ◌++◌, Some, fold, slice_get}
use Rattle.std.specs.List.{AllByRecursion}
use mathlib.Core.List.{IsPrefix}
use Rattle.entry_index.specs.declared.chains.Step.{Step}
use Rattle.entry_index.specs.Chains.{chain}

-- the chains with that of one more step
abbrev pub with_step : List (List ℕ) → Step → List (List ℕ)
with_step chains s = chains ++ (chain chains s.before ++ s.place ∷ []) ∷ []

-- the chains of steps in order
abbrev pub chains_of : List Step → List (List ℕ)
chains_of steps = fold with_step [] steps

-- the chain of the first number is a prefix of that of the second, which is no smaller
abbrev pub Begins : List Step → ℕ → ℕ → Type 0
Begins steps to number = (to ≤ number) × IsPrefix (chain (chains_of steps) to) (chain (chains_of steps) number)

-- each extends an earlier chain, none of whose places is past its own, and jumps to one that is a prefix of it
pub record IsChained (steps : List Step) : Type 0 where
  pub goes_on : (n : ℕ) (s : Step) → slice_get steps n ≡ Some s → (s.before ≤ n) × AllByRecursion (λ p. p ≤ s.place) (chain (chains_of steps) s.before)
  pub jumps : (n : ℕ) (s : Step) → slice_get steps n ≡ Some s → Begins steps s.jump.to s.before
