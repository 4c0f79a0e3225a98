-- How rows are kept: full blocks, followed by one that fills up.
use Rattle.std.specs.Prelude.{ℕ, ◌≡◌, ◌≤◌, ◌-◌, ◌^◌, min, List, [], ◌∷◌, ◌++◌, length}
use Rattle.std.specs.List.{AllByRecursion}

-- the items of the full blocks, and those of the last one
abbrev pub joined : {X : Type 0} → List (List X) → List X → List X
joined [] last = last
joined (b ∷ bs) last = b ++ joined bs last

-- each full block has 1,024 items, and the last one at most as many
pub record AreBlocks {X : Type 0} (full : List (List X)) (last : List X) : Type 0 where
  pub filled : AllByRecursion (λ b. length b ≡ 1024) full
  pub within : length last ≤ 1024

-- the items are counted too
pub record IsRows {X : Type 0} (full : List (List X)) (last : List X) (count : ℕ) : Type 0 where
  pub parts : AreBlocks full last
  pub counted : count ≡ length (joined full last)

-- how many more items there is room for, if the last block has `len` and can hold `cap`, and all have `count`
abbrev pub room_of : ℕ → ℕ → ℕ → ℕ
room_of len cap count = min (min cap 1024 - len) (2 ^ 64 - 1 - count)
