-- Numbers that never fall.
use Rattle.std.specs.Prelude.{ℕ, List, [], ◌∷◌, ◌≤◌}

-- from low on the list never falls, and high is not below it
abbrev pub Rises : ℕ → List ℕ → ℕ → Type 0
Rises low [] high = low ≤ high
Rises low (n ∷ ns) high = (low ≤ n) × Rises n ns high
