-- A disk that reveals nothing.
use Rattle.std.specs.Prelude.{ℕ, List, ⊤}

-- what a crash may leave where nobody says
abbrev pub anything : List ℕ → Type 0
anything c = ⊤
