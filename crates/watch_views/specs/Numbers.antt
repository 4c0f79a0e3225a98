-- The numbers of counts.
use Rattle.std.specs.Prelude.{ℕ, List, [], ◌∷◌}
use Rattle.watch_views.specs.declared.counts.Counts.{Counts}

-- how many appends, appended points, replacements and truncations were counted
abbrev pub numbers_of : Counts → List ℕ
numbers_of c = c.appends ∷ c.points ∷ c.replaces ∷ c.truncates ∷ []
