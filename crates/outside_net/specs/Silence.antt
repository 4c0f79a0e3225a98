-- A peer's silence.
use Rattle.std.specs.Prelude.{ℕ, ◌+◌, ◌-◌, ◌^◌, ◌==◌, min, if◌then◌else◌}
use Rattle.outside_net.specs.declared.silence.Silence.{Silence}

-- how long it has lasted after one more wait: not at all if a byte came
abbrev pub lasts : Silence → ℕ → ℕ → ℕ
lasts s heard wait = if heard == s.heard then min (s.lasted + wait) (2 ^ 64 - 1) else 0
