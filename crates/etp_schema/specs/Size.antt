-- Sizes that are counted up to 2^40.
use Rattle.std.specs.Prelude.{ℕ, ◌^◌, ◌-◌, nat_lt, if◌then◌else◌}

-- a length, or the greatest 64-bit number if it is above 2^40
abbrev pub capped : ℕ → ℕ
capped len = if nat_lt (2 ^ 40) len then 2 ^ 64 - 1 else len
