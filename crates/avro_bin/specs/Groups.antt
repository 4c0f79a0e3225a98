-- The groups of a number that follow others.
use Rattle.std.specs.Prelude.{ℕ, ◌+◌, ◌*◌, List, Result, Ok, Err}
use Rattle.avro_bin.specs.declared.fault.Why.{Why}

-- what groups give after others that make low: their number times the weight is added
abbrev pub raised : ℕ → ℕ → Result (ℕ × List ℕ) Why → Result (ℕ × List ℕ) Why
raised low weight (Ok x) = Ok (low + weight * x.0, x.1)
raised low weight (Err w) = Err w
