-- Results of calls that may also run out of memory.
use Rattle.std.specs.Prelude.{◌≡◌, ◌≢◌, Result, Ok, Err, MatchResult}

-- a call answers what is expected of it, or `memory` if memory ran out
abbrev pub Gives : {A E : Type 0} → E → Result A E → Result A E → Type 0
Gives memory result expected = MatchResult result (λ x. expected ≡ Ok x) (λ e. e ≢ memory → expected ≡ Err e)
