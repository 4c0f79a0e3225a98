-- The moments that a clock returns.
use Rattle.std.specs.Prelude.{◌≡◌, ℤ, Bool, true, List, [], None, Some}
use Rattle.std.specs.declared.option.Option.{Option}

-- another clock of the same kind has returned nothing yet, and reveals its moments if the first one does
abbrev pub BeginsAnew : Option (List ℤ) → Option (List ℤ) → Type 0
BeginsAnew None new = new ≡ None
BeginsAnew (Some moments) new = new ≡ Some []

-- the moments that were returned pass the test; if none are revealed, every list passes it
abbrev pub Tests : Option (List ℤ) → (List ℤ → Bool) → Type 0
Tests None passes = (moments : List ℤ) → passes moments ≡ true
Tests (Some moments) passes = passes moments ≡ true
