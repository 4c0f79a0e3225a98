-- A part of a list from a place on.
use Rattle.std.specs.Prelude.{ℕ, ◌≡◌, ◌<◌, List, length, take, drop}

-- some items after the first `place`, in order: at least one, if there are any
pub record IsFront {X : Type 0} (whole : List X) (place : ℕ) (items : List X) : Type 0 where
  pub some : place < length whole → 0 < length items
  pub same : items ≡ take (length items) (drop place whole)
