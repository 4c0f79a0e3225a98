-- Where the points of a replacement go in a copy.
use Rattle.std.specs.Prelude.{ℕ, ℤ, ◌≡◌, List, ◌++◌, take, drop}
use Rattle.etp_values.specs.declared.point.Point.{Point}
use Rattle.channel_store.specs.Points.{put_below}

-- what is put below `to` goes after the first `count` points
abbrev pub IsFront : ℤ → ℕ → List Point → Type 0
IsFront to count xs = (more : List Point) → put_below to more xs ≡ take count xs ++ (more ++ drop count xs)
