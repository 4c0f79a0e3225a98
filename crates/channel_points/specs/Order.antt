-- Points in the order of their indexes.
use Rattle.std.specs.Prelude.{ℤ, ◌≡◌, true, int_lt, List, [], ◌∷◌, Option, Some, None}
use Rattle.etp_values.specs.declared.point.Point.{Point}
use Rattle.channel_points.specs.Splits.{RisesBy}

-- each index is below those after it
abbrev pub Rises : List Point → Type 0
Rises xs = RisesBy (λ x y. int_lt x.index y.index ≡ true) xs

-- the index of the first point
abbrev pub first_of : List Point → Option ℤ
first_of [] = None
first_of (x ∷ xs) = Some x.index

-- the index of the last point
abbrev pub last_of : List Point → Option ℤ
last_of [] = None
last_of (x ∷ []) = Some x.index
last_of (x ∷ y ∷ ys) = last_of (y ∷ ys)
