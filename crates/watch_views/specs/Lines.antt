-- The lines of views.
use Rattle.std.specs.Prelude.{ℕ, List, [], ◌∷◌, ◌++◌, codes, length}
use Rattle.std.specs.Fmt.{decimal}
use Rattle.std.specs.List.{flat_map}
use Rattle.etp_values.specs.declared.point.Point.{Point}
use Rattle.capture_text.specs.Points.{point_line}
use Rattle.watch_views.specs.Held.{Held}

-- the point, or that there is none
abbrev pub latest_line : List Point → List ℕ
latest_line [] = codes "latest none\n"
latest_line (x ∷ xs) = codes "latest " ++ point_line x

-- how many points there are, and a line for each, the oldest first
abbrev pub window_lines : List Point → List ℕ
window_lines xs = codes "window " ++ decimal (length xs) ++ codes "\n" ++ flat_map point_line xs

-- a number after a space
abbrev pub spaced : ℕ → List ℕ
spaced n = codes " " ++ decimal n

-- the numbers
abbrev pub counts_line : List ℕ → List ℕ
counts_line ns = codes "counts" ++ flat_map spaced ns ++ codes "\n"

abbrev pub latest_of : Held → List ℕ
latest_of h = latest_line h.points

abbrev pub window_of : Held → List ℕ
window_of h = window_lines h.points

abbrev pub counts_of : Held → List ℕ
counts_of h = counts_line h.numbers
