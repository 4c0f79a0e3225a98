-- Points that are rotated, one by one.
use Rattle.std.specs.Prelude.{List, [], ◌∷◌, ◌++◌, if◌then◌else◌}
use Rattle.etp_values.specs.declared.point.Point.{Point}
use Rattle.channel_store.specs.declared.change.What.{What}
use Rattle.watch_views.specs.Held.{stays}

-- the first point goes after the last one, if the change leaves it
abbrev pub turned : What → List Point → List Point
turned w [] = []
turned w (x ∷ xs) = if stays w x.index then xs ++ x ∷ [] else xs
