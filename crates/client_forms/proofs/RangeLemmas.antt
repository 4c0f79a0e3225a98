-- The lines of a range are loaded as its points.
use Rattle.std.proofs.Common.{◌≡◌, ◌≤◌, ◌+◌, ℕ, List, [], ◌∷◌, length, nat_lt, Option, None, Some, if◌then◌else◌, refl, ap, ◌∙◌}
use Rattle.std.proofs.lemmas.Bool.{le-ltb}
use Rattle.etp_outside.specs.declared.status.Status.TheVariants as status
use Rattle.etp_values.specs.declared.point.Point.{Point}
use Rattle.point_lines.specs.Points.{point_in}
use Rattle.point_lines.specs.Spelling.{Denote}
use Rattle.client_forms.specs.Loading.{Read, read_lines, with_line}

abbrev all_read : List Point → Read
all_read ps = record { points = ps; refused = None }

pub lines_loaded : (kind n : ℕ) (ls : List (List ℕ)) (ps : List Point) → Denote kind ls ps → read_lines kind n ls ≡ all_read ps
lines_loaded kind n [] [] d = refl
lines_loaded kind n [] (p ∷ ps) d = absurd d
lines_loaded kind n (l ∷ ls) [] d = absurd d
lines_loaded kind n (l ∷ ls) (p ∷ ps) d =
    ap (λ b. if b then record { points = []; refused = Some status.Limit } else with_line n (point_in kind l) (read_lines kind (n + 1) ls)) (le-ltb 65536 (length l) d.0)
    ∙ ap (λ o. with_line n o (read_lines kind (n + 1) ls)) d.1
    ∙ ap (with_line n (Some p)) (lines_loaded kind (n + 1) ls ps d.2)
