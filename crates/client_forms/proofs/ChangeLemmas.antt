-- The lines of points, one after another.
use Rattle.std.proofs.Common.{◌≡◌, ◌+◌, ℕ, suc, List, [], ◌∷◌, ◌++◌, drop, Option, Some, sym, ap, ◌∙◌, add-one, append_assoc}
use Rattle.std.specs.Prelude.{slice_get}
use Rattle.etp_values.proofs.ListLemmas.{drop_item}
use Rattle.capture_text.specs.Points.{point_line}
use Rattle.etp_values.specs.declared.point.Point.{Point}
use Rattle.client_forms.specs.Texts.{marked}

-- one more line is there, and the others are still to come
pub marked_next : (word before now whole : List ℕ) (ps : List Point) (k : ℕ) (p : Point) → slice_get ps k ≡ Some p → now ≡ before ++ (word ++ point_line p) → before ++ marked word (drop k ps) ≡ whole → now ++ marked word (drop (k + 1) ps) ≡ whole
marked_next word before now whole ps k p at is so_far =
    ap (λ l. l ++ marked word (drop (k + 1) ps)) is
    ∙ append_assoc before (word ++ point_line p) (marked word (drop (k + 1) ps))
    ∙ ap (λ n. before ++ ((word ++ point_line p) ++ marked word (drop n ps))) (add-one k)
    ∙ ap (λ (qs : List Point). before ++ marked word qs) (sym (drop_item ps k p at))
    ∙ so_far
