-- The paths of dataspaces continue by one text.
use Rattle.std.specs.Prelude.{ℕ, List, [], ◌∷◌, ◌++◌, ◌≡◌, refl}
use Rattle.std.proofs.Common.{ap, sym, ◌∙◌, append_assoc}
use Rattle.keyed_requests.specs.declared.keys.Decision.{Decision}
use Rattle.keyed_requests.specs.declared.keys.Decision.TheVariants.{Granted, Refused}
use Rattle.session_rows.specs.Spaces.{space_path}
use Rattle.session_rows.specs.Transactions.{path_first, paths_after, space_paths}

-- paths after these
abbrev pub paths_behind : List (List ℕ) → Decision (List (List ℕ)) → Decision (List (List ℕ))
paths_behind ps (Refused code) = Refused code
paths_behind ps (Granted qs) = Granted (ps ++ qs)

behind_first : (out : List (List ℕ)) (p : List ℕ) (d : Decision (List (List ℕ))) → paths_behind (out ++ p ∷ []) d ≡ paths_behind out (path_first p d)
behind_first out p (Refused code) = refl
behind_first out p (Granted qs) = ap Granted (append_assoc out (p ∷ []) qs)

-- a text that names a dataspace
pub paths_more : (x : List ℕ) (items rest : List (List ℕ)) (out out' : List (List ℕ)) (p : List ℕ) (all : Decision (List (List ℕ)))
    → items ≡ x ∷ rest → space_path x ≡ Granted p → out' ≡ out ++ p ∷ [] → paths_behind out (space_paths items) ≡ all → paths_behind out' (space_paths rest) ≡ all
paths_more x items rest out out' p all is path pushed so_far =
    ap (λ l. paths_behind l (space_paths rest)) pushed
    ∙ behind_first out p (space_paths rest)
    ∙ ap (λ d. paths_behind out (paths_after (space_paths rest) d)) (sym path)
    ∙ ap (λ l. paths_behind out (space_paths l)) (sym is)
    ∙ so_far
