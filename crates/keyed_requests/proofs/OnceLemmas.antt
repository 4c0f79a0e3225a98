-- Each key is answered once.
use Rattle.std.specs.Prelude.{ℕ, Bool, cond, ◌≡◌, ◌+◌, List, [], ◌∷◌, refl}
use Rattle.std.specs.List.{count_by}
use Rattle.std.specs.Map.{keys_of}
use Rattle.std.proofs.Common.{ap, sym, subst, ◌∙◌, arith, add-zero}
use Rattle.std.proofs.lemmas.List.Sums.{sum_by-cons}
use Rattle.keyed_requests.specs.Keyed.{checked, kept, kept_one, finished, granted, refused_keys}
use Rattle.keyed_requests.specs.Laws.{AnswersEach}
use Rattle.keyed_requests.specs.declared.keys.Decision.{Decision}
use Rattle.keyed_requests.specs.declared.keys.Decision.TheVariants.{Granted, Refused}
use Rattle.keyed_requests.proofs.OrderLemmas.{checked_names, mapped_names, finished_names}

-- one more key
more : (is : List ℕ → Bool) (k : List ℕ) (keys : List (List ℕ)) → count_by is (k ∷ keys) ≡ count_by is (k ∷ []) + count_by is keys
more is k keys = sum_by-cons (λ key. cond (is key) 1 0) k keys ∙ ap (λ n. n + count_by is keys) (sym (sum_by-cons (λ key. cond (is key) 1 0) k [] ∙ add-zero _))

-- the granted and the refused keys together are the keys
divided : {R : Type 0} (decided : List (List ℕ × Decision R)) → AnswersEach (keys_of decided) decided
divided [] is = refl
divided ((k, Granted a) ∷ xs) is =
    let here = more is k (keys_of xs) in
    let granted_here = more is k (keys_of (granted xs)) in
    let rest = divided xs is in
    omega arith
divided ((k, Refused code) ∷ xs) is =
    let here = more is k (keys_of xs) in
    let refused_here = more is k (keys_of (refused_keys xs)) in
    let rest = divided xs is in
    omega arith

pub answers_each : {S T A B K F R : Type 0} (check : S → A → S × Decision B) (keep : B → K) (finish : T → List ℕ → K → List F → T × Decision R) (width : ℕ) (s : S) (t : T) (items : List (List ℕ × A)) (found : List F)
    → AnswersEach (keys_of items) (finished finish width t (kept keep (checked check s items)) found)
answers_each check keep finish width s t items found =
    let pending = kept keep (checked check s items) in
    let same : keys_of (finished finish width t pending found) ≡ keys_of items = finished_names finish width t pending found ∙ mapped_names (kept_one keep) (checked check s items) ∙ checked_names check s items in
    subst (λ keys. AnswersEach keys (finished finish width t pending found)) same (divided (finished finish width t pending found))
