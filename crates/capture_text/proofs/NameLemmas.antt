-- What is at a place of a table that is seen as another list.
use Rattle.std.proofs.Common.{◌≡◌, ◌∙◌, ◌<◌, ◌≤◌, ℕ, zero, suc, List, [], ◌∷◌, map, get_or, length, refl, ap, arith}

found : {A B : Type 0} (f : A → B) (xs : List A) (k : ℕ) (x : A) (d : B) → k < length xs → x ≡ get_or xs k x → f x ≡ get_or (map f xs) k d
found f [] k x d h e = absurd (omega arith)
found f (y ∷ xs) zero x d h e = ap f e
found f (y ∷ xs) (suc k) x d h e = found f xs k x d (omega arith) e

missed : {A B : Type 0} (f : A → B) (xs : List A) (k : ℕ) (d : B) → length xs ≤ k → d ≡ get_or (map f xs) k d
missed f [] k d h = refl
missed f (y ∷ xs) zero d h = absurd (omega arith)
missed f (y ∷ xs) (suc k) d h = missed f xs k d (omega arith)

-- what is there
pub seen_at : {A B : Type 0} (f : A → B) (xs : List A) (ys : List B) (k : ℕ) (x : A) (d : B) → map f xs ≡ ys → k < length xs → x ≡ get_or xs k x → f x ≡ get_or ys k d
seen_at f xs ys k x d e h at = found f xs k x d h at ∙ ap (λ l. get_or l k d) e

-- nothing is there
pub unseen_at : {A B : Type 0} (f : A → B) (xs : List A) (ys : List B) (k : ℕ) (d : B) → map f xs ≡ ys → length xs ≤ k → d ≡ get_or ys k d
unseen_at f xs ys k d e h = missed f xs k d h ∙ ap (λ l. get_or l k d) e
