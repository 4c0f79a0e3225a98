-- How many points of a copy come before what is put below an end.
use Rattle.std.proofs.Common.{ℕ, zero, suc, ◌≡◌, ◌≤◌, ◌<◌, true, false, cond, List, [], ◌∷◌, ◌++◌, length, take, get_or, ap, sym, ◌∙◌, arith, append-nil}
use Rattle.std.specs.Prelude.{ℤ}
use Rattle.std.specs.List.{AllByRecursion}
use Rattle.etp_values.specs.declared.point.Point.{Point}
use Rattle.channel_store.specs.Copies.{IsFront}
use Rattle.channel_store.specs.Points.{at_most, put_below}

front-nil : (to : ℤ) (n : ℕ) → IsFront to n []
front-nil to zero more = sym (append-nil more)
front-nil to (suc n) more = sym (append-nil more)

-- all of them
pub front-all : (to : ℤ) (xs : List Point) (n : ℕ) → length xs ≤ n → AllByRecursion (λ x. at_most x.index to ≡ true) (take n xs) → IsFront to n xs
front-all to [] n within all more = front-nil to n more
front-all to (x ∷ xs) zero within all more = absurd (omega arith)
front-all to (x ∷ xs) (suc n) within all more = ap (λ b. cond b (x ∷ put_below to more xs) (more ++ x ∷ xs)) all.0 ∙ ap (λ l. x ∷ l) (front-all to xs n (omega arith) all.1 more)

-- those before the first that is above the end
pub front-at : (to : ℤ) (xs : List Point) (n : ℕ) (d : Point) → n < length xs → AllByRecursion (λ x. at_most x.index to ≡ true) (take n xs) → at_most (get_or xs n d).index to ≡ false → IsFront to n xs
front-at to [] n d within all above more = absurd (omega arith)
front-at to (x ∷ xs) zero d within all above more = ap (λ b. cond b (x ∷ put_below to more xs) (more ++ x ∷ xs)) above
front-at to (x ∷ xs) (suc n) d within all above more = ap (λ b. cond b (x ∷ put_below to more xs) (more ++ x ∷ xs)) all.0 ∙ ap (λ l. x ∷ l) (front-at to xs n d (omega arith) all.1 above more)
