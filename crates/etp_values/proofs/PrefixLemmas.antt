-- Prefixes of one list: for this crate and those above it.
use Rattle.std.proofs.Common.{◌≡◌, ℕ, zero, suc, ◌≤◌, List, [], ◌∷◌, ◌++◌, length, Some, slice_get, refl, ap, sym, ◌∙◌, arith, append_assoc, length-append}
use Rattle.std.proofs.lemmas.List.{append-nil}
use mathlib.Core.List.{IsPrefix, prefix-append}

pub prefix_self : {X : Type 0} (xs : List X) → IsPrefix xs xs
prefix_self xs = ([], append-nil xs)

pub prefix_grown : {X : Type 0} (xs : List X) (y : X) → IsPrefix xs (xs ++ y ∷ [])
prefix_grown xs y = prefix-append xs (y ∷ [])

pub prefix_trans : {X : Type 0} (xs ys zs : List X) → IsPrefix xs ys → IsPrefix ys zs → IsPrefix xs zs
prefix_trans xs ys zs p q =
    let whole : (xs ++ p.0) ++ q.0 ≡ zs = ap (λ l. l ++ q.0) p.1 ∙ q.1 in
    (p.0 ++ q.0, sym (append_assoc xs p.0 q.0) ∙ whole)

pub prefix_snoc : {X : Type 0} (xs ys : List X) (y : X) → IsPrefix xs ys → IsPrefix xs (ys ++ y ∷ [])
prefix_snoc xs ys y p = prefix_trans xs ys (ys ++ y ∷ []) p (prefix_grown ys y)

pub prefix_length : {X : Type 0} (xs ys : List X) → IsPrefix xs ys → length xs ≤ length ys
prefix_length xs ys p = let sizes : length ys ≡ length (xs ++ p.0) = ap length (sym p.1) in omega (arith, sizes, length-append xs p.0)

-- what is in a prefix is in the whole
pub prefix_get : {X : Type 0} (xs ys : List X) (k : ℕ) (x : X) → IsPrefix xs ys → slice_get xs k ≡ Some x → slice_get ys k ≡ Some x
prefix_get [] ys k x p at = absurd cc
prefix_get (a ∷ xs) [] k x p at = absurd (cc (p.1))
prefix_get (a ∷ xs) (b ∷ ys) zero x p at = cc (p.1, at)
prefix_get (a ∷ xs) (b ∷ ys) (suc k) x p at = prefix_get xs ys k x (p.0, cc (p.1)) at

-- of two prefixes of one list the shorter is a prefix of the longer
pub prefix_shorter : {X : Type 0} (xs ys zs : List X) → IsPrefix xs zs → IsPrefix ys zs → length xs ≤ length ys → IsPrefix xs ys
prefix_shorter [] ys zs p q short = (ys, refl)
prefix_shorter (a ∷ xs) [] zs p q short = absurd (omega arith)
prefix_shorter (a ∷ xs) (b ∷ ys) [] p q short = absurd (cc (p.1))
prefix_shorter (a ∷ xs) (b ∷ ys) (c ∷ zs) p q short =
    let r = prefix_shorter xs ys zs (p.0, cc (p.1)) (q.0, cc (q.1)) (omega arith) in
    let same : a ≡ b = cc (p.1, q.1) in
    (r.0, cc (same, r.1))
