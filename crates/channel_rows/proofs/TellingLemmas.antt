-- One more change is sent.
use Rattle.std.specs.Prelude.{List, [], ◌∷◌, ◌++◌, ◌≡◌, ◌<◌, drop, length, map, refl, slice_get, Some, None}
use Rattle.std.specs.List.{flat_map}
use Rattle.std.proofs.Common.{ap, sym, ◌∙◌, append_assoc, append-nil, arith}
use Rattle.std.proofs.lemmas.List.{map-append}

-- what was sent, with what a change is sent as, and the rest
pub told_more : {A B C : Type 0} (f : B → C) (g : A → List B) (out out' : List C) (items rest : List A) (x : A) (all : List C)
    → items ≡ x ∷ rest → out' ≡ out ++ map f (g x) → out ++ map f (flat_map g items) ≡ all → out' ++ map f (flat_map g rest) ≡ all
told_more f g out out' items rest x all is pushed so_far =
    ap (λ l. l ++ map f (flat_map g rest)) pushed
    ∙ append_assoc out (map f (g x)) (map f (flat_map g rest))
    ∙ ap (λ l. out ++ l) (sym (map-append f (g x) (flat_map g rest)))
    ∙ ap (λ l. out ++ map f (flat_map g l)) (sym is)
    ∙ so_far

-- ---- what is pending

-- what was sent, with the first that is pending, and the rest
pub next_told : {A B : Type 0} (f : A → B) (out out' : List B) (pending rest : List A) (x : A) (all : List B)
    → Some x ≡ slice_get pending 0 → rest ≡ drop 1 pending → out' ≡ out ++ f x ∷ [] → out ++ map f pending ≡ all → out' ++ map f rest ≡ all
next_told f out out' [] rest x all first behind pushed so_far = absurd cc
next_told f out out' (y ∷ ys) rest x all first behind pushed so_far =
    let same : x ≡ y = cc in
    ap (λ l. out' ++ map f l) behind
    ∙ ap (λ l. l ++ map f ys) pushed
    ∙ append_assoc out (f x ∷ []) (map f ys)
    ∙ ap (λ z. out ++ f z ∷ map f ys) same
    ∙ so_far

-- fewer are pending then
pub fewer_left : {A : Type 0} (pending rest : List A) (x : A) → Some x ≡ slice_get pending 0 → rest ≡ drop 1 pending → length rest < length pending
fewer_left [] rest x first behind = absurd cc
fewer_left (y ∷ ys) rest x first behind = let same = ap length behind in omega (arith, same)

-- nothing is pending if there is no first
pub none_left : {A : Type 0} (pending : List A) → None ≡ slice_get pending 0 → pending ≡ []
none_left [] first = refl
none_left (y ∷ ys) first = absurd cc

-- then all was sent
pub all_told : {A B : Type 0} (f : A → B) (out : List B) (pending : List A) (all : List B) → None ≡ slice_get pending 0 → out ++ map f pending ≡ all → out ≡ all
all_told f out pending all first so_far = sym (append-nil out) ∙ ap (λ l. out ++ map f l) (sym (none_left pending first)) ∙ so_far
