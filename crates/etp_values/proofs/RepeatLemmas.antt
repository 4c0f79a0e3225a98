-- A name that occurs twice is next to itself once the names are in order.
use Rattle.std.proofs.Common.{ℕ, ◌≡◌, ◌+◌, ◌<◌, List, [], ◌∷◌, true, false, zero, suc, length, get_or, sym, ◌∙◌, ap, arith, refl, add-one}
use Rattle.std.specs.declared.cmp.Ordering.{Ordering}
use Rattle.std.specs.declared.cmp.Ordering.TheVariants.{Less, Equal, Greater}
use Rattle.std.specs.Ordering.{nat_cmp, is_lt, is_eq, ordering_reverse}
use Rattle.std.specs.Cmp.Lexicographic.{slice_cmp, nat_list_cmp_total, nat_list_eq_equiv, texts_ties}
use Rattle.std.specs.List.{IsDistinct, AllByRecursion}
use Rattle.std.specs.List.Sorted.{IsPermutation, IsSortedBy}
use Rattle.std.specs.Map.{keys_of}
use Rattle.std.specs.Str.{bytes_eq}
use Rattle.std.proofs.lemmas.Bool.{false≢true}
use Rattle.std.proofs.lemmas.List.{get_or-map, length-map}
use Rattle.std.proofs.lemmas.List.Sorted.{IsPermutation-map}
use Rattle.std.proofs.lemmas.Map.Keys.{IsDistinct-IsPermutation, IsDistinct-head, IsDistinct-tail}
use Rattle.etp_values.specs.Named.{StandsStill}

neither_below : (o : Ordering) → is_lt o ≡ false → is_lt (ordering_reverse o) ≡ false → is_eq o ≡ true
neither_below Less a b = absurd (false≢true (sym a))
neither_below Equal a b = refl
neither_below Greater a b = absurd (false≢true (sym b))

-- a name that is not below the next, in a list in order, is the next
same_names : (x y : List ℕ) → is_lt (slice_cmp nat_cmp x y) ≡ false → is_lt (slice_cmp nat_cmp y x) ≡ false → bytes_eq x y ≡ true
same_names x y ahead behind =
    texts_ties x y ∙ neither_below (slice_cmp nat_cmp x y) ahead (ap is_lt (sym (nat_list_cmp_total.antisymm y x)) ∙ behind)

differs_at : (x : List ℕ) (xs : List (List ℕ)) (k : ℕ) → AllByRecursion (λ y. bytes_eq x y ≡ false) xs → k < length xs → bytes_eq x (get_or xs k []) ≡ false
differs_at x [] k apart within = absurd (omega arith)
differs_at x (y ∷ ys) zero apart within = apart.0
differs_at x (y ∷ ys) (suc k) apart within = differs_at x ys k apart.1 (omega arith)

neighbours_differ : (names : List (List ℕ)) (k : ℕ) → IsDistinct bytes_eq names → suc k < length names → bytes_eq (get_or names k []) (get_or names (suc k) []) ≡ false
neighbours_differ [] k apart within = absurd (omega arith)
neighbours_differ (x ∷ xs) zero apart within = differs_at x xs zero (IsDistinct-head bytes_eq x xs apart) (omega arith)
neighbours_differ (x ∷ xs) (suc k) apart within = neighbours_differ xs k (IsDistinct-tail bytes_eq x xs apart) (omega arith)

pub repeats : {T : Type 0} (items ordered : List (List ℕ × T)) → IsPermutation items ordered → IsSortedBy (λ x y. is_lt (slice_cmp nat_cmp x.0 y.0)) ordered
    → StandsStill (keys_of ordered) → ¬ IsDistinct bytes_eq (keys_of items)
repeats items [] moved sorted still apart = absurd (omega (arith, still.1))
repeats {T} items (e ∷ es) moved sorted still apart =
    let ordered : List (List ℕ × T) = e ∷ es in
    let k : ℕ = still.0 in
    let within : k + 1 < length ordered = simp length-map at still.1 in
    let here : get_or (keys_of ordered) k [] ≡ (get_or ordered k e).0 = get_or-map (λ x. x.0) ordered k e [] (omega arith) in
    let next : get_or (keys_of ordered) (k + 1) [] ≡ (get_or ordered (k + 1) e).0 = get_or-map (λ x. x.0) ordered (k + 1) e [] within in
    let ahead : is_lt (slice_cmp nat_cmp (get_or ordered k e).0 (get_or ordered (k + 1) e).0) ≡ false = (λ j. is_lt (slice_cmp nat_cmp (sym here j) (sym next j))) ∙ still.2 in
    let same : bytes_eq (get_or ordered k e).0 (get_or ordered (k + 1) e).0 ≡ true = same_names (get_or ordered k e).0 (get_or ordered (k + 1) e).0 ahead (sorted k e (omega arith) within) in
    let flips : (x y : List ℕ) → bytes_eq x y ≡ bytes_eq y x = nat_list_eq_equiv.symm in
    let distinct : IsDistinct bytes_eq (keys_of ordered) = IsDistinct-IsPermutation bytes_eq flips (keys_of items) (keys_of ordered) (IsPermutation-map (λ x. x.0) items ordered moved) apart in
    let differ : bytes_eq (get_or (keys_of ordered) k []) (get_or (keys_of ordered) (k + 1) []) ≡ false = rw (add-one k) (neighbours_differ (keys_of ordered) k distinct (omega (arith, still.1))) in
    false≢true (sym differ ∙ (λ j. bytes_eq (here j) (next j)) ∙ same)
