-- Names that rise from index to index, and numbers that never fall; for the crates above too.
use Rattle.std.proofs.Common.{refl, ℕ, ◌≡◌, ◌<◌, ◌≤◌, ◌+◌, ◌-◌, List, [], ◌∷◌, ◌++◌, true, false, length, get_or, ap, sym, subst, ◌∙◌, arith, inl, inr}
use Rattle.std.specs.declared.cmp.Ordering.{Ordering}
use Rattle.std.specs.declared.cmp.Ordering.TheVariants.{Less, Equal, Greater}
use Rattle.std.specs.Ordering.{nat_cmp, is_lt}
use Rattle.std.specs.Cmp.Lexicographic.{slice_cmp, nat_list_cmp_total}
use Rattle.std.specs.List.Sorted.{IsStrictlySortedBy}
use Rattle.std.specs.Map.{keys_of}
use Rattle.std.proofs.lemmas.List.{get_or-map, length-map}
use Rattle.std.proofs.lemmas.Map.Keys.{sorted_from_all_adjacent}
use Rattle.std.proofs.lemmas.Bool.{false≢true, cases_lt}
use Rattle.etp_values.specs.Named.{StandsStill}
use Rattle.etp_values.specs.Rising.{Rises}

pub less_from : (o : Ordering) → is_lt o ≡ true → o ≡ Less
less_from Less h = refl
less_from Equal h = absurd (false≢true h)
less_from Greater h = absurd (false≢true h)

-- among the first names of a list each is below the next
abbrev pub RisesBelow : List (List ℕ) → ℕ → Type 0
RisesBelow ks i = (k : ℕ) → k + 1 < i → slice_cmp nat_cmp (get_or ks k []) (get_or ks (k + 1) []) ≡ Less

-- two neighbouring names
name_before : {T : Type 0} (xs : List (List ℕ × T)) (i : ℕ) (x : List ℕ × T) → 1 ≤ i → i < length xs → x ≡ get_or xs (i - 1) x → get_or (keys_of xs) (i - 1) [] ≡ x.0
name_before xs i x low within at = get_or-map (λ e. e.0) xs (i - 1) x [] (omega arith) ∙ ap (λ e. e.0) (sym at)

name_here : {T : Type 0} (xs : List (List ℕ × T)) (i : ℕ) (y : List ℕ × T) → i < length xs → y ≡ get_or xs i y → get_or (keys_of xs) i [] ≡ y.0
name_here xs i y within here = get_or-map (λ e. e.0) xs i y [] within ∙ ap (λ e. e.0) (sym here)

pub rises_more : {T : Type 0} (xs : List (List ℕ × T)) (i : ℕ) (x y : List ℕ × T) → RisesBelow (keys_of xs) i → 1 ≤ i → i < length xs → x ≡ get_or xs (i - 1) x → y ≡ get_or xs i y → is_lt (slice_cmp nat_cmp x.0 y.0) ≡ true → RisesBelow (keys_of xs) (i + 1)
rises_more xs i x y before low within at here less k h =
    elim (cases_lt (k + 1) i) [
      | inl earlier ↦ before k earlier
      | inr last ↦
          let same : k + 1 ≡ i = omega arith in
          let prior : k ≡ i - 1 = omega arith in
          let first : get_or (keys_of xs) k [] ≡ x.0 = ap (λ n. get_or (keys_of xs) n []) prior ∙ name_before xs i x low within at in
          let second : get_or (keys_of xs) (k + 1) [] ≡ y.0 = ap (λ n. get_or (keys_of xs) n []) same ∙ name_here xs i y within here in
          (λ j. slice_cmp nat_cmp (first j) (second j)) ∙ less_from (slice_cmp nat_cmp x.0 y.0) less
    ]

pub still_at : {T : Type 0} (xs : List (List ℕ × T)) (i : ℕ) (x y : List ℕ × T) → 1 ≤ i → i < length xs → x ≡ get_or xs (i - 1) x → y ≡ get_or xs i y → is_lt (slice_cmp nat_cmp x.0 y.0) ≡ false → StandsStill (keys_of xs)
still_at xs i x y low within at here still =
    let next : i - 1 + 1 ≡ i = omega arith in
    let second : get_or (keys_of xs) (i - 1 + 1) [] ≡ y.0 = ap (λ n. get_or (keys_of xs) n []) next ∙ name_here xs i y within here in
    (i - 1, simp length-map (omega arith), (λ j. is_lt (slice_cmp nat_cmp (name_before xs i x low within at j) (second j))) ∙ still)

pub sorted_from_rising : (ks : List (List ℕ)) (i : ℕ) → RisesBelow ks i → length ks ≤ i → IsStrictlySortedBy (slice_cmp nat_cmp) ks
sorted_from_rising ks i rising all = sorted_from_all_adjacent nat_list_cmp_total ks [] (λ k h. rising k (omega arith))

-- one name alone
one_rises : {T : Type 0} (x : List ℕ × T) → IsStrictlySortedBy (slice_cmp nat_cmp) (keys_of (x ∷ []))
unfolding IsStrictlySortedBy
one_rises x = (tt, tt)

pub rises_alone : {T : Type 0} (items before : List (List ℕ × T)) (x : List ℕ × T) → items ≡ before ++ x ∷ [] → before ≡ [] → IsStrictlySortedBy (slice_cmp nat_cmp) (keys_of items)
rises_alone items before x made none = subst (λ xs. IsStrictlySortedBy (slice_cmp nat_cmp) (keys_of xs)) (sym (made ∙ ap (λ b. b ++ x ∷ []) none)) (one_rises x)

-- the upper bound of numbers that never fall is not below the lower one
pub rises_bound : (low : ℕ) (ns : List ℕ) (high : ℕ) → Rises low ns high → low ≤ high
rises_bound low [] high r = r
rises_bound low (n ∷ ns) high r = let f = r.0 in let g = rises_bound n ns high r.1 in omega (arith, f, g)

-- a number that is at least the last one, appended
pub rises_snoc : (low : ℕ) (xs : List ℕ) (high n top : ℕ) → Rises low xs high → high ≤ n → n ≤ top → Rises low (xs ++ n ∷ []) top
rises_snoc low [] high n top r a b = (omega arith, b)
rises_snoc low (x ∷ xs) high n top r a b = (r.0, rises_snoc x xs high n top r.1 a b)

-- the upper bound may be increased
pub rises_wider : (low : ℕ) (xs : List ℕ) (high top : ℕ) → Rises low xs high → high ≤ top → Rises low xs top
rises_wider low [] high top r a = omega arith
rises_wider low (x ∷ xs) high top r a = (r.0, rises_wider x xs high top r.1 a)
