-- Names that come after all existing ones: inserting them appends them; for the crates above too.
use Rattle.std.proofs.Common.{◌≡◌, ℕ, ◌+◌, ◌-◌, ◌<◌, ◌≤◌, ◌==◌, zero, suc, Bool, true, false, List, [], ◌∷◌, ◌++◌, length, get_or, refl, sym, ap, subst, ◌∙◌, arith, inl, inr, append_assoc}
use Rattle.std.specs.declared.cmp.Ordering.{Ordering}
use Rattle.std.specs.declared.cmp.Ordering.TheVariants.{Less, Greater}
use Rattle.std.specs.Bool.{OnTrue}
use Rattle.std.specs.BTreeMap.{insert_entry}
use Rattle.std.specs.Cmp.Lexicographic.{slice_cmp, nat_list_cmp_total}
use Rattle.std.specs.List.{AllByRecursion}
use Rattle.std.specs.List.Sorted.{IsStrictlySortedBy}
use Rattle.std.specs.Map.{keys_of}
use Rattle.std.specs.Ordering.{is_lt, nat_cmp, ordering_reverse}
use Rattle.std.proofs.lemmas.Bool.{cases_lt, false≢true}
use Rattle.std.proofs.lemmas.List.{append-nil, get_or-append_right, get_or-map, get_or_append_left, length-append, length-map, map-append}
use Rattle.std.proofs.lemmas.Map.Keys.{Less-from_sorted, sorted_from_all_adjacent, sorted_head, sorted_tail}
use Rattle.etp_values.proofs.RisingLemmas.{less_from}
use Rattle.client_parts.specs.Joining.{merged, with_all}

abbrev cmp : List ℕ → List ℕ → Ordering
cmp = slice_cmp nat_cmp

abbrev pub Ordered : List (List ℕ) → Type 0
Ordered names = IsStrictlySortedBy (slice_cmp nat_cmp) names

-- ---- two lists in order, of which the second begins after the end of the first

on_left : (ks ls : List (List ℕ)) (k : ℕ) → Ordered ks → k + 1 < length ks → cmp (get_or (ks ++ ls) k []) (get_or (ks ++ ls) (k + 1) []) ≡ Less
on_left ks ls k o h =
    (λ j. cmp (get_or_append_left ks ls [] k (omega arith) j) (get_or_append_left ks ls [] (k + 1) h j))
    ∙ Less-from_sorted (slice_cmp nat_cmp) ks k (k + 1) [] o (omega arith) h

on_right : (ks ls : List (List ℕ)) (k : ℕ) → Ordered ls → length ks ≤ k → k + 1 < length ks + length ls → cmp (get_or (ks ++ ls) k []) (get_or (ks ++ ls) (k + 1) []) ≡ Less
on_right ks ls k o low h =
    (λ j. cmp (get_or-append_right ks ls (length ks) k [] refl low j) (get_or-append_right ks ls (length ks) (k + 1) [] refl (omega arith) j))
    ∙ Less-from_sorted (slice_cmp nat_cmp) ls (k - length ks) (k + 1 - length ks) [] o (omega arith) (omega arith)

between : (ks ls : List (List ℕ)) (k : ℕ) → length ks ≡ k + 1 → cmp (get_or ks (length ks - 1) []) (get_or ls 0 []) ≡ Less → cmp (get_or (ks ++ ls) k []) (get_or (ks ++ ls) (k + 1) []) ≡ Less
between ks ls k at ends =
    let last : k ≡ length ks - 1 = omega (arith, at) in
    let first : k + 1 - length ks ≡ 0 = omega (arith, at) in
    (λ j. cmp ((get_or_append_left ks ls [] k (omega (arith, at)) ∙ ap (λ n. get_or ks n []) last) j) ((get_or-append_right ks ls (length ks) (k + 1) [] refl (omega (arith, at)) ∙ ap (λ n. get_or ls n []) first) j))
    ∙ ends

names_behind : (ks ls : List (List ℕ)) → Ordered ks → Ordered ls → (1 ≤ length ks → 1 ≤ length ls → cmp (get_or ks (length ks - 1) []) (get_or ls 0 []) ≡ Less) → Ordered (ks ++ ls)
names_behind ks ls o p ends = sorted_from_all_adjacent nat_list_cmp_total (ks ++ ls) [] (λ k h. at k (subst (λ n. k + 1 < n) (length-append ks ls) h))
  where
    at : (k : ℕ) → k + 1 < length ks + length ls → cmp (get_or (ks ++ ls) k []) (get_or (ks ++ ls) (k + 1) []) ≡ Less
    at k h = elim (cases_lt (k + 1) (length ks)) [
      | inl left ↦ on_left ks ls k o left
      | inr more ↦ elim (cases_lt k (length ks)) [
        | inl edge ↦ between ks ls k (omega arith) (ends (omega arith) (omega arith))
        | inr right ↦ on_right ks ls k p right h
      ]
    ]

pub entries_behind : {A : Type 0} (xs ys : List (List ℕ × A)) (x y : List ℕ × A) → Ordered (keys_of xs) → Ordered (keys_of ys) → 1 ≤ length xs → 1 ≤ length ys → x ≡ get_or xs (length xs - 1) x → y ≡ get_or ys 0 y → is_lt (slice_cmp nat_cmp x.0 y.0) ≡ true → Ordered (keys_of (xs ++ ys))
entries_behind xs ys x y o p long more last first less =
    let last_name : get_or (keys_of xs) (length (keys_of xs) - 1) [] ≡ x.0 = ap (λ n. get_or (keys_of xs) (n - 1) []) (length-map xs (λ e. e.0)) ∙ get_or-map (λ e. e.0) xs (length xs - 1) x [] (omega arith) ∙ ap (λ e. e.0) (sym last) in
    let first_name : get_or (keys_of ys) 0 [] ≡ y.0 = get_or-map (λ e. e.0) ys 0 y [] (omega arith) ∙ ap (λ e. e.0) (sym first) in
    let ends : cmp (get_or (keys_of xs) (length (keys_of xs) - 1) []) (get_or (keys_of ys) 0 []) ≡ Less = (λ j. cmp (last_name j) (first_name j)) ∙ less_from (slice_cmp nat_cmp x.0 y.0) less in
    subst Ordered (sym (map-append (λ e. e.0) xs ys)) (names_behind (keys_of xs) (keys_of ys) o p (λ a b. ends))

-- what holds if a test passed
pub on_true : {P : Type 0} (b : Bool) → (b ≡ true → P) → OnTrue b P
on_true true h = h refl
on_true false h = tt

pub filled : (n : ℕ) (b : Bool) → b ≡ (n == 0) → b ≡ false → 1 ≤ n
filled zero b is not_so = absurd (false≢true (sym not_so ∙ is))
filled (suc n) b is not_so = omega arith

-- if one of the two has no entries
pub none_before : {A : Type 0} (xs ys : List (List ℕ × A)) → length xs ≡ 0 → Ordered (keys_of ys) → Ordered (keys_of (xs ++ ys))
none_before [] ys none o = o
none_before (x ∷ xs) ys none o = absurd (omega arith)

pub none_behind : {A : Type 0} (xs ys : List (List ℕ × A)) → length ys ≡ 0 → Ordered (keys_of xs) → Ordered (keys_of (xs ++ ys))
none_behind xs [] none o = subst (λ l. Ordered (keys_of l)) (sym (append-nil xs)) o
none_behind xs (y ∷ ys) none o = absurd (omega arith)

-- ---- entries put into a list that they come after

name_at : {A : Type 0} (P : List ℕ → Type 0) (front : List (List ℕ × A)) (x : List ℕ × A) (back : List (List ℕ × A)) → AllByRecursion P (keys_of (front ++ x ∷ back)) → P x.0
name_at P [] x back all = all.0
name_at P (e ∷ front) x back all = name_at P front x back all.1

above : {A : Type 0} (front : List (List ℕ × A)) (x : List ℕ × A) (back : List (List ℕ × A)) → Ordered (keys_of (front ++ x ∷ back)) → AllByRecursion (λ k. cmp x.0 k ≡ Greater) (keys_of front)
above [] x back o = tt
above (e ∷ front) x back o =
    let less : cmp e.0 x.0 ≡ Less = name_at (λ k. cmp e.0 k ≡ Less) front x back (sorted_head (slice_cmp nat_cmp) e.0 (keys_of (front ++ x ∷ back)) o) in
    (nat_list_cmp_total.antisymm x.0 e.0 ∙ ap ordering_reverse less, above front x back (sorted_tail (slice_cmp nat_cmp) e.0 (keys_of (front ++ x ∷ back)) o))

put_last : {A : Type 0} (held : List (List ℕ × A)) (x : List ℕ × A) → AllByRecursion (λ k. cmp x.0 k ≡ Greater) (keys_of held) → insert_entry (slice_cmp nat_cmp) held x.0 x.1 ≡ held ++ x ∷ []
put_last [] x all = refl
put_last (e ∷ held) x all = rw all.0 (ap (λ l. e ∷ l) (put_last held x all.1))

pub put_behind : {A : Type 0} (held xs : List (List ℕ × A)) → Ordered (keys_of (held ++ xs)) → with_all held xs ≡ held ++ xs
put_behind held [] o = sym (append-nil held)
put_behind held (x ∷ xs) o =
    let whole = append_assoc held (x ∷ []) xs in
    ap (λ h. with_all h xs) (put_last held x (above held x xs o)) ∙ put_behind (held ++ x ∷ []) xs (subst (λ l. Ordered (keys_of l)) (sym whole) o) ∙ whole

pub merged_behind : {A : Type 0} (xs ys : List (List ℕ × A)) → Ordered (keys_of xs) → Ordered (keys_of (xs ++ ys)) → merged xs ys ≡ xs ++ ys
merged_behind xs ys o p = ap (λ h. with_all h ys) (put_behind [] xs o) ∙ put_behind xs ys p
