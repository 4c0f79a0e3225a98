-- The dataspaces of the tables, sorted by their paths, represent what the tables hold.
use Rattle.std.specs.Prelude.{ℕ, suc, Bool, true, false, cond, List, [], ◌∷◌, ◌≡◌, ◌+◌, Option, Some, None, filter, refl, slice_index_or}
use Rattle.std.specs.List.{AllByRecursion, IsDistinct}
use Rattle.std.specs.List.Sorted.{IsPermutation, IsSortedBy, IsStrictlySortedBy}
use Rattle.std.specs.declared.cmp.Ordering.{Ordering}
use Rattle.std.specs.declared.cmp.Ordering.TheVariants.{Less, Equal, Greater}
use Rattle.std.specs.Ordering.{is_eq, is_lt}
use Rattle.std.specs.Cmp.Lexicographic.{nat_list_eq_equiv, texts_ties}
use Rattle.std.specs.Map.{keys_of, lookup}
use Rattle.std.specs.Option.{option_map}
use Rattle.std.specs.Str.{bytes_eq}
use Rattle.std.proofs.Common.{ap, sym, ◌∙◌, subst, arith}
use Rattle.std.proofs.lemmas.Bool.{false≢true}
use Rattle.std.proofs.lemmas.List.Sorted.{Contains-permutation, IsPermutation-map, IsPermutation-sym}
use Rattle.std.proofs.lemmas.Map.Keys.{IsDistinct-IsPermutation, IsDistinct-from_sorted, IsDistinct-head, IsDistinct-tail}
use Rattle.std.proofs.lemmas.Map.Entries.{lookup-filter-values, option_filter}
use Rattle.std.proofs.lemmas.Map.Made.{IsDistinct-keys_filter}
use Rattle.std.proofs.lemmas.Map.Views.{Contains-from_lookup, lookup-from_Contains}
use Rattle.etp_values.specs.SameUri.{text_is}
use Rattle.object_store.specs.declared.records.SpaceRecord.{SpaceRecord}
use Rattle.object_store.specs.Tables.{ListsSpaces}
use Rattle.tx_stage.specs.declared.contents.Contents.{Contents}
use Rattle.tx_stage.specs.declared.key.Key.TheVariants.{Space}
use Rattle.tx_stage.specs.declared.value.Value.TheVariants as valued
use Rattle.store_machine.specs.History.{Change}
use Rattle.store_machine.specs.Dataspaces.{dataspaces}
use Rattle.store_machine.specs.Kept.{dataspace_at, Holds}
use Rattle.store_machine.proofs.PlaceLemmas.{path_cmp, paths_in, lower, turned_round}
use Rattle.store_machine.proofs.StandingLemmas.{by_path, keys-by_path, lookup-by_path, one_list, same_map, stands-dataspaces}

-- ---- order

-- of two paths that differ the one that is not above is below
is_below : (p q : List ℕ) → is_lt (path_cmp q p) ≡ false → bytes_eq p q ≡ false → path_cmp p q ≡ Less
is_below p q behind differ = by (path_cmp p q) refl
  where
    by : (o : Ordering) → path_cmp p q ≡ o → path_cmp p q ≡ Less
    by Less e = e
    by Equal e = absurd (false≢true (sym differ ∙ texts_ties p q ∙ ap is_eq e))
    by Greater e = absurd (false≢true (sym behind ∙ ap is_lt (turned_round p q e)))

abbrev is_before : SpaceRecord → SpaceRecord → Bool
is_before x y = is_lt (path_cmp x.path y.path)

sorted-tail : (x : SpaceRecord) (rs : List SpaceRecord) → IsSortedBy is_before (x ∷ rs) → IsSortedBy is_before rs
sorted-tail x rs s k d low high =
    let next : suc k + 1 ≡ suc (k + 1) = omega arith in
    subst (λ (n : ℕ). is_before (slice_index_or (x ∷ rs) n d) (slice_index_or rs k d) ≡ false) next (s (suc k) d (omega arith) (omega (arith, high)))

sorted-rises : (rs : List SpaceRecord) → IsSortedBy is_before rs → IsDistinct bytes_eq (paths_in rs) → IsStrictlySortedBy path_cmp (paths_in rs)
unfolding IsStrictlySortedBy
sorted-rises [] s d = tt
sorted-rises (x ∷ []) s d = (tt, tt)
sorted-rises (x ∷ y ∷ ys) s d =
    let rest = sorted-rises (y ∷ ys) (sorted-tail x (y ∷ ys) s) (IsDistinct-tail bytes_eq x.path (paths_in (y ∷ ys)) d) in
    let next : path_cmp x.path y.path ≡ Less = is_below x.path y.path (s 0 x (omega arith) (omega arith)) (IsDistinct-head bytes_eq x.path (paths_in (y ∷ ys)) d).0 in
    ((next, lower x.path y.path (paths_in ys) next rest.0), rest)

-- ---- what is found

found-permuted : {X : Type 0} (es fs : List (List ℕ × X)) → IsDistinct bytes_eq (keys_of es) → IsPermutation es fs → (q : List ℕ) → lookup (bytes_eq q) fs ≡ lookup (bytes_eq q) es
found-permuted {X} es fs apart moved q = by (lookup (bytes_eq q) es) (lookup (bytes_eq q) fs) refl refl
  where
    apart' : IsDistinct bytes_eq (keys_of fs)
    apart' = IsDistinct-IsPermutation bytes_eq nat_list_eq_equiv.symm (keys_of es) (keys_of fs) (IsPermutation-map (λ e. e.0) es fs moved) apart

    by : (v w : Option X) → lookup (bytes_eq q) es ≡ v → lookup (bytes_eq q) fs ≡ w → lookup (bytes_eq q) fs ≡ lookup (bytes_eq q) es
    by (Some v) w e f = lookup-from_Contains nat_list_eq_equiv q v fs apart' (Contains-permutation es fs (q, v) moved (Contains-from_lookup text_is q v es e)) ∙ sym e
    by None (Some w) e f =
        f ∙ sym (lookup-from_Contains nat_list_eq_equiv q w es apart (Contains-permutation fs es (q, w) (IsPermutation-sym es fs moved) (Contains-from_lookup text_is q w fs f)))
    by None None e f = f ∙ sym e

rises-apart : (ks : List (List ℕ)) → IsStrictlySortedBy path_cmp ks → IsDistinct bytes_eq ks
rises-apart ks rise = subst (λ (same : List ℕ → List ℕ → Bool). IsDistinct same ks) (λ j p q. sym (texts_ties p q) j) (IsDistinct-from_sorted path_cmp ks rise)

-- ---- a part of the records

module _ (test : SpaceRecord → Bool) where
  by_path-kept : (rs : List SpaceRecord) → by_path (filter test rs) ≡ filter (λ (e : List ℕ × SpaceRecord). test e.1) (by_path rs)
  by_path-kept [] = refl
  by_path-kept (r ∷ rs) = by (test r) (by_path-kept rs)
    where
      by : (b : Bool) → by_path (filter test rs) ≡ filter (λ (e : List ℕ × SpaceRecord). test e.1) (by_path rs)
          → by_path (cond b (r ∷ filter test rs) (filter test rs)) ≡ cond b ((r.path, r) ∷ filter (λ (e : List ℕ × SpaceRecord). test e.1) (by_path rs)) (filter (λ (e : List ℕ × SpaceRecord). test e.1) (by_path rs))
      by true rest = ap (λ l. (r.path, r) ∷ l) rest
      by false rest = rest

  above-kept : (p : List ℕ) (rs : List SpaceRecord) → AllByRecursion (λ y. path_cmp p y ≡ Less) (paths_in rs) → AllByRecursion (λ y. path_cmp p y ≡ Less) (paths_in (filter test rs))
  above-kept p [] h = tt
  above-kept p (r ∷ rs) h = by (test r) (above-kept p rs h.1)
    where
      by : (b : Bool) → AllByRecursion (λ y. path_cmp p y ≡ Less) (paths_in (filter test rs)) → AllByRecursion (λ y. path_cmp p y ≡ Less) (paths_in (cond b (r ∷ filter test rs) (filter test rs)))
      by true rest = (h.0, rest)
      by false rest = rest

  rise-kept : (rs : List SpaceRecord) → IsStrictlySortedBy path_cmp (paths_in rs) → IsStrictlySortedBy path_cmp (paths_in (filter test rs))
  unfolding IsStrictlySortedBy
  rise-kept [] h = tt
  rise-kept (r ∷ rs) h = by (test r) (rise-kept rs h.1)
    where
      by : (b : Bool) → IsStrictlySortedBy path_cmp (paths_in (filter test rs)) → IsStrictlySortedBy path_cmp (paths_in (cond b (r ∷ filter test rs) (filter test rs)))
      by true rest = (above-kept r.path rs h.0, rest)
      by false rest = rest

  apart-kept : (rs : List SpaceRecord) → IsDistinct bytes_eq (paths_in rs) → IsDistinct bytes_eq (paths_in (filter test rs))
  apart-kept rs apart =
      subst (IsDistinct bytes_eq) (ap keys_of (sym (by_path-kept rs)) ∙ keys-by_path (filter test rs))
      (IsDistinct-keys_filter bytes_eq (λ (e : List ℕ × SpaceRecord). test e.1) (by_path rs) (subst (IsDistinct bytes_eq) (sym (keys-by_path rs)) apart))

  found-kept : (rs : List SpaceRecord) → IsDistinct bytes_eq (paths_in rs) → (q : List ℕ) → lookup (bytes_eq q) (by_path (filter test rs)) ≡ option_filter test (lookup (bytes_eq q) (by_path rs))
  found-kept rs apart q = ap (lookup (bytes_eq q)) (by_path-kept rs) ∙ lookup-filter-values nat_list_eq_equiv test q (by_path rs) (subst (IsDistinct bytes_eq) (sym (keys-by_path rs)) apart)

  -- those of the tables' dataspaces that pass, sorted, are those of the definition's list that pass
  pub sorted-listed : (t : Contents) (sofar : List Change) (records sorted : List SpaceRecord) → Holds t sofar → ListsSpaces t.objects records → IsPermutation (filter test records) sorted
      → IsSortedBy (λ x y. is_lt (path_cmp x.path y.path)) sorted → sorted ≡ filter test (dataspaces sofar)
  sorted-listed t sofar records sorted h lists moved order =
      let kept = filter test records in
      let whole = stands-dataspaces sofar in
      let apart = apart-kept records lists.once in
      one_list sorted (filter test (dataspaces sofar))
      (sorted-rises sorted order (IsDistinct-IsPermutation bytes_eq nat_list_eq_equiv.symm (paths_in kept) (paths_in sorted) (IsPermutation-map (λ (r : SpaceRecord). r.path) kept sorted moved) apart))
      (rise-kept (dataspaces sofar) whole.rise)
      (λ q.
      found-permuted (by_path kept) (by_path sorted) (subst (IsDistinct bytes_eq) (sym (keys-by_path kept)) apart) (IsPermutation-map (λ (r : SpaceRecord). (r.path, r)) kept sorted moved) q
      ∙ found-kept records lists.once q
      ∙ ap (option_filter test)
      (lookup-by_path q records
      ∙ same_map (dataspace_at q records) (dataspace_at q (dataspaces sofar)) (ap (option_map valued.Space) (lists.found q) ∙ h.each (Space q) ∙ sym (whole.finds q))
      ∙ sym (lookup-by_path q (dataspaces sofar)))
      ∙ sym (found-kept (dataspaces sofar) (rises-apart (paths_in (dataspaces sofar)) whole.rise) q))
