-- Paths in order, and a path put among them.
use Rattle.std.proofs.Common.{ℕ, ◌≡◌, List, [], ◌∷◌, map, refl, sym, ap, ◌∙◌}
use Rattle.std.specs.List.{AllByRecursion}
use Rattle.std.specs.List.Sorted.{IsStrictlySortedBy}
use Rattle.std.specs.declared.cmp.Ordering.{Ordering}
use Rattle.std.specs.declared.cmp.Ordering.TheVariants.{Less, Equal, Greater}
use Rattle.std.specs.Ordering.{nat_cmp, match_ordering, ordering_reverse, is_eq}
use Rattle.std.specs.BTreeSet.{insert_key}
use Rattle.std.specs.Cmp.Lexicographic.{slice_cmp, nat_list_cmp_total, texts_ties}
use Rattle.etp_values.specs.SameUri.{text_is}
use Rattle.object_store.specs.declared.records.SpaceRecord.{SpaceRecord}

abbrev pub path_cmp : List ℕ → List ℕ → Ordering
path_cmp = slice_cmp nat_cmp

abbrev pub paths_in : List SpaceRecord → List (List ℕ)
paths_in rs = map (λ (r : SpaceRecord). r.path) rs

pub tie_is : (p q : List ℕ) → path_cmp p q ≡ Equal → p ≡ q
tie_is p q tie = text_is p q (texts_ties p q ∙ ap is_eq tie)

-- ---- order

pub lower : (q k : List ℕ) (ks : List (List ℕ)) → path_cmp q k ≡ Less → AllByRecursion (λ y. path_cmp k y ≡ Less) ks → AllByRecursion (λ y. path_cmp q y ≡ Less) ks
lower q k [] l h = tt
lower q k (x ∷ xs) l h = (nat_list_cmp_total.trans q k x l h.0, lower q k xs l h.1)

above_placed : (k q : List ℕ) (ks : List (List ℕ)) → path_cmp k q ≡ Less → AllByRecursion (λ y. path_cmp k y ≡ Less) ks → AllByRecursion (λ y. path_cmp k y ≡ Less) (insert_key path_cmp ks q)
above_placed k q [] l h = (l, tt)
above_placed k q (x ∷ xs) l h = by (path_cmp q x) (above_placed k q xs l h.1)
  where
    by : (o : Ordering) → AllByRecursion (λ y. path_cmp k y ≡ Less) (insert_key path_cmp xs q) → AllByRecursion (λ y. path_cmp k y ≡ Less) (match_ordering o (q ∷ x ∷ xs) (x ∷ xs) (x ∷ insert_key path_cmp xs q))
    by Less rest = (l, h)
    by Equal rest = h
    by Greater rest = (h.0, rest)

pub turned_round : (a b : List ℕ) → path_cmp a b ≡ Greater → path_cmp b a ≡ Less
turned_round a b g = let e = nat_list_cmp_total.antisymm a b in by (path_cmp b a) (sym g ∙ e)
  where
    by : (o : Ordering) → Greater ≡ ordering_reverse o → o ≡ Less
    by Less e = refl
    by Equal e = absurd (cc)
    by Greater e = absurd (cc)

-- a path put among others in order
pub placed-rises : (ks : List (List ℕ)) (q : List ℕ) → IsStrictlySortedBy path_cmp ks → IsStrictlySortedBy path_cmp (insert_key path_cmp ks q)
unfolding IsStrictlySortedBy
placed-rises [] q h = (tt, tt)
placed-rises (x ∷ xs) q h = by (path_cmp q x) refl (placed-rises xs q h.1)
  where
    by : (o : Ordering) → path_cmp q x ≡ o → IsStrictlySortedBy path_cmp (insert_key path_cmp xs q) → IsStrictlySortedBy path_cmp (match_ordering o (q ∷ x ∷ xs) (x ∷ xs) (x ∷ insert_key path_cmp xs q))
    by Less e rest = ((e, lower q x xs e h.0), h)
    by Equal e rest = h
    by Greater e rest = (above_placed x q xs (turned_round q x e) h.0, rest)
