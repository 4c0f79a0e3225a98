-- Values under names that look the same for every name: for this crate and those above it.
use Rattle.std.proofs.Common.{ℕ, ◌≡◌, List, [], ◌∷◌, Some, cond, refl, ap, sym, ◌∙◌}
use Rattle.std.specs.declared.cmp.Ordering.TheVariants.{Equal}
use Rattle.std.specs.Ordering.{nat_cmp, is_eq}
use Rattle.std.specs.Cmp.Lexicographic.{slice_cmp, nat_list_cmp_total, texts_ties}
use Rattle.std.specs.List.Sorted.{IsStrictlySortedBy}
use Rattle.std.specs.Map.{keys_of, lookup}
use Rattle.std.specs.Str.{bytes_eq}
use Rattle.std.proofs.lemmas.Slice.Eq.{bytes_eq-Decides}
use Rattle.etp_values.proofs.SameSortedLemmas.{same-sorted}

names_exact : (x y : List ℕ) → slice_cmp nat_cmp x y ≡ Equal → x ≡ y
names_exact x y tie = (bytes_eq-Decides x y).0 (texts_ties x y ∙ ap is_eq tie)

-- a look-up by the bytes of a name is one by the order of names
lookup-tied : {V : Type 0} (name : List ℕ) (es : List (List ℕ × V)) → lookup (λ k. is_eq (slice_cmp nat_cmp name k)) es ≡ lookup (bytes_eq name) es
lookup-tied name [] = refl
lookup-tied name (e ∷ es) = (λ j. cond (sym (texts_ties name e.0) j) (Some e.1) (lookup-tied name es j))

pub found_alike : {V : Type 0} (xs ys : List (List ℕ × V)) → IsStrictlySortedBy (slice_cmp nat_cmp) (keys_of xs) → IsStrictlySortedBy (slice_cmp nat_cmp) (keys_of ys)
    → ((name : List ℕ) → lookup (bytes_eq name) xs ≡ lookup (bytes_eq name) ys) → xs ≡ ys
found_alike xs ys s t alike =
    same-sorted (slice_cmp nat_cmp) nat_list_cmp_total names_exact xs ys s t (λ name. lookup-tied name xs ∙ alike name ∙ sym (lookup-tied name ys))
