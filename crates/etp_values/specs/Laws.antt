-- Laws on lists that the crates above depend on.
use Rattle.std.specs.Prelude.{ℕ, ◌≡◌, ◌≤◌, Bool, not, cond, List, [], ◌∷◌, ◌++◌, length, Some, None, filter, slice_get}
use Rattle.std.specs.Ordering.{nat_cmp}
use Rattle.std.specs.Cmp.Lexicographic.{slice_cmp}
use Rattle.std.specs.List.Sorted.{IsStrictlySortedBy}
use Rattle.std.specs.Map.{keys_of, lookup}
use Rattle.std.specs.Str.{bytes_eq}
use mathlib.Core.List.{IsPrefix}

-- a list is a prefix of itself, and of any longer one that it was made into
abbrev pub BeginsLonger : Type 0
BeginsLonger = (xs : List ℕ) (y : ℕ) → IsPrefix xs xs × IsPrefix xs (xs ++ y ∷ [])

-- a prefix of a prefix is a prefix of the whole, which is no shorter, and has the same items there
abbrev pub BeginsThrough : Type 0
BeginsThrough = (xs ys zs : List ℕ) → IsPrefix xs ys → IsPrefix ys zs → IsPrefix xs zs × (length xs ≤ length zs) × ((k x : ℕ) → slice_get xs k ≡ Some x → slice_get zs k ≡ Some x)

-- of two prefixes of one list the shorter is a prefix of the longer
abbrev pub BeginsInOrder : Type 0
BeginsInOrder = (xs ys zs : List ℕ) → IsPrefix xs zs → IsPrefix ys zs → length xs ≤ length ys → IsPrefix xs ys

-- values under names in order are the same if every name finds the same
abbrev pub FoundAlike : Type 0
FoundAlike = (xs ys : List (List ℕ × ℕ)) → IsStrictlySortedBy (slice_cmp nat_cmp) (keys_of xs) → IsStrictlySortedBy (slice_cmp nat_cmp) (keys_of ys)
    → ((name : List ℕ) → lookup (bytes_eq name) xs ≡ lookup (bytes_eq name) ys) → xs ≡ ys

-- after some names are taken out, those find nothing, and the others what they found before
abbrev pub FoundAfterRemoval : Type 0
FoundAfterRemoval = (goes : List ℕ → Bool) (name : List ℕ) (es : List (List ℕ × ℕ))
    → lookup (bytes_eq name) (filter (λ e. not (goes e.0)) es) ≡ cond (goes name) None (lookup (bytes_eq name) es)
