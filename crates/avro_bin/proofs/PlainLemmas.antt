-- How arrays and maps are written; for the crates above too.
use Rattle.std.proofs.Common.{◌≡◌, ◌∙◌, ◌+◌, ℕ, zero, suc, ◌<◌, ◌^◌, List, [], ◌∷◌, ◌++◌, length, map, refl, ap, arith, pos}
use Rattle.avro_bin.specs.Number.{plain_number}
use Rattle.std.proofs.lemmas.List.{length-append}
use Rattle.std.specs.Ordering.{nat_cmp}
use Rattle.std.specs.Cmp.Lexicographic.{slice_cmp}
use Rattle.std.specs.List.Sorted.{IsStrictlySortedBy}
use Rattle.std.specs.Map.{keys_of}
use Rattle.avro_bin.specs.Shape.{FitsTree, AllFit, AllNamedFit}
use Rattle.avro_bin.specs.Plain.{plain, plain_all, plain_named, plain_block}
use Rattle.avro_bin.specs.Value.{VArray, VMap, row, list, entries, pairs}
use Rattle.avro_bin.specs.View.{value_of, entry_of}
use Rattle.avro_bin.specs.declared.tree.Tree.{Tree}

count_trees : (ts : List Tree) → length (list (row (map value_of ts))) ≡ length ts
count_trees [] = refl
count_trees (t ∷ ts) = ap suc (count_trees ts)

pub plain_array : (ts : List Tree) → plain (VArray (row (map value_of ts))) ≡ plain_block (length ts) (plain_all (row (map value_of ts)))
plain_array ts = ap (λ (n : ℕ). plain_block n (plain_all (row (map value_of ts)))) (count_trees ts)

count_named : (es : List (List ℕ × Tree)) → length (pairs (entries (map entry_of es))) ≡ length es
count_named [] = refl
count_named (e ∷ es) = ap suc (count_named es)

pub plain_map : (es : List (List ℕ × Tree)) → plain (VMap (entries (map entry_of es))) ≡ plain_block (length es) (plain_named (entries (map entry_of es)))
plain_map es = ap (λ (n : ℕ). plain_block n (plain_named (entries (map entry_of es)))) (count_named es)

-- one block
pub block_some : (count : ℕ) (items : List ℕ) → 0 < count → plain_block count items ≡ plain_number (pos count) ++ items ++ plain_number (pos 0)
block_some zero items h = absurd (omega arith)
block_some (suc count) items h = refl

-- no block
pub block_none : (count : ℕ) (items : List ℕ) → count ≡ 0 → plain_block count items ≡ plain_number (pos 0)
block_none count items h = ap (λ (n : ℕ). plain_block n items) h

-- an array's value fits a tree
pub array_fits : (ts : List Tree) → length ts < 2 ^ 63 → AllFit (row (map value_of ts)) → FitsTree (VArray (row (map value_of ts)))
array_fits ts small h = (rw (count_trees ts) small, h)

keys_named : (es : List (List ℕ × Tree)) → keys_of (pairs (entries (map entry_of es))) ≡ keys_of es
keys_named [] = refl
keys_named (e ∷ es) = ap (λ (ks : List (List ℕ)). e.0 ∷ ks) (keys_named es)

-- a map's value fits a tree
pub map_fits : (es : List (List ℕ × Tree)) → length es < 2 ^ 63 → IsStrictlySortedBy (slice_cmp nat_cmp) (keys_of es) → AllNamedFit (entries (map entry_of es)) → FitsTree (VMap (entries (map entry_of es)))
map_fits es small sorted h = (rw (count_named es) small, rw (keys_named es) sorted, h)

-- how long a block is
pub block_size : (count : ℕ) (items : List ℕ) → 0 < count → length (plain_block count items) ≡ length (plain_number (pos count)) + length items + 1
unfolding plain_number
block_size zero items h = absurd (omega arith)
block_size (suc count) items h = length-append (plain_number (pos (suc count)) ++ items) (plain_number (pos 0)) ∙ ap (λ (n : ℕ). n + 1) (length-append (plain_number (pos (suc count))) items)

pub no_block_size : (count : ℕ) (items : List ℕ) → count ≡ 0 → length (plain_block count items) ≡ 1
unfolding plain_number
no_block_size count items h = ap (λ (n : ℕ). length (plain_block n items)) h
