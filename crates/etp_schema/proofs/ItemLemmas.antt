-- Reading and writing item by item, as loops do.
use Rattle.std.proofs.Common.{◌≡◌, ◌∙◌, ◌<◌, ◌-◌, ◌^◌, ◌+◌, ◌==◌, ℕ, ℤ, true, false, suc, pos, negsuc, ◌++◌, List, [], ◌∷◌, map, length, Some, Ok, Err, inr, refl, sym, ap, arith, append_assoc}
use Rattle.std.proofs.lemmas.Bool.{leb-false, true≢false}
use Rattle.std.specs.Prelude.{unsigned_abs}
use Rattle.std.specs.Int.Signed.{le_z, lt_z}
use Rattle.std.specs.Ordering.{nat_cmp}
use Rattle.std.specs.Cmp.Lexicographic.{slice_cmp}
use Rattle.std.specs.List.Sorted.{IsStrictlySortedBy}
use Rattle.std.specs.Map.{keys_of}
use Rattle.etp_values.specs.Entries.{on_value}
use Rattle.avro_bin.specs.declared.fault.Fault.{Fault}
use Rattle.avro_bin.specs.Number.{plain_number}
use Rattle.avro_bin.specs.Plain.{plain, plain_all, plain_named, plain_block}
use Rattle.avro_bin.specs.Shape.{FitsTree, AllFit, AllNamedFit}
use Rattle.avro_bin.specs.Value.{row, list, entries, pairs}
use Rattle.avro_bin.specs.Reading.{Read, ◌>>=◌, Fails, block_at, blocks_at, items_at, number_at, place_at, sized}
use Rattle.avro_bin.specs.declared.fault.Why.TheVariants as why
use Rattle.avro_bin.specs.Along.{along, seen, push_at}
use Rattle.avro_bin.proofs.AlongLemmas.{along_twice}
use Rattle.avro_bin.proofs.PassingLemmas.{Fails-along}
use Rattle.avro_bin.proofs.PlainLemmas.{block_some}
use Rattle.avro_bin.proofs.StepLemmas.{blocks_more, blocks_stop, place_below}
use Rattle.etp_schema.specs.Form.{Form, Holds, list_form, named_form, option_form, option_whole, null_form, last, or_at}
use Rattle.etp_schema.specs.Measure.{counts, measured, measured_behind, measured_named}

module _ {A : Type 0} (value : ℕ → List ℕ → Read (A × ℕ)) (vs : List A) (n : ℕ) (bytes : List ℕ) where
  pub push_is : (x : (A × ℕ) × List ℕ) → value n bytes ≡ Ok x → push_at value (vs, n) bytes ≡ Ok ((vs ++ x.0.0 ∷ [], x.0.1), x.1)
  unfolding push_at
  push_is x h = rw h refl

  pub push_fails : (e : Fault) → Fails e (value n bytes) → Fails e (push_at value (vs, n) bytes)
  unfolding push_at
  push_fails e h = Fails-along e (λ x. (vs ++ x.0 ∷ [], x.1)) (value n bytes) h

-- ---- blocks that state their size

-- a negative count, and a size that is not one
block_sized : {S : Type 0} (item : S → List ℕ → Read S) (s : S) (z size : ℤ) (k : ℕ) (bytes after : List ℕ) (r : Read S)
    → le_z (pos 0) z ≡ false → lt_z size (pos 0) ≡ false → k ≡ unsigned_abs z → number_at bytes ≡ Ok (size, after) → items_at item k s after ≡ r
    → block_at item s z bytes ≡ sized (length bytes) (pos (unsigned_abs size)) (length after) r
block_sized item s (pos j) size k bytes after r below some all read items = absurd (omega (arith, leb-false 0 j below))
block_sized item s (negsuc j) (negsuc n) k bytes after r below some all read items = absurd (true≢false some)
block_sized item s (negsuc j) (pos n) k bytes after r below some all read items =
    let at : items_at item (suc j) s after ≡ r = ap (λ (i : ℕ). items_at item i s after) (sym all) ∙ items in
    rw (read, at) refl

module _ {S : Type 0} (item : S → List ℕ → Read S) (s : S) (z size : ℤ) (k : ℕ) (bytes after : List ℕ) (x : S × List ℕ) (below : le_z (pos 0) z ≡ false) (some : lt_z size (pos 0) ≡ false) (all : k ≡ unsigned_abs z) (read : number_at bytes ≡ Ok (size, after)) (items : items_at item k s after ≡ Ok x) where
  pub block_filled : true ≡ (length x.1 + unsigned_abs size == length after) → block_at item s z bytes ≡ Ok x
  block_filled full = block_sized item s z size k bytes after (Ok x) below some all read items ∙ rw (sym full) refl

  pub block_not_filled : false ≡ (length x.1 + unsigned_abs size == length after) → block_at item s z bytes ≡ Err (why.BlockSize, length bytes)
  block_not_filled full = block_sized item s z size k bytes after (Ok x) below some all read items ∙ rw (sym full) refl

-- ---- lists

-- a block of one item and the end
pub single_is : {A : Type 0} (value : ℕ → List ℕ → Read (A × ℕ)) (n m k : ℕ) (bytes front behind rest : List ℕ) (x : A) → (length bytes ≡ 0 → ⊥)
    → number_at bytes ≡ Ok (pos 1, front) → m ≡ n → value m front ≡ Ok ((x, k), behind) → number_at behind ≡ Ok (pos 0, rest)
    → blocks_at (push_at value) (suc (length bytes)) ([], n) bytes ≡ Ok ((x ∷ [], k), rest)
unfolding items_at
single_is {A} value n m k bytes front behind rest x some one same item end =
    let at : value n front ≡ Ok ((x, k), behind) = ap (λ (j : ℕ). value j front) (sym same) ∙ item in
    let block : block_at (push_at value) ([], n) (pos 1) front ≡ Ok ((x ∷ [], k), behind) = rw (push_is value [] n front ((x, k), behind) at) refl in
    let all : Read (List A × ℕ) = blocks_at (push_at value) (suc (length bytes)) ([], n) bytes in
    let whole : suc (length bytes) - 0 ≡ suc (length bytes) = omega arith in
    let more = blocks_more (push_at value) (length bytes) 0 ([], n) bytes (pos 1) front ((x ∷ [], k), behind) all (omega arith) one (λ h. cc h) block (ap (λ (j : ℕ). blocks_at (push_at value) j ([], n) bytes) whole) in
    blocks_stop (push_at value) (length bytes) 1 (x ∷ [], k) behind (pos 0) rest all (omega (arith, some)) end refl more

count_items : {A : Type 0} (f : Form A) (xs : List A) → length (list (row (map f.as_value xs))) ≡ length xs
count_items f [] = refl
count_items f (x ∷ xs) = ap suc (count_items f xs)

-- a value of no items, and of some
module _ {A : Type 0} (f : Form A) where
  pub no_items : (xs : List A) → length xs ≡ 0 → plain ((list_form f).as_value xs) ≡ plain_number (pos 0)
  no_items [] h = refl
  no_items (x ∷ xs) h = absurd (omega arith)

  pub empty_holds : (xs : List A) → length xs ≡ 0 → Holds (list_form f) xs
  unfolding Holds
  empty_holds [] h = tt
  empty_holds (x ∷ xs) h = absurd (omega arith)

  pub empty_fits : (xs : List A) → length xs ≡ 0 → FitsTree ((list_form f).as_value xs)
  empty_fits [] h = (omega arith, tt)
  empty_fits (x ∷ xs) h = absurd (omega arith)

  pub items_written : (xs : List A) (old a b c : List ℕ) → (length xs ≡ 0 → ⊥) → a ≡ old ++ plain_number (pos (length xs)) → b ≡ a ++ plain_all (row (map f.as_value xs)) → c ≡ b ++ plain_number (pos 0) → c ≡ old ++ plain ((list_form f).as_value xs)
  items_written xs old a b c some front back end =
      let items = plain_all (row (map f.as_value xs)) in
      let block : plain ((list_form f).as_value xs) ≡ plain_number (pos (length xs)) ++ items ++ plain_number (pos 0) = ap (λ (k : ℕ). plain_block k items) (count_items f xs) ∙ block_some (length xs) items (omega (arith, some)) in
      rw (end, back, front, block) (simp append_assoc)

  pub list_fits : (xs : List A) → length xs < 2 ^ 63 → AllFit (row (map f.as_value xs)) → FitsTree ((list_form f).as_value xs)
  list_fits xs small all = (rw (count_items f xs) small, all)

  pub items_measured : (xs : List A) → measured_behind (counts (length xs)) (row (map f.as_value xs)) ≡ measured ((list_form f).as_value xs)
  items_measured xs = ap (λ (k : ℕ). measured_behind (counts k) (row (map f.as_value xs))) (sym (count_items f xs))

-- ---- maps

count_entries : {A : Type 0} (f : Form A) (es : List (List ℕ × A)) → length (pairs (entries (map (on_value f.as_value) es))) ≡ length es
count_entries f [] = refl
count_entries f (e ∷ es) = ap suc (count_entries f es)

same_keys : {A : Type 0} (f : Form A) (es : List (List ℕ × A)) → keys_of (pairs (entries (map (on_value f.as_value) es))) ≡ keys_of es
same_keys f [] = refl
same_keys f (e ∷ es) = ap (λ (ks : List (List ℕ)). e.0 ∷ ks) (same_keys f es)

module _ {A : Type 0} (f : Form A) where
  pub no_entries : (es : List (List ℕ × A)) → length es ≡ 0 → plain ((named_form f).as_value es) ≡ plain_number (pos 0)
  no_entries [] h = refl
  no_entries (e ∷ es) h = absurd (omega arith)

  pub no_names_hold : (es : List (List ℕ × A)) → length es ≡ 0 → Holds (named_form f) es
  unfolding Holds
  no_names_hold [] h = tt
  no_names_hold (e ∷ es) h = absurd (omega arith)

  pub no_names_fit : (es : List (List ℕ × A)) → length es ≡ 0 → IsStrictlySortedBy (slice_cmp nat_cmp) (keys_of es) → FitsTree ((named_form f).as_value es)
  no_names_fit [] h sorted = (omega arith, sorted, tt)
  no_names_fit (e ∷ es) h sorted = absurd (omega arith)

  pub entries_written : (es : List (List ℕ × A)) (old a b c : List ℕ) → (length es ≡ 0 → ⊥) → a ≡ old ++ plain_number (pos (length es)) → b ≡ a ++ plain_named (entries (map (on_value f.as_value) es)) → c ≡ b ++ plain_number (pos 0) → c ≡ old ++ plain ((named_form f).as_value es)
  entries_written es old a b c some front back end =
      let items = plain_named (entries (map (on_value f.as_value) es)) in
      let block : plain ((named_form f).as_value es) ≡ plain_number (pos (length es)) ++ items ++ plain_number (pos 0) = ap (λ (k : ℕ). plain_block k items) (count_entries f es) ∙ block_some (length es) items (omega (arith, some)) in
      rw (end, back, front, block) (simp append_assoc)

  pub named_fits : (es : List (List ℕ × A)) → length es < 2 ^ 63 → IsStrictlySortedBy (slice_cmp nat_cmp) (keys_of es) → AllNamedFit (entries (map (on_value f.as_value) es)) → FitsTree ((named_form f).as_value es)
  named_fits es small sorted all = (rw (count_entries f es) small, rw (same_keys f es) sorted, all)

  pub entries_measured : (es : List (List ℕ × A)) → measured_named (counts (length es)) (entries (map (on_value f.as_value) es)) ≡ measured ((named_form f).as_value es)
  entries_measured es = ap (λ (k : ℕ). measured_named (counts k) (entries (map (on_value f.as_value) es))) (sym (count_entries f es))

-- ---- options

-- a branch that is not the first is the second
pub option_some : {A : Type 0} (f : Form A) (left n m place : ℕ) (bytes front after : List ℕ) → left ≡ suc n → front ≡ bytes → place_at 2 front ≡ Ok (place, after) → m ≡ n → (place ≡ 0 → ⊥) → (option_form f).at left bytes ≡ along (seen Some) (f.at m after)
option_some {A} f left n m place bytes front after begun same read kept some =
    let one : place ≡ 1 = omega (arith, place_below 2 front place after read, some) in
    let chosen : place_at 2 bytes ≡ Ok (1, after) = ap (place_at 2) (sym same) ∙ read ∙ ap (λ (p : ℕ). Ok (p, after)) one in
    ap (λ (k : ℕ). (option_form f).at k bytes) begun
    ∙ ap (λ (r : Read ℕ). r >>= λ p. along (seen option_whole) (or_at null_form (last f) p.0 n p.1)) chosen
    ∙ along_twice (seen option_whole) (seen inr) (f.at n after)
    ∙ ap (λ (k : ℕ). along (seen Some) (f.at k after)) (sym kept)
