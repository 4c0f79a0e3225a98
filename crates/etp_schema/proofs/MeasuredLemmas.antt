-- The measure of the parts, added up, is that of the whole.
use Rattle.std.proofs.Common.{◌≡◌, ◌∙◌, ◌+◌, ◌*◌, ◌/◌, ◌^◌, ◌<◌, ◌≤◌, ◌++◌, ℕ, zero, suc, pos, min, length, refl, sym, ap, arith}
use Rattle.std.proofs.lemmas.Bool.{le-ltb}
use Rattle.std.proofs.lemmas.List.{length-append}
use Rattle.avro_bin.specs.Number.{plain_number, shortest}
use Rattle.avro_bin.specs.Plain.{plain, plain_all, plain_named, plain_block, plain_blob}
use Rattle.avro_bin.proofs.PlainLemmas.{block_size, no_block_size}
use Rattle.avro_bin.specs.Value.{Value, Values, VNull, VBoolean, VInt, VLong, VFloat, VDouble, VBytes, VText, VFixed, VEnum, VArray, VMap, VUnion, VFields, Entries, none, more, none_named, more_named, list, pairs, nodes, nodes_in, nodes_named}
use Rattle.etp_schema.specs.declared.measure.Measure.{Measure}
use Rattle.etp_schema.specs.Measure.{most, adds, takes, measured, measured_behind, measured_named, size_of}

abbrev both : ℕ → ℕ → Measure
both bytes nodes = record { bytes = min bytes most; nodes = min nodes most }

capped_sum : (a b m : ℕ) → min (min a m + min b m) m ≡ min (a + b) m
capped_sum a b m = omega arith

adds_both : (a n b k : ℕ) → adds (both a n) (both b k) ≡ both (a + b) (n + k)
adds_both a n b k = λ i. record { bytes = capped_sum a b most i; nodes = capped_sum n k most i }

both_same : (a n b k : ℕ) → a ≡ b → n ≡ k → both a n ≡ both b k
both_same a n b k x y = λ i. both (x i) (y i)

mutual
  pub measured_is : (v : Value) → measured v ≡ size_of v
  measured_is VNull = refl
  measured_is (VBoolean b) = refl
  measured_is (VInt x) = refl
  measured_is (VLong x) = refl
  measured_is (VFloat n) = refl
  measured_is (VDouble n) = refl
  measured_is (VBytes b) = refl
  measured_is (VText b) = refl
  measured_is (VFixed b) = refl
  measured_is (VEnum p) = refl
  measured_is (VArray none) = sym (both_same (length (plain_block 0 (plain_all none))) 1 1 1 (no_block_size 0 (plain_all none) refl) refl)
  measured_is (VArray (more v vs)) =
      let k : ℕ = suc (length (list vs)) in
      let items = plain_all (more v vs) in
      behind_is (length (plain_number (pos k)) + 1) 1 (more v vs)
      ∙ both_same (length (plain_number (pos k)) + 1 + length items) (1 + nodes_in (more v vs)) (length (plain_block k items)) (suc (nodes_in (more v vs))) (omega (arith, block_size k items (omega arith))) (omega arith)
  measured_is (VMap none_named) = sym (both_same (length (plain_block 0 (plain_named none_named))) 1 1 1 (no_block_size 0 (plain_named none_named) refl) refl)
  measured_is (VMap (more_named n v es)) =
      let k : ℕ = suc (length (pairs es)) in
      let items = plain_named (more_named n v es) in
      named_is (length (plain_number (pos k)) + 1) 1 (more_named n v es)
      ∙ both_same (length (plain_number (pos k)) + 1 + length items) (1 + nodes_named (more_named n v es)) (length (plain_block k items)) (suc (nodes_named (more_named n v es))) (omega (arith, block_size k items (omega arith))) (omega arith)
  measured_is (VUnion p v) =
      ap (adds (takes (length (plain_number (pos p))) 1)) (measured_is v)
      ∙ adds_both (length (plain_number (pos p))) 1 (length (plain v)) (nodes v)
      ∙ both_same (length (plain_number (pos p)) + length (plain v)) (1 + nodes v) (length (plain_number (pos p) ++ plain v)) (suc (nodes v)) (sym (length-append (plain_number (pos p)) (plain v))) (omega arith)
  measured_is (VFields vs) =
      behind_is 0 1 vs ∙ both_same (0 + length (plain_all vs)) (1 + nodes_in vs) (length (plain_all vs)) (suc (nodes_in vs)) (omega arith) (omega arith)

  behind_is : (a n : ℕ) (vs : Values) → measured_behind (both a n) vs ≡ both (a + length (plain_all vs)) (n + nodes_in vs)
  behind_is a n none = both_same a n (a + 0) (n + 0) (omega arith) (omega arith)
  behind_is a n (more v vs) =
      ap (λ (m : Measure). measured_behind (adds (both a n) m) vs) (measured_is v)
      ∙ ap (λ (m : Measure). measured_behind m vs) (adds_both a n (length (plain v)) (nodes v))
      ∙ behind_is (a + length (plain v)) (n + nodes v) vs
      ∙ both_same (a + length (plain v) + length (plain_all vs)) (n + nodes v + nodes_in vs) (a + length (plain v ++ plain_all vs)) (n + (nodes v + nodes_in vs)) (omega (arith, length-append (plain v) (plain_all vs))) (omega arith)

  named_is : (a n : ℕ) (es : Entries) → measured_named (both a n) es ≡ both (a + length (plain_named es)) (n + nodes_named es)
  named_is a n none_named = both_same a n (a + 0) (n + 0) (omega arith) (omega arith)
  named_is a n (more_named k v es) =
      let t = plain_blob k in
      ap (λ (m : Measure). measured_named (adds (adds (both a n) (takes (length t) 0)) m) es) (measured_is v)
      ∙ ap (λ (m : Measure). measured_named (adds m (both (length (plain v)) (nodes v))) es) (adds_both a n (length t) 0)
      ∙ ap (λ (m : Measure). measured_named m es) (adds_both (a + length t) (n + 0) (length (plain v)) (nodes v))
      ∙ named_is (a + length t + length (plain v)) (n + 0 + nodes v) es
      ∙ both_same (a + length t + length (plain v) + length (plain_named es)) (n + 0 + nodes v + nodes_named es) (a + length (t ++ plain v ++ plain_named es)) (n + (nodes v + nodes_named es)) (omega (arith, length-append (t ++ plain v) (plain_named es), length-append t (plain v))) (omega arith)

-- the least number of more than k groups
abbrev least : ℕ → ℕ
least zero = 1
least (suc k) = 128 * least k

least_some : (k : ℕ) → 0 < least k
least_some zero = omega arith
least_some (suc k) = omega (arith, least_some k)

many_groups : (k z : ℕ) → least k ≤ z → length (shortest k z) ≡ suc k
many_groups zero z h = refl
many_groups (suc k) z h =
    let le : 128 ≤ z = omega (arith, least_some k) in
    rw (le-ltb z 128 le) (ap suc (many_groups k (z / 128) (omega arith)))

-- a count of more than 63 bits has ten groups
pub longest : (n : ℕ) → 2 ^ 63 ≤ n → length (plain_number (pos n)) ≡ 10
unfolding plain_number
longest n h = many_groups 9 (2 * n) (omega arith)
