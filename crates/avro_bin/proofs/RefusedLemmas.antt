-- What fails is refused in the same way.
use Rattle.std.proofs.Common.{◌≡◌, ℕ, zero, suc, ◌+◌, ◌<◌, Bool, true, false, List, [], ◌∷◌, ◌++◌, Ok, Err, eqb, length, refl, sym, ap, ◌∙◌, arith, ◌⊎◌, inl, inr, ℤ, pos, negsuc}
use Rattle.std.proofs.lemmas.Bool.{le-ltb, lt-ltb, eqb-true}
use Rattle.std.proofs.lemmas.List.{length-append}
use Rattle.std.specs.Int.{Width, byte_len, w32, w64}
use Rattle.avro_bin.proofs.FailedLemmas.{bad}
use Rattle.avro_bin.specs.declared.fault.Why.{Why}
use Rattle.avro_bin.specs.declared.fault.Why.TheVariants as why
use Rattle.avro_bin.specs.Number.{Number}
use Rattle.avro_bin.specs.Schema.{Schema, Schemas, SNull, SBoolean, SInt, SLong, SFloat, SDouble, SBytes, SText, SFixed, SEnum, SArray, SMap, SUnion, SFields, none, more}
use Rattle.avro_bin.specs.Grammar.{EntrySpelled, Spells}
use Rattle.avro_bin.specs.Steps.{Push, Put}
use Rattle.avro_bin.specs.Reading.{Read, Got, Row, boolean_at, bytes_at, of_length, blob_at, text_at, fixed_number_at, element_at, entry_at, items_at, sized, block_at, blocks_at, number_at, int_at, fits_32, place_at, below, places, count, value_at, fields_at, branch_at}
use Rattle.avro_bin.specs.Failing.{Then, Refused, BadNumber, BadLength, BadBlob, BadText, BadBoolean, TooShort, NoPlace, BadPlace, EntryFails, ItemsFail, SizedFails, BlockFails, BlocksFail, Fails, FieldsFail, BranchFails}
use Rattle.avro_bin.proofs.NumberFaultLemmas.{fail_groups}
use Rattle.avro_bin.proofs.FoundLemmas.{number_again, zero_or_some}
use Rattle.avro_bin.proofs.AgainLemmas.{regroup, blob_again, text_again, place_again, ReadsOn, element_again, entry_again, items_again, block_counted, block_long, value_again}

same_err : {A : Type 0} (v w : Why) (len left : ℕ) → w ≡ v → left ≡ len → bad {A = A} (v, len) ≡ bad (w, left)
same_err {A} v w len left p q = ap (λ (x : Why). bad {A = A} (x, len)) (sym p) ∙ ap (λ (n : ℕ). bad {A = A} (w, n)) (sym q)

not_same : (a b : ℕ) → (a ≡ b → ⊥) → (c : Bool) → eqb a b ≡ c → c ≡ false
not_same a b ne true e = absurd (ne (eqb-true a b e))
not_same a b ne false e = refl

number_refused : (bytes : List ℕ) (w : Why) (left : ℕ) → BadNumber bytes w left → number_at bytes ≡ Err (w, left)
unfolding number_at
number_refused bytes w left h = rw (fail_groups 9 bytes w h.0) (same_err w w (length bytes) left refl h.1)

number_then : (Q : ℤ → List ℕ → Type 0) (bytes : List ℕ) (t : Then Number Q bytes) → number_at bytes ≡ Ok (t.value, t.rest)
number_then Q bytes t = ap number_at t.parts ∙ number_again t.value t.text t.rest t.spelled

int_refused : (bytes : List ℕ) (w : Why) (left : ℕ) → BadNumber bytes w left ⊎ (Then Number (λ x rest. fits_32 x ≡ false) bytes × Refused why.Range w bytes left) → int_at bytes ≡ Err (w, left)
unfolding int_at
int_refused bytes w left (inl b) = rw (number_refused bytes w left b) refl
int_refused bytes w left (inr p) = rw (number_then _ bytes p.0, p.0.behind) (same_err why.Range w (length bytes) left p.1.0 p.1.1)

boolean_refused : (bytes : List ℕ) (w : Why) (left : ℕ) → BadBoolean bytes w left → boolean_at bytes ≡ Err (w, left)
unfolding boolean_at
boolean_refused [] w left h = same_err why.Short w 0 left h.0 h.1
boolean_refused (zero ∷ bytes) w left h = absurd (omega (arith, h.0))
boolean_refused (suc zero ∷ bytes) w left h = absurd (omega (arith, h.0))
boolean_refused (suc (suc b) ∷ bytes) w left h = same_err why.Bool w (suc (length bytes)) left h.1.0 h.1.1

bytes_refused : (outer size : ℕ) (bytes : List ℕ) (w : Why) (left : ℕ) → length bytes < size → w ≡ why.Short → left ≡ outer → bytes_at outer size bytes ≡ Err (w, left)
unfolding bytes_at
bytes_refused outer size bytes w left lt p q = rw (lt-ltb (length bytes) size lt) (same_err why.Short w outer left p q)

fixed_refused : (d : Width) (bytes : List ℕ) (w : Why) (left : ℕ) → TooShort (byte_len d) bytes w left → fixed_number_at d bytes ≡ Err (w, left)
unfolding fixed_number_at
fixed_refused d bytes w left h = rw (lt-ltb (length bytes) (byte_len d) h.0) (same_err why.Short w (length bytes) left h.1.0 h.1.1)

length_refused : (outer : ℕ) (z : ℤ) (rest : List ℕ) (w : Why) (left : ℕ) → BadLength z rest w → left ≡ outer → of_length outer z rest ≡ Err (w, left)
length_refused outer (pos size) rest w left h q = bytes_refused outer size rest w left h.0 h.1 q
length_refused outer (negsuc n) rest w left h q = same_err why.Length w outer left h q

blob_refused : (bytes : List ℕ) (w : Why) (left : ℕ) → BadBlob bytes w left → blob_at bytes ≡ Err (w, left)
unfolding blob_at
blob_refused bytes w left (inl b) = rw (number_refused bytes w left b) refl
blob_refused bytes w left (inr p) = rw (number_then _ bytes p.0) (length_refused (length bytes) p.0.value p.0.rest w left p.0.behind p.1)

text_refused : (bytes : List ℕ) (w : Why) (left : ℕ) → BadText bytes w left → text_at bytes ≡ Err (w, left)
unfolding text_at
text_refused bytes w left (inl b) = rw (blob_refused bytes w left b) refl
text_refused bytes w left (inr p) =
    let t = p.0 in
    let blob : blob_at bytes ≡ Ok (t.value, t.rest) = ap blob_at t.parts ∙ blob_again t.value t.text t.rest t.spelled in
    rw (blob, t.behind) (same_err why.Utf8 w (length bytes) left p.1.0 p.1.1)

below_refused : (outer k : ℕ) (z : ℤ) (bytes : List ℕ) (w : Why) (left : ℕ) → NoPlace k z → w ≡ why.Branch → left ≡ outer → below outer k z bytes ≡ Err (w, left)
below_refused outer k (negsuc n) bytes w left h p q = same_err why.Branch w outer left p q
below_refused outer k (pos n) bytes w left h p q = rw (le-ltb n k h) (same_err why.Branch w outer left p q)

place_refused : (k : ℕ) (bytes : List ℕ) (w : Why) (left : ℕ) → BadPlace k bytes w left → place_at k bytes ≡ Err (w, left)
unfolding place_at
place_refused k bytes w left (inl b) = rw (number_refused bytes w left b) refl
place_refused k bytes w left (inr p) = rw (number_then _ bytes p.0) (below_refused (length bytes) (places k) p.0.value p.0.rest w left p.0.behind p.1.0 p.1.1)

abbrev pub IsRefused : {S : Type 0} → (S → List ℕ → Read S) → (S → List ℕ → Why → ℕ → Type 0) → Type 0
IsRefused {S} item F = (s : S) (bytes : List ℕ) (w : Why) (left : ℕ) → F s bytes w left → item s bytes ≡ Err (w, left)

abbrev pub IsRefusedValue : (ℕ → List ℕ → Read Got) → (ℕ → List ℕ → Why → ℕ → Type 0) → Type 0
IsRefusedValue value F = (n : ℕ) (bytes : List ℕ) (w : Why) (left : ℕ) → F n bytes w left → value n bytes ≡ Err (w, left)

element_refused : (value : ℕ → List ℕ → Read Got) (F : ℕ → List ℕ → Why → ℕ → Type 0) → IsRefusedValue value F → IsRefused (element_at value) (λ s. F s.1)
unfolding element_at
element_refused value F one s bytes w left h = rw (one s.1 bytes w left h) refl

entry_refused : (value : ℕ → List ℕ → Read Got) (F : ℕ → List ℕ → Why → ℕ → Type 0) → IsRefusedValue value F → IsRefused (entry_at value) (EntryFails F)
unfolding entry_at
entry_refused value F one s bytes w left (inl b) = rw (text_refused bytes w left b) refl
entry_refused value F one s bytes w left (inr t) =
    let name : text_at bytes ≡ Ok (t.value, t.rest) = ap text_at t.parts ∙ text_again t.value t.text t.rest t.spelled.0 t.spelled.1 in
    elim t.behind [
      | inl d ↦ rw (name, d.0) (same_err why.DoubleKey w (length bytes) left d.1.0 d.1.1)
      | inr f ↦ rw (name, f.0, one s.1 t.rest w left f.1) refl
    ]

module _ {S A : Type 0} (item : S → List ℕ → Read S) (F : S → List ℕ → Why → ℕ → Type 0) (P : A → List ℕ → Type 0) (Step : S → A → S → Type 0) (refused : IsRefused item F) (reads : ReadsOn item P Step) where
  items_refused : (k : ℕ) (s : S) (bytes : List ℕ) (w : Why) (left : ℕ) → ItemsFail F P Step k s bytes w left → items_at item k s bytes ≡ Err (w, left)
  unfolding items_at
  items_refused zero s bytes w left h = absurd h
  items_refused (suc k) s bytes w left (inl f) = rw (refused s bytes w left f) refl
  items_refused (suc k) s bytes w left (inr l) =
      let one : item s bytes ≡ Ok (l.next, l.rest) = ap (item s) l.parts ∙ reads l.item s l.next l.text l.rest l.step l.spelled in
      rw one (items_refused k l.next l.rest w left l.behind)

  sized_refused : (k : ℕ) (s : S) (outer : List ℕ) (z : ℤ) (bytes : List ℕ) (w : Why) (left : ℕ) → SizedFails F P Step k s outer z bytes w left → sized (length outer) z (length bytes) (items_at item k s bytes) ≡ Err (w, left)
  sized_refused k s outer (negsuc n) bytes w left h = same_err why.Length w (length outer) left h.0 h.1
  sized_refused k s outer (pos size) bytes w left (inl f) = rw (items_refused k s bytes w left f) refl
  sized_refused k s outer (pos size) bytes w left (inr p) =
      let l = p.0 in
      let some : items_at item k s bytes ≡ Ok (l.next, l.rest) = ap (items_at item k s) l.parts ∙ ap (λ (j : ℕ). items_at item j s (l.text ++ l.rest)) (sym l.spelled.1) ∙ items_again item P Step reads l.item s l.next l.text l.rest l.step l.spelled.0 in
      let other : eqb (length l.rest + size) (length bytes) ≡ false = not_same (length l.rest + size) (length bytes) l.behind _ refl in
      rw (some, other) (same_err why.BlockSize w (length outer) left p.1.0 p.1.1)

  block_refused : (s : S) (z : ℤ) (bytes : List ℕ) (w : Why) (left : ℕ) → BlockFails F P Step s z bytes w left → block_at item s z bytes ≡ Err (w, left)
  block_refused s (pos k) bytes w left h = items_refused k s bytes w left h
  block_refused s (negsuc k) bytes w left (inl b) = rw (number_refused bytes w left b) refl
  block_refused s (negsuc k) bytes w left (inr t) = rw (number_then _ bytes t) (sized_refused (suc k) s bytes t.value t.rest w left t.behind)

  blocks_refused : (k bound : ℕ) (s : S) (bytes : List ℕ) (w : Why) (left : ℕ) → length bytes < bound → BlocksFail F P Step k s bytes w left → blocks_at item bound s bytes ≡ Err (w, left)
  unfolding blocks_at
  blocks_refused k zero s bytes w left lt h = absurd (omega arith)
  blocks_refused zero (suc bound) s bytes w left lt (inl b) = rw (number_refused bytes w left b) refl
  blocks_refused zero (suc bound) s bytes w left lt (inr t) =
      rw (number_then _ bytes t) (elim (zero_or_some item (blocks_at item bound) s t.value t.rest) [
        | inl z ↦ absurd (t.behind.0 z.0)
        | inr z ↦ z.1 ∙ rw (block_refused s t.value t.rest w left t.behind.1) refl
      ])
  blocks_refused (suc k) (suc bound) s bytes w left lt l =
      let c = block_counted item P Step reads l.item l.text l.spelled in
      let count : number_at bytes ≡ Ok (c.z, c.back ++ l.rest) = ap number_at (l.parts ∙ regroup l.text c.count c.back l.rest c.parts) ∙ number_again c.z c.count (c.back ++ l.rest) c.number in
      let shorter : length l.rest < bound = omega (arith, block_long P l.item l.text l.spelled, ap length l.parts, length-append l.text l.rest) in
      rw count (elim (zero_or_some item (blocks_at item bound) s c.z (c.back ++ l.rest)) [
        | inl z ↦ absurd (c.some z.0)
        | inr z ↦ z.1 ∙ rw (c.read s l.next l.rest l.step) (blocks_refused k bound l.next l.rest w left shorter l.behind)
      ])

mutual
  unfolding value_at

  pub value_refused : (s : Schema) (n : ℕ) (bytes : List ℕ) (w : Why) (left : ℕ) → Fails s n bytes w left → value_at s n bytes ≡ Err (w, left)
  value_refused s zero bytes w left h = same_err why.Limit w (length bytes) left h.0 h.1
  value_refused SNull (suc n) bytes w left h = absurd h
  value_refused SBoolean (suc n) bytes w left h = rw (boolean_refused bytes w left h) refl
  value_refused SInt (suc n) bytes w left h = rw (int_refused bytes w left h) refl
  value_refused SLong (suc n) bytes w left h = rw (number_refused bytes w left h) refl
  value_refused SFloat (suc n) bytes w left h = rw (fixed_refused w32 bytes w left h) refl
  value_refused SDouble (suc n) bytes w left h = rw (fixed_refused w64 bytes w left h) refl
  value_refused SBytes (suc n) bytes w left h = rw (blob_refused bytes w left h) refl
  value_refused SText (suc n) bytes w left h = rw (text_refused bytes w left h) refl
  value_refused (SFixed size) (suc n) bytes w left h = rw (bytes_refused (length bytes) size bytes w left h.0 h.1.0 h.1.1) refl
  value_refused (SEnum k) (suc n) bytes w left h = rw (place_refused k bytes w left h) refl
  value_refused (SArray s) (suc n) bytes w left h =
      rw (blocks_refused (element_at (value_at s)) (λ r. Fails s r.1) (Spells s) Push (element_refused (value_at s) (Fails s) (λ m b v l f. value_refused s m b v l f)) (element_again (value_at s) (Spells s) (value_again s)) h.0 (suc (length bytes)) ([], n) bytes w left (omega arith) h.1) refl
  value_refused (SMap s) (suc n) bytes w left h =
      rw (blocks_refused (entry_at (value_at s)) (EntryFails (Fails s)) (EntrySpelled (Spells s)) Put (entry_refused (value_at s) (Fails s) (λ m b v l f. value_refused s m b v l f)) (entry_again (value_at s) (Spells s) (value_again s)) h.0 (suc (length bytes)) ([], n) bytes w left (omega arith) h.1) refl
  value_refused (SUnion ss) (suc n) bytes w left (inl b) = rw (place_refused (count ss) bytes w left b) refl
  value_refused (SUnion ss) (suc n) bytes w left (inr t) =
      let place : place_at (count ss) bytes ≡ Ok (t.value, t.rest) = ap (place_at (count ss)) t.parts ∙ place_again t.value (count ss) t.text t.rest t.spelled in
      rw (place, branch_refused ss t.value n t.rest w left t.behind) refl
  value_refused (SFields ss) (suc n) bytes w left h = rw (fields_refused ss ([], n) bytes w left h) refl

  pub fields_refused : (ss : Schemas) (r : Row) (bytes : List ℕ) (w : Why) (left : ℕ) → FieldsFail ss r.1 bytes w left → fields_at ss r bytes ≡ Err (w, left)
  fields_refused none r bytes w left h = absurd h
  fields_refused (more c cs) r bytes w left (inl f) = rw (element_refused (value_at c) (Fails c) (λ m b v l f. value_refused c m b v l f) r bytes w left f) refl
  fields_refused (more c cs) r bytes w left (inr t) =
      let next : Row = (r.0 ++ t.value ∷ [], t.behind.0) in
      let one : element_at (value_at c) r bytes ≡ Ok (next, t.rest) = ap (element_at (value_at c) r) t.parts ∙ element_again (value_at c) (Spells c) (value_again c) t.value r next t.text t.rest (refl, t.behind.1) t.spelled in
      rw one (fields_refused cs next t.rest w left t.behind.2)

  pub branch_refused : (ss : Schemas) (p n : ℕ) (bytes : List ℕ) (w : Why) (left : ℕ) → BranchFails ss p n bytes w left → branch_at ss p n bytes ≡ Err (w, left)
  branch_refused none p n bytes w left h = absurd h
  branch_refused (more s ss) zero n bytes w left h = value_refused s n bytes w left h
  branch_refused (more s ss) (suc p) n bytes w left h = branch_refused ss p n bytes w left h
