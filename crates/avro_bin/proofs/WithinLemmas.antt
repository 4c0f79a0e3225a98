-- A fault is within the bytes.
use Rattle.std.proofs.Common.{◌≡◌, ℕ, zero, suc, ◌≤◌, List, [], ◌∷◌, ◌++◌, length, ap, arith, inl, inr, ℤ, pos, negsuc}
use Rattle.std.proofs.lemmas.List.{length-append}
use Rattle.avro_bin.specs.declared.fault.Why.{Why}
use Rattle.avro_bin.specs.Schema.{Schema, Schemas, SNull, SBoolean, SInt, SLong, SFloat, SDouble, SBytes, SText, SFixed, SEnum, SArray, SMap, SUnion, SFields, none, more}
use Rattle.avro_bin.specs.Grammar.{EntrySpelled, Spells}
use Rattle.avro_bin.specs.Steps.{Push, Put}
use Rattle.avro_bin.specs.Reading.{count}
use Rattle.avro_bin.specs.Failing.{BadBlob, BadText, BadBoolean, BadPlace, EntryFails, ItemsFail, SizedFails, BlockFails, BlocksFail, Fails, FieldsFail, BranchFails}

inside : (bytes text rest : List ℕ) (left : ℕ) → bytes ≡ text ++ rest → left ≤ length rest → left ≤ length bytes
inside bytes text rest left e h = omega (arith, ap length e, length-append text rest)

abbrev Lies : {S : Type 0} → (S → List ℕ → Why → ℕ → Type 0) → Type 0
Lies {S} F = (s : S) (bytes : List ℕ) (w : Why) (left : ℕ) → F s bytes w left → left ≤ length bytes

blob_within : (bytes : List ℕ) (w : Why) (left : ℕ) → BadBlob bytes w left → left ≤ length bytes
blob_within bytes w left (inl b) = omega (arith, b.1)
blob_within bytes w left (inr p) = omega (arith, p.1)

text_within : (bytes : List ℕ) (w : Why) (left : ℕ) → BadText bytes w left → left ≤ length bytes
text_within bytes w left (inl b) = blob_within bytes w left b
text_within bytes w left (inr p) = omega (arith, p.1.1)

place_within : (k : ℕ) (bytes : List ℕ) (w : Why) (left : ℕ) → BadPlace k bytes w left → left ≤ length bytes
place_within k bytes w left (inl b) = omega (arith, b.1)
place_within k bytes w left (inr p) = omega (arith, p.1.1)

boolean_within : (bytes : List ℕ) (w : Why) (left : ℕ) → BadBoolean bytes w left → left ≤ length bytes
boolean_within [] w left h = omega (arith, h.1)
boolean_within (b ∷ bytes) w left h = omega (arith, h.1.1)

entry_within : (F : ℕ → List ℕ → Why → ℕ → Type 0) → Lies F → Lies (EntryFails F)
entry_within F one s bytes w left (inl b) = text_within bytes w left b
entry_within F one s bytes w left (inr t) = elim t.behind [ inl d ↦ omega (arith, d.1.1) | inr f ↦ inside bytes t.text t.rest left t.parts (one s.1 t.rest w left f.1) ]

module _ {S A : Type 0} (F : S → List ℕ → Why → ℕ → Type 0) (P : A → List ℕ → Type 0) (Step : S → A → S → Type 0) (one : Lies F) where
  items_within : (k : ℕ) → Lies (ItemsFail F P Step k)
  items_within zero s bytes w left h = absurd h
  items_within (suc k) s bytes w left (inl f) = one s bytes w left f
  items_within (suc k) s bytes w left (inr l) = inside bytes l.text l.rest left l.parts (items_within k l.next l.rest w left l.behind)

  sized_within : (z : ℤ) (s : S) (bytes text rest : List ℕ) (w : Why) (left k : ℕ) → bytes ≡ text ++ rest → SizedFails F P Step (suc k) s bytes z rest w left → left ≤ length bytes
  sized_within (negsuc n) s bytes text rest w left k e h = omega (arith, h.1)
  sized_within (pos size) s bytes text rest w left k e (inl f) = inside bytes text rest left e (items_within (suc k) s rest w left f)
  sized_within (pos size) s bytes text rest w left k e (inr p) = omega (arith, p.1.1)

  block_within : (z : ℤ) (s : S) (bytes : List ℕ) (w : Why) (left : ℕ) → BlockFails F P Step s z bytes w left → left ≤ length bytes
  block_within (pos k) s bytes w left h = items_within k s bytes w left h
  block_within (negsuc k) s bytes w left (inl b) = omega (arith, b.1)
  block_within (negsuc k) s bytes w left (inr t) = sized_within t.value s bytes t.text t.rest w left k t.parts t.behind

  blocks_within : (k : ℕ) → Lies (BlocksFail F P Step k)
  blocks_within zero s bytes w left (inl b) = omega (arith, b.1)
  blocks_within zero s bytes w left (inr t) = inside bytes t.text t.rest left t.parts (block_within t.value s t.rest w left t.behind.1)
  blocks_within (suc k) s bytes w left l = inside bytes l.text l.rest left l.parts (blocks_within k l.next l.rest w left l.behind)

mutual
  pub fails_within : (s : Schema) → Lies (Fails s)
  fails_within s zero bytes w left h = omega (arith, h.1)
  fails_within SNull (suc n) bytes w left h = absurd h
  fails_within SBoolean (suc n) bytes w left h = boolean_within bytes w left h
  fails_within SInt (suc n) bytes w left (inl b) = omega (arith, b.1)
  fails_within SInt (suc n) bytes w left (inr p) = omega (arith, p.1.1)
  fails_within SLong (suc n) bytes w left h = omega (arith, h.1)
  fails_within SFloat (suc n) bytes w left h = omega (arith, h.1.1)
  fails_within SDouble (suc n) bytes w left h = omega (arith, h.1.1)
  fails_within SBytes (suc n) bytes w left h = blob_within bytes w left h
  fails_within SText (suc n) bytes w left h = text_within bytes w left h
  fails_within (SFixed size) (suc n) bytes w left h = omega (arith, h.1.1)
  fails_within (SEnum k) (suc n) bytes w left h = place_within k bytes w left h
  fails_within (SArray s) (suc n) bytes w left h = blocks_within (λ r. Fails s r.1) (Spells s) Push (λ r b v l f. fails_within s r.1 b v l f) h.0 ([], n) bytes w left h.1
  fails_within (SMap s) (suc n) bytes w left h = blocks_within (EntryFails (Fails s)) (EntrySpelled (Spells s)) Put (entry_within (Fails s) (λ m b v l f. fails_within s m b v l f)) h.0 ([], n) bytes w left h.1
  fails_within (SUnion ss) (suc n) bytes w left (inl b) = place_within (count ss) bytes w left b
  fails_within (SUnion ss) (suc n) bytes w left (inr t) = inside bytes t.text t.rest left t.parts (branch_within ss t.value n t.rest w left t.behind)
  fails_within (SFields ss) (suc n) bytes w left h = fields_within ss n bytes w left h

  fields_within : (ss : Schemas) → Lies (FieldsFail ss)
  fields_within none n bytes w left h = absurd h
  fields_within (more c cs) n bytes w left (inl f) = fails_within c n bytes w left f
  fields_within (more c cs) n bytes w left (inr t) = inside bytes t.text t.rest left t.parts (fields_within cs t.behind.0 t.rest w left t.behind.2)

  branch_within : (ss : Schemas) (p : ℕ) → Lies (BranchFails ss p)
  branch_within none p n bytes w left h = absurd h
  branch_within (more s ss) zero n bytes w left h = fails_within s n bytes w left h
  branch_within (more s ss) (suc p) n bytes w left h = branch_within ss p n bytes w left h
