-- What is spelled as a value of a schema is one of it; for the crates above too.
use Rattle.std.proofs.Common.{◌≡◌, ℕ, zero, suc, ◌<◌, List, [], ◌∷◌, length, get_or, refl, sym, subst, arith, inl, inr}
use Rattle.std.specs.List.{AllByRecursion, Contains}
use Rattle.std.specs.List.Sorted.{IsPermutation}
use Rattle.std.proofs.lemmas.List.Sorted.{IsPermutation-sym, Contains-permutation}
use Rattle.etp_values.proofs.EachLemmas.{all-append}
use Rattle.avro_bin.specs.Value.{Value, VNull, VBoolean, VInt, VLong, VFloat, VDouble, VBytes, VText, VFixed, VEnum, VArray, VMap, VUnion, VFields, list, pairs}
use Rattle.avro_bin.specs.Schema.{Schemas, SNull, SBoolean, SInt, SLong, SFloat, SDouble, SBytes, SText, SFixed, SEnum, SArray, SMap, SUnion, SFields, none, more}
use Rattle.avro_bin.specs.Grammar.{EntrySpelled, Items, Block, Blocks, Spells, AreFields, IsBranch}
use Rattle.avro_bin.specs.Shape.{HasSchema, FieldsHave, BranchHas}
use Rattle.avro_bin.specs.Laws.{SpelledHasSchema}

all_at : {A : Type 0} (H : A → Type 0) (xs : List A) (x : A) (k : ℕ) → AllByRecursion H xs → k < length xs → get_or xs k x ≡ x → H x
all_at H [] x k all lt h = absurd (omega arith)
all_at H (y ∷ xs) x zero all lt h = subst H h all.0
all_at H (y ∷ xs) x (suc k) all lt h = all_at H xs x k all.1 (omega arith) h

from_each : {A : Type 0} (H : A → Type 0) (xs : List A) → ((x : A) → Contains xs x → H x) → AllByRecursion H xs
from_each H [] each = tt
from_each H (x ∷ xs) each = (each x (0, omega arith, refl), from_each H xs (λ y c. each y (suc c.0, omega (arith, c.1), c.2)))

all_permuted : {A : Type 0} (H : A → Type 0) (xs ys : List A) → IsPermutation xs ys → AllByRecursion H xs → AllByRecursion H ys
all_permuted H xs ys p all = from_each H ys (λ x c. let d = Contains-permutation ys xs x (IsPermutation-sym xs ys p) c in all_at H xs x d.0 all d.1 d.2)

module _ {A : Type 0} (P : A → List ℕ → Type 0) (H : A → Type 0) (one : (x : A) (bytes : List ℕ) → P x bytes → H x) where
  items_typed : (xs : List A) (bytes : List ℕ) → Items P xs bytes → AllByRecursion H xs
  items_typed [] bytes h = tt
  items_typed (x ∷ xs) bytes h = (one x h.front h.first, items_typed xs h.back h.second)

  block_typed : (xs : List A) (bytes : List ℕ) → Block P xs bytes → AllByRecursion H xs
  block_typed [] bytes h = tt
  block_typed (x ∷ xs) bytes (inl h) = items_typed (x ∷ xs) h.back h.second
  block_typed (x ∷ xs) bytes (inr h) = items_typed (x ∷ xs) h.second.back h.second.inside

  blocks_typed : (k : ℕ) (xs : List A) (bytes : List ℕ) → Blocks P k xs bytes → AllByRecursion H xs
  blocks_typed zero xs bytes h = subst (AllByRecursion H) (sym h.0) tt
  blocks_typed (suc k) xs bytes h = subst (AllByRecursion H) (sym h.2) (all-append H h.0 h.1 (block_typed h.0 h.3.front h.3.first) (blocks_typed k h.1 h.3.back h.3.second))

mutual
  pub has_schema : SpelledHasSchema
  has_schema SNull VNull bytes h = tt
  has_schema SBoolean (VBoolean b) bytes h = tt
  has_schema SInt (VInt x) bytes h = tt
  has_schema SLong (VLong x) bytes h = tt
  has_schema SFloat (VFloat n) bytes h = tt
  has_schema SDouble (VDouble n) bytes h = tt
  has_schema SBytes (VBytes b) bytes h = tt
  has_schema SText (VText b) bytes h = tt
  has_schema (SFixed size) (VFixed b) bytes h = h.1
  has_schema (SEnum k) (VEnum p) bytes h = h.1
  has_schema (SArray s) (VArray vs) bytes h = blocks_typed (Spells s) (HasSchema s) (λ v b g. has_schema s v b g) h.0 (list vs) bytes h.1
  has_schema (SMap s) (VMap es) bytes h =
      all_permuted (λ (e : List ℕ × Value). HasSchema s e.1) h.items (pairs es) h.same
      (blocks_typed (EntrySpelled (Spells s)) (λ (e : List ℕ × Value). HasSchema s e.1) (λ e b g. has_schema s e.1 g.back g.second) h.spelled.0 h.items bytes h.spelled.1)
  has_schema (SUnion ss) (VUnion p v) bytes h = (h.first.1, branch_typed ss p v h.back h.second)
  has_schema (SFields ss) (VFields vs) bytes h = fields_typed ss (list vs) bytes h
  has_schema s v bytes h = absurd h

  pub fields_typed : (ss : Schemas) (vs : List Value) (bytes : List ℕ) → AreFields ss vs bytes → FieldsHave ss vs
  fields_typed none [] bytes h = tt
  fields_typed none (v ∷ vs) bytes h = absurd h
  fields_typed (more s ss) [] bytes h = absurd h
  fields_typed (more s ss) (v ∷ vs) bytes h = (has_schema s v h.front h.first, fields_typed ss vs h.back h.second)

  pub branch_typed : (ss : Schemas) (p : ℕ) (v : Value) (bytes : List ℕ) → IsBranch ss p v bytes → BranchHas ss p v
  branch_typed none p v bytes h = absurd h
  branch_typed (more s ss) zero v bytes h = has_schema s v bytes h
  branch_typed (more s ss) (suc p) v bytes h = branch_typed ss p v bytes h
