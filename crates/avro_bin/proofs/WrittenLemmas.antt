-- What is written for a value spells it; for the crates above too.
use Rattle.std.proofs.Common.{◌≡◌, ℕ, zero, suc, ◌<◌, ◌^◌, true, List, [], ◌∷◌, ◌++◌, length, refl, sym, arith, inl, ℤ, pos, negsuc, FitsSigned, take}
use Rattle.std.proofs.lemmas.Bool.{lt-ltb}
use Rattle.std.proofs.lemmas.List.{append-nil, length-append, take_at}
use Rattle.std.proofs.lemmas.List.Sorted.{IsPermutation-refl}
use Rattle.std.proofs.lemmas.Nat.{from_le_bytes-to_le_bytes_4, from_le_bytes-to_le_bytes_8}
use Rattle.std.specs.Int.{w32, w64}
use Rattle.std.specs.List.{AllByRecursion}
use Rattle.avro_bin.specs.Number.{Number, plain_number}
use Rattle.avro_bin.specs.Value.{Value, Values, Entries, VNull, VBoolean, VInt, VLong, VFloat, VDouble, VBytes, VText, VFixed, VEnum, VArray, VMap, VUnion, VFields, list, pairs}
use Rattle.avro_bin.specs.Value as w
use Rattle.avro_bin.specs.Schema.{Schemas, SNull, SBoolean, SInt, SLong, SFloat, SDouble, SBytes, SText, SFixed, SEnum, SArray, SMap, SUnion, SFields, none, more}
use Rattle.avro_bin.specs.Reading.{fits_32, places, count}
use Rattle.avro_bin.specs.Grammar.{BytesSpelled, TextSpelled, PlaceSpelled, EntrySpelled, Items, SomeBlocks, Spells, AreFields, IsBranch}
use Rattle.avro_bin.specs.Plain.{plain, plain_all, plain_named, plain_blob, plain_block}
use Rattle.avro_bin.specs.Shape.{HasSchema, FieldsHave, BranchHas, IsText, FitsTree, AllFit, AllNamedFit}
use Rattle.avro_bin.specs.Laws.{PlainSpells, ReadsBack}
use Rattle.avro_bin.proofs.NumberWrittenLemmas.{number_plain}

count_plain : (n : ℕ) → n < 2 ^ 63 → Number (pos n) (plain_number (pos n))
count_plain n small = number_plain (pos n) (omega arith)

long_plain : (x : ℤ) → FitsSigned w64 x → Number x (plain_number x)
long_plain (pos n) f = number_plain (pos n) (omega (arith, f.sfits))
long_plain (negsuc n) f = number_plain (negsuc n) (omega (arith, f.sfits))

int_plain : (x : ℤ) → FitsSigned w32 x → Number x (plain_number x) × (fits_32 x ≡ true)
int_plain (pos n) f = let lt : n < 2 ^ 31 = omega (arith, f.sfits) in (number_plain (pos n) (omega arith), lt-ltb n (2 ^ 31) lt)
int_plain (negsuc n) f = let lt : n < 2 ^ 31 = omega (arith, f.sfits) in (number_plain (negsuc n) (omega arith), lt-ltb n (2 ^ 31) lt)

place_plain : (k p : ℕ) → p < places k → PlaceSpelled k p (plain_number (pos p))
place_plain k p lt = (count_plain p (omega (arith, lt)), lt)

blob_plain : (b : List ℕ) → length b < 2 ^ 63 → BytesSpelled b (plain_blob b)
blob_plain b small = record { front = plain_number (pos (length b)); back = b; parts = refl; first = count_plain (length b) small; second = refl }

text_plain : (b : List ℕ) → IsText b → TextSpelled b (plain_blob b)
text_plain b h = (blob_plain b h.1, h.0)

block_plain : {A : Type 0} (P : A → List ℕ → Type 0) (xs : List A) (items : List ℕ) → length xs < 2 ^ 63 → Items P xs items → SomeBlocks P xs (plain_block (length xs) items)
block_plain P [] items small h = (0, (refl, count_plain 0 (omega arith)))
block_plain P (x ∷ xs) items small h =
    let front : List ℕ = plain_number (pos (length (x ∷ xs))) ++ items in (
      1,
      (
        x ∷ xs,
        [],
        sym (append-nil (x ∷ xs)),
        record {
          front = front;
          back = plain_number (pos 0);
          parts = refl;
          first = inl (record { front = plain_number (pos (length (x ∷ xs))); back = items; parts = refl; first = count_plain (length (x ∷ xs)) small; second = h });
          second = (refl, count_plain 0 (omega arith));
        },
      ),
    )

module _ (P : Value → List ℕ → Type 0) (H : Value → Type 0) (one : (v : Value) → H v → FitsTree v → P v (plain v)) where
  items_plain : (vs : Values) → AllByRecursion H (list vs) → AllFit vs → Items P (list vs) (plain_all vs)
  items_plain w.none h f = refl
  items_plain (w.more v vs) h f = record { front = plain v; back = plain_all vs; parts = refl; first = one v h.0 f.0; second = items_plain vs h.1 f.1 }

  entries_plain : (es : Entries) → AllByRecursion (λ (e : List ℕ × Value). H e.1) (pairs es) → AllNamedFit es → Items (EntrySpelled P) (pairs es) (plain_named es)
  entries_plain w.none_named h f = refl
  entries_plain (w.more_named n v es) h f = record {
    front = plain_blob n ++ plain v;
    back = plain_named es;
    parts = refl;
    first = record { front = plain_blob n; back = plain v; parts = refl; first = text_plain n f.0; second = one v h.0 f.1 };
    second = entries_plain es h.1 f.2;
  }

mutual
  pub plain_spells : PlainSpells
  plain_spells SNull VNull h f = refl
  plain_spells SBoolean (VBoolean b) h f = refl
  plain_spells SInt (VInt x) h f = int_plain x f
  plain_spells SLong (VLong x) h f = long_plain x f
  plain_spells SFloat (VFloat n) h f = (refl, sym (from_le_bytes-to_le_bytes_4 n f))
  plain_spells SDouble (VDouble n) h f = (refl, sym (from_le_bytes-to_le_bytes_8 n f))
  plain_spells SBytes (VBytes b) h f = blob_plain b f
  plain_spells SText (VText b) h f = text_plain b f
  plain_spells (SFixed size) (VFixed b) h f = (refl, h)
  plain_spells (SEnum k) (VEnum p) h f = place_plain k p h
  plain_spells (SArray s) (VArray vs) h f = block_plain (Spells s) (list vs) (plain_all vs) f.0 (items_plain (Spells s) (HasSchema s) (λ v g e. plain_spells s v g e) vs h f.1)
  plain_spells (SMap s) (VMap es) h f = record {
    sorted = f.1;
    items = pairs es;
    same = IsPermutation-refl (pairs es);
    spelled = block_plain (EntrySpelled (Spells s)) (pairs es) (plain_named es) f.0 (entries_plain (Spells s) (HasSchema s) (λ v g e. plain_spells s v g e) es h f.2);
  }
  plain_spells (SUnion ss) (VUnion p v) h f = record { front = plain_number (pos p); back = plain v; parts = refl; first = place_plain (count ss) p h.0; second = branch_plain ss p v h.1 f }
  plain_spells (SFields ss) (VFields vs) h f = fields_plain ss vs h f
  plain_spells s v h f = absurd h

  pub fields_plain : (ss : Schemas) (vs : Values) → FieldsHave ss (list vs) → AllFit vs → AreFields ss (list vs) (plain_all vs)
  fields_plain none w.none h f = refl
  fields_plain none (w.more v vs) h f = absurd h
  fields_plain (more s ss) w.none h f = absurd h
  fields_plain (more s ss) (w.more v vs) h f = record { front = plain v; back = plain_all vs; parts = refl; first = plain_spells s v h.0 f.0; second = fields_plain ss vs h.1 f.1 }

  pub branch_plain : (ss : Schemas) (p : ℕ) (v : Value) → BranchHas ss p v → FitsTree v → IsBranch ss p v (plain v)
  branch_plain none p v h f = absurd h
  branch_plain (more s ss) zero v h f = plain_spells s v h f
  branch_plain (more s ss) (suc p) v h f = branch_plain ss p v h f

pub reads_back_is : ReadsBack
reads_back_is s v limit rest h f few =
    let back : take (length (plain v)) (plain v ++ rest) ≡ plain v = take_at (plain v) rest (length (plain v)) refl in
    record { within = omega (arith, length-append (plain v) rest); spelled = rw back (plain_spells s v h f); few = few }
