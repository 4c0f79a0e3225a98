-- Which bytes spell a value of a schema: Avro's binary encoding, where numbers may have up to ten bytes and the names of
-- a map differ.
use Rattle.std.specs.Prelude.{◌≡◌, ℕ, zero, suc, ◌<◌, ◌++◌, ◌⊎◌, pos, negsuc, true, List, [], ◌∷◌, length, if◌then◌else◌}
use Rattle.std.specs.Int.{w32, w64, from_le_bytes}
use Rattle.std.specs.Ordering.{nat_cmp}
use Rattle.std.specs.Cmp.Lexicographic.{slice_cmp}
use Rattle.std.specs.List.Sorted.{IsStrictlySortedBy, IsPermutation}
use Rattle.std.specs.Map.{keys_of}
use Rattle.avro_bin.specs.Number.{Number}
use Rattle.avro_bin.specs.Value.{Value, VNull, VBoolean, VInt, VLong, VFloat, VDouble, VBytes, VText, VFixed, VEnum, VArray, VMap, VUnion, VFields, list, pairs}
use Rattle.avro_bin.specs.Schema.{Schema, Schemas, SNull, SBoolean, SInt, SLong, SFloat, SDouble, SBytes, SText, SFixed, SEnum, SArray, SMap, SUnion, SFields, none, more}
use Rattle.avro_bin.specs.Ranges.{is_utf8, fits_32, places, count}

-- one part and then another
pub record Two (P Q : List ℕ → Type 0) (bytes : List ℕ) : Type 0 where
  pub front : List ℕ
  pub back : List ℕ
  pub parts : bytes ≡ front ++ back
  pub first : P front
  pub second : Q back

-- a length, and that many bytes
abbrev pub BytesSpelled : List ℕ → List ℕ → Type 0
BytesSpelled b = Two (Number (pos (length b))) (λ rest. rest ≡ b)

-- the items, one after another
abbrev pub Items : {A : Type 0} → (A → List ℕ → Type 0) → List A → List ℕ → Type 0
Items item [] bytes = bytes ≡ []
Items item (v ∷ vs) bytes = Two (item v) (Items item vs) bytes

-- a size, and that many bytes
pub record Sized (P : List ℕ → Type 0) (bytes : List ℕ) : Type 0 where
  pub size : List ℕ
  pub back : List ℕ
  pub parts : bytes ≡ size ++ back
  pub number : Number (pos (length back)) size
  pub inside : P back

-- a count and that many items; or the negated count, the number of their bytes, and the items
abbrev pub Block : {A : Type 0} → (A → List ℕ → Type 0) → List A → List ℕ → Type 0
Block item [] bytes = ⊥
Block item (v ∷ vs) bytes =
    Two (Number (pos (suc (length vs)))) (Items item (v ∷ vs)) bytes
    ⊎ Two (Number (negsuc (length vs))) (Sized (Items item (v ∷ vs))) bytes

-- this number of blocks, and then a count of 0
abbrev pub Blocks : {A : Type 0} → (A → List ℕ → Type 0) → ℕ → List A → List ℕ → Type 0
Blocks item zero vs bytes = (vs ≡ []) × Number (pos 0) bytes
Blocks {A} item (suc k) vs bytes = (us : List A) × (ws : List A) × (vs ≡ us ++ ws) × Two (Block item us) (Blocks item k ws) bytes

-- any number of blocks
abbrev pub SomeBlocks : {A : Type 0} → (A → List ℕ → Type 0) → List A → List ℕ → Type 0
SomeBlocks P vs bytes = (k : ℕ) × Blocks P k vs bytes

-- a length, and that many bytes of UTF-8
abbrev pub TextSpelled : List ℕ → List ℕ → Type 0
TextSpelled b bytes = BytesSpelled b bytes × (is_utf8 b ≡ true)

-- the place, from 0, of one of this number of symbols or branches
abbrev pub PlaceSpelled : ℕ → ℕ → List ℕ → Type 0
PlaceSpelled count p bytes = Number (pos p) bytes × (p < places count)

-- a name and its value
abbrev pub EntrySpelled : (Value → List ℕ → Type 0) → List ℕ × Value → List ℕ → Type 0
EntrySpelled P e bytes = Two (TextSpelled e.0) (P e.1) bytes

-- entries in the order of their names, which differ, are spelled in some order
pub record InSomeOrder (P : List (List ℕ × Value) → List ℕ → Type 0) (es : List (List ℕ × Value)) (bytes : List ℕ) : Type 0 where
  pub sorted : IsStrictlySortedBy (slice_cmp nat_cmp) (keys_of es)
  pub items : List (List ℕ × Value)
  pub same : IsPermutation items es
  pub spelled : P items bytes

-- the bytes spell the value, which has the schema
abbrev mutual
  pub Spells : Schema → Value → List ℕ → Type 0
  Spells SNull VNull bytes = bytes ≡ []
  Spells SBoolean (VBoolean b) bytes = bytes ≡ (if b then 1 else 0) ∷ []
  Spells SInt (VInt x) bytes = Number x bytes × (fits_32 x ≡ true)
  Spells SLong (VLong x) bytes = Number x bytes
  Spells SFloat (VFloat n) bytes = (length bytes ≡ 4) × (n ≡ from_le_bytes w32 bytes)
  Spells SDouble (VDouble n) bytes = (length bytes ≡ 8) × (n ≡ from_le_bytes w64 bytes)
  Spells SBytes (VBytes b) bytes = BytesSpelled b bytes
  Spells SText (VText b) bytes = TextSpelled b bytes
  Spells (SFixed size) (VFixed b) bytes = (bytes ≡ b) × (length b ≡ size)
  Spells (SEnum symbols) (VEnum p) bytes = PlaceSpelled symbols p bytes
  Spells (SArray s) (VArray vs) bytes = SomeBlocks (Spells s) (list vs) bytes
  Spells (SMap s) (VMap es) bytes = InSomeOrder (SomeBlocks (EntrySpelled (Spells s))) (pairs es) bytes
  Spells (SUnion ss) (VUnion p v) bytes = Two (PlaceSpelled (count ss) p) (IsBranch ss p v) bytes
  Spells (SFields ss) (VFields vs) bytes = AreFields ss (list vs) bytes
  Spells _ _ bytes = ⊥

  -- the fields, one after another
  pub AreFields : Schemas → List Value → List ℕ → Type 0
  AreFields none [] bytes = bytes ≡ []
  AreFields none (v ∷ vs) bytes = ⊥
  AreFields (more s ss) [] bytes = ⊥
  AreFields (more s ss) (v ∷ vs) bytes = Two (Spells s v) (AreFields ss vs) bytes

  -- a value of the branch at a place
  pub IsBranch : Schemas → ℕ → Value → List ℕ → Type 0
  IsBranch none p v bytes = ⊥
  IsBranch (more s ss) zero v bytes = Spells s v bytes
  IsBranch (more s ss) (suc p) v bytes = IsBranch ss p v bytes
