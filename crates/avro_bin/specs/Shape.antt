-- Which values have a schema, and which a tree can hold.
use Rattle.std.specs.Prelude.{◌≡◌, ℕ, zero, suc, ◌<◌, ◌^◌, true, List, [], ◌∷◌, length, FitsSigned}
use Rattle.std.specs.Int.{w32, w64}
use Rattle.std.specs.Ordering.{nat_cmp}
use Rattle.std.specs.Cmp.Lexicographic.{slice_cmp}
use Rattle.std.specs.List.{AllByRecursion}
use Rattle.std.specs.List.Sorted.{IsStrictlySortedBy}
use Rattle.std.specs.Map.{keys_of}
use Rattle.avro_bin.specs.Value.{Value, Values, Entries, VNull, VBoolean, VInt, VLong, VFloat, VDouble, VBytes, VText, VFixed, VEnum, VArray, VMap, VUnion, VFields, list, pairs}
use Rattle.avro_bin.specs.Value as w
use Rattle.avro_bin.specs.Schema.{Schema, Schemas, SNull, SBoolean, SInt, SLong, SFloat, SDouble, SBytes, SText, SFixed, SEnum, SArray, SMap, SUnion, SFields, none, more}
use Rattle.avro_bin.specs.Ranges.{is_utf8, places, count}

-- the value is one of the schema
abbrev mutual
  pub HasSchema : Schema → Value → Type 0
  HasSchema SNull VNull = Unit {0}
  HasSchema SBoolean (VBoolean b) = Unit {0}
  HasSchema SInt (VInt x) = Unit {0}
  HasSchema SLong (VLong x) = Unit {0}
  HasSchema SFloat (VFloat n) = Unit {0}
  HasSchema SDouble (VDouble n) = Unit {0}
  HasSchema SBytes (VBytes b) = Unit {0}
  HasSchema SText (VText b) = Unit {0}
  HasSchema (SFixed size) (VFixed b) = length b ≡ size
  HasSchema (SEnum symbols) (VEnum p) = p < places symbols
  HasSchema (SArray s) (VArray vs) = AllByRecursion (HasSchema s) (list vs)
  HasSchema (SMap s) (VMap es) = AllByRecursion (λ e. HasSchema s e.1) (pairs es)
  HasSchema (SUnion ss) (VUnion p v) = (p < places (count ss)) × BranchHas ss p v
  HasSchema (SFields ss) (VFields vs) = FieldsHave ss (list vs)
  HasSchema _ _ = ⊥

  -- each field has its schema
  pub FieldsHave : Schemas → List Value → Type 0
  FieldsHave none [] = Unit {0}
  FieldsHave none (v ∷ vs) = ⊥
  FieldsHave (more s ss) [] = ⊥
  FieldsHave (more s ss) (v ∷ vs) = HasSchema s v × FieldsHave ss vs

  -- the value has the schema of the branch at a place
  pub BranchHas : Schemas → ℕ → Value → Type 0
  BranchHas none p v = ⊥
  BranchHas (more s ss) zero v = HasSchema s v
  BranchHas (more s ss) (suc p) v = BranchHas ss p v

-- bytes of a text
abbrev pub IsText : List ℕ → Type 0
IsText b = (is_utf8 b ≡ true) × (length b < 2 ^ 63)

-- a tree can hold the numbers, lengths and names of the value: ints of 32 bits, longs of 64, lengths and counts below 2^63, texts of UTF-8,
-- names in byte order
abbrev mutual
  pub FitsTree : Value → Type 0
  FitsTree (VInt x) = FitsSigned w32 x
  FitsTree (VLong x) = FitsSigned w64 x
  FitsTree (VFloat n) = n < 2 ^ 32
  FitsTree (VDouble n) = n < 2 ^ 64
  FitsTree (VBytes b) = length b < 2 ^ 63
  FitsTree (VText b) = IsText b
  FitsTree (VArray vs) = (length (list vs) < 2 ^ 63) × AllFit vs
  FitsTree (VMap es) = (length (pairs es) < 2 ^ 63) × IsStrictlySortedBy (slice_cmp nat_cmp) (keys_of (pairs es)) × AllNamedFit es
  FitsTree (VUnion p x) = FitsTree x
  FitsTree (VFields vs) = AllFit vs
  FitsTree _ = Unit {0}

  -- a tree can hold each of these values
  pub AllFit : Values → Type 0
  AllFit w.none = Unit {0}
  AllFit (w.more x vs) = FitsTree x × AllFit vs

  -- a tree can hold each name and each value
  pub AllNamedFit : Entries → Type 0
  AllNamedFit w.none_named = Unit {0}
  AllNamedFit (w.more_named n x es) = IsText n × FitsTree x × AllNamedFit es
