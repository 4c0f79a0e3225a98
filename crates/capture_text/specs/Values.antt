-- How values are shown.
use Rattle.std.specs.Prelude.{ℕ, suc, List, [], ◌++◌, codes, if◌then◌else◌}
use Rattle.std.specs.Fmt.{decimal, signed_decimal}
use Rattle.std.specs.Int.{w32, w64, to_be_bytes}
use Rattle.avro_bin.specs.Value.{Value, Values, Entries, VNull, VBoolean, VInt, VLong, VFloat, VDouble, VBytes, VText, VFixed, VEnum, VArray, VMap, VUnion, VFields, none, more, none_named, more_named}
use Rattle.capture_text.specs.Names.{field_at, child_at}
use Rattle.capture_text.specs.Pieces.{hex, quoted, separator}

-- the text of a value of the schema at a place of the table, which says how fields are called
abbrev mutual
  pub value_text : ℕ → Value → List ℕ
  value_text place VNull = codes "null"
  value_text place (VBoolean b) = if b then codes "true" else codes "false"
  value_text place (VInt x) = signed_decimal x
  value_text place (VLong x) = signed_decimal x
  value_text place (VFloat bits) = codes "f:" ++ hex (to_be_bytes w32 bits)
  value_text place (VDouble bits) = codes "d:" ++ hex (to_be_bytes w64 bits)
  value_text place (VBytes b) = codes "x:" ++ hex b
  value_text place (VText b) = quoted b
  value_text place (VFixed b) = codes "x:" ++ hex b
  value_text place (VEnum p) = codes "@" ++ decimal p
  value_text place (VArray vs) = codes "[" ++ items_text (child_at place 0) 0 vs ++ codes "]"
  value_text place (VMap es) = codes "(" ++ entries_text (child_at place 0) 0 es ++ codes ")"
  value_text place (VUnion b v) = codes "#" ++ decimal b ++ codes " " ++ value_text (child_at place b) v
  value_text place (VFields vs) = codes "{" ++ fields_text place 0 vs ++ codes "}"

  -- the items of an array from the i-th on
  pub items_text : ℕ → ℕ → Values → List ℕ
  items_text place i none = []
  items_text place i (more v vs) = separator i ++ value_text place v ++ items_text place (suc i) vs

  -- the entries of a map from the i-th on
  pub entries_text : ℕ → ℕ → Entries → List ℕ
  entries_text place i none_named = []
  entries_text place i (more_named n v es) = separator i ++ quoted n ++ codes ": " ++ value_text place v ++ entries_text place (suc i) es

  -- the fields of a record from the i-th on
  pub fields_text : ℕ → ℕ → Values → List ℕ
  fields_text place i none = []
  fields_text place i (more v vs) = separator i ++ field_at place i ++ codes "=" ++ value_text (child_at place i) v ++ fields_text place (suc i) vs
