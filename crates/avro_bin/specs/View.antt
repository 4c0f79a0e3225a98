-- What a tree denotes.
use Rattle.std.specs.Prelude.{List, ℕ}
use Rattle.etp_values.specs.Entries.{on_value}
use Rattle.avro_bin.specs.Value.{Value, VNull, VBoolean, VInt, VLong, VFloat, VDouble, VBytes, VText, VFixed, VEnum, VArray, VMap, VUnion, VFields, row, entries}
use Rattle.avro_bin.specs.declared.tree.Tree.{Tree}
use Rattle.avro_bin.specs.declared.tree.Tree.TheOpen.{Tree-F, Null, Boolean, Int, Long, Float, Double, Bytes, Text, Fixed, Enum, Array, Map, Union, Fields}
use Rattle.avro_bin.specs.declared.tree.Tree.TheFolds.{fold-Tree}

-- one level of a tree, with what each child denotes in its place
abbrev pub level : Tree-F Value → Value
level Null = VNull
level (Boolean b) = VBoolean b
level (Int x) = VInt x
level (Long x) = VLong x
level (Float x) = VFloat x.0
level (Double x) = VDouble x.0
level (Bytes b) = VBytes b
level (Text b) = VText b
level (Fixed b) = VFixed b
level (Enum n) = VEnum n
level (Array l) = VArray (row l)
level (Map m) = VMap (entries m)
level (Union n v) = VUnion n v.value
level (Fields l) = VFields (row l)

-- the value that a tree denotes
abbrev pub value_of : Tree → Value
value_of = fold-Tree Value level

-- the entry that a name and a tree denote
abbrev pub entry_of : List ℕ × Tree → List ℕ × Value
entry_of = on_value value_of
