-- What each kind of tree denotes; for the crates above too.
use Rattle.std.proofs.Common.{◌≡◌, ℕ, Bool, ℤ, List, map, sym, ap, ◌∙◌}
use Rattle.std.specs.Global.{Box}
use Rattle.etp_values.specs.declared.bits.Bits32.{Bits32}
use Rattle.etp_values.specs.declared.bits.Bits64.{Bits64}
use Rattle.avro_bin.specs.Value.{Value, VNull, VBoolean, VInt, VLong, VFloat, VDouble, VBytes, VText, VFixed, VEnum, VArray, VMap, VUnion, VFields, row, entries}
use Rattle.avro_bin.specs.View.{value_of, entry_of, level}
use Rattle.avro_bin.specs.declared.tree.Tree.{Tree}
use Rattle.avro_bin.specs.declared.tree.Tree.TheOpen as opened
use Rattle.avro_bin.specs.declared.tree.Tree.TheViews.{Array, Map, Fields, Union}
use Rattle.avro_bin.specs.declared.tree.Tree.TheVariants as v
use Rattle.avro_bin.specs.declared.tree.Tree.TheFolds.{fold-roll-Tree}

pub value_null : value_of v.Null ≡ VNull
value_null = ap value_of (sym v.rolls-Null) ∙ fold-roll-Tree Value level opened.Null

pub value_boolean : (x : Bool) → value_of (v.Boolean x) ≡ VBoolean x
value_boolean x = ap value_of (sym (v.rolls-Boolean x)) ∙ fold-roll-Tree Value level (opened.Boolean x)

pub value_int : (x : ℤ) → value_of (v.Int x) ≡ VInt x
value_int x = ap value_of (sym (v.rolls-Int x)) ∙ fold-roll-Tree Value level (opened.Int x)

pub value_long : (x : ℤ) → value_of (v.Long x) ≡ VLong x
value_long x = ap value_of (sym (v.rolls-Long x)) ∙ fold-roll-Tree Value level (opened.Long x)

pub value_float : (x : Bits32) → value_of (v.Float x) ≡ VFloat x.0
value_float x = ap value_of (sym (v.rolls-Float x)) ∙ fold-roll-Tree Value level (opened.Float x)

pub value_double : (x : Bits64) → value_of (v.Double x) ≡ VDouble x.0
value_double x = ap value_of (sym (v.rolls-Double x)) ∙ fold-roll-Tree Value level (opened.Double x)

pub value_bytes : (x : List ℕ) → value_of (v.Bytes x) ≡ VBytes x
value_bytes x = ap value_of (sym (v.rolls-Bytes x)) ∙ fold-roll-Tree Value level (opened.Bytes x)

pub value_text : (x : List ℕ) → value_of (v.Text x) ≡ VText x
value_text x = ap value_of (sym (v.rolls-Text x)) ∙ fold-roll-Tree Value level (opened.Text x)

pub value_fixed : (x : List ℕ) → value_of (v.Fixed x) ≡ VFixed x
value_fixed x = ap value_of (sym (v.rolls-Fixed x)) ∙ fold-roll-Tree Value level (opened.Fixed x)

pub value_enum : (x : ℕ) → value_of (v.Enum x) ≡ VEnum x
value_enum x = ap value_of (sym (v.rolls-Enum x)) ∙ fold-roll-Tree Value level (opened.Enum x)

pub value_array : (x : List Tree) → value_of (Array x) ≡ VArray (row (map value_of x))
value_array x = ap value_of (sym (v.rolls-Array x)) ∙ fold-roll-Tree Value level (opened.Array x)

pub value_fields : (x : List Tree) → value_of (Fields x) ≡ VFields (row (map value_of x))
value_fields x = ap value_of (sym (v.rolls-Fields x)) ∙ fold-roll-Tree Value level (opened.Fields x)

pub value_map : (x : List (List ℕ × Tree)) → value_of (Map x) ≡ VMap (entries (map entry_of x))
value_map x = ap value_of (sym (v.rolls-Map x)) ∙ fold-roll-Tree Value level (opened.Map x)

pub value_union : (n : ℕ) (x : Box Tree) → value_of (Union n x) ≡ VUnion n (value_of x.value)
value_union n x = ap value_of (sym (v.rolls-Union n x)) ∙ fold-roll-Tree Value level (opened.Union n x)

pub ruleset values = (value_null, value_boolean, value_int, value_long, value_float, value_double, value_bytes, value_text, value_fixed, value_enum, value_array, value_fields, value_map, value_union)
