-- The fields that are still to be read.
use Rattle.std.specs.Prelude.{List, map}
use Rattle.std.specs.Vec.Iter.{into_iter_items}
use Rattle.avro_bin.specs.Value.{Value}
use Rattle.avro_bin.specs.View.{value_of}
use Rattle.message_trees.specs.declared.fields.Fields.{Fields}

-- their values
abbrev pub left : Fields → List Value
left f = map value_of (into_iter_items f.trees)
