-- The bytes that operations and touched keys count, towards the limits of a transaction and of a journal.
use Rattle.std.specs.Prelude.{ℕ, ◌+◌, List, length}
use Rattle.etp_values.specs.Uri.{plain_uri}
use Rattle.etp_values.specs.Weight.{weigh, custom_weight_of}
use Rattle.array_store.specs.Arrays.{size_of}
use Rattle.tx_stage.specs.declared.key.Key.{Key}
use Rattle.tx_stage.specs.declared.key.Key.TheVariants.{Space, Object, Array}
use Rattle.tx_stage.specs.declared.op.Op.{Op}
use Rattle.tx_stage.specs.declared.op.OpWhat.{OpWhat}
use Rattle.tx_stage.specs.declared.op.OpWhat.TheVariants.{SetObject, SetArray, Patch, Gone}
use Rattle.tx_stage.specs.declared.touch.Touch.{Touch}

-- the texts of a key: a dataspace's path, an object's canonical URI, and for an array also its path
abbrev pub key_bytes : Key → ℕ
key_bytes (Space p) = length p
key_bytes (Object u) = length (plain_uri u)
key_bytes (Array k) = length (plain_uri k.uri) + length k.path

-- a text
abbrev pub text_len : List ℕ → ℕ
text_len t = length t

-- what is done: an object 256, its other URIs, name, format, custom data and data; an array 256, its elements and custom
-- data; a patch 256 and its elements; a removal 64
abbrev pub what_bytes : OpWhat → ℕ
what_bytes (SetObject r) = 256 + (weigh text_len r.others + (length r.name + (length r.format + (custom_weight_of r.custom + length r.payload))))
what_bytes (SetArray r) = 256 + (size_of r.values + custom_weight_of r.custom)
what_bytes (Patch ss cs vs) = 256 + size_of vs
what_bytes Gone = 64

-- an operation: the texts of its key, and what is done
abbrev pub op_bytes : Op → ℕ
op_bytes o = key_bytes o.key + what_bytes o.what

-- a touched key: 64 and its texts
abbrev pub touch_bytes : Touch → ℕ
touch_bytes t = 64 + key_bytes t.key
