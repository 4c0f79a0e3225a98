-- The spelling that a writer chooses: no number longer than it must be, the items of a list or map in one block with a positive count (no
-- block if there are none), names in byte order.
use Rattle.std.specs.Prelude.{◌≡◌, ℕ, zero, suc, pos, Result, Ok, Err, List, [], ◌∷◌, ◌++◌, length, if◌then◌else◌}
use Rattle.std.specs.Io.{StartsWith}
use Rattle.std.specs.Int.{to_le_bytes, w32, w64}
use Rattle.avro_bin.specs.Number.{plain_number}
use Rattle.avro_bin.specs.Value.{Value, Values, VNull, VBoolean, VInt, VLong, VFloat, VDouble, VBytes, VText, VFixed, VEnum, VArray, VMap, VUnion, VFields, Entries, none, more, none_named, more_named, list, pairs}

-- a length, and the bytes
abbrev pub plain_blob : List ℕ → List ℕ
plain_blob b = plain_number (pos (length b)) ++ b

-- one block, or none, and a count of 0
abbrev pub plain_block : ℕ → List ℕ → List ℕ
plain_block zero items = plain_number (pos 0)
plain_block (suc count) items = plain_number (pos (suc count)) ++ items ++ plain_number (pos 0)

-- the spelling of a value that is written
abbrev mutual
  pub plain : Value → List ℕ
  plain VNull = []
  plain (VBoolean b) = (if b then 1 else 0) ∷ []
  plain (VInt x) = plain_number x
  plain (VLong x) = plain_number x
  plain (VFloat n) = to_le_bytes w32 n
  plain (VDouble n) = to_le_bytes w64 n
  plain (VBytes b) = plain_blob b
  plain (VText b) = plain_blob b
  plain (VFixed b) = b
  plain (VEnum p) = plain_number (pos p)
  plain (VArray vs) = plain_block (length (list vs)) (plain_all vs)
  plain (VMap es) = plain_block (length (pairs es)) (plain_named es)
  plain (VUnion p v) = plain_number (pos p) ++ plain v
  plain (VFields vs) = plain_all vs

  -- the spellings of these values, one after another
  pub plain_all : Values → List ℕ
  plain_all none = []
  plain_all (more v vs) = plain v ++ plain_all vs

  -- each name and its value, one after another
  pub plain_named : Entries → List ℕ
  plain_named none_named = []
  plain_named (more_named n v es) = plain_blob n ++ plain v ++ plain_named es

-- the text follows what was there; or, if memory ran out, what was there is still at the front
abbrev pub Writes : {E : Type 0} → List ℕ → List ℕ → List ℕ → Result Unit E → Type 0
Writes text old new (Ok x) = new ≡ old ++ text
Writes text old new (Err e) = StartsWith new old
