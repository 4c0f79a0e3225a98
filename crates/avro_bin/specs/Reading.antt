-- Reading from left to right, up to the first fault.
use Rattle.std.specs.Prelude.{◌≡◌, ◌++◌, Bool, true, false, take, drop, ℕ, zero, suc, ◌+◌, ◌*◌, ◌%◌, ℤ, pos, negsuc, List, [], ◌∷◌, length, nat_lt, ◌==◌, if◌then◌else◌, Result, Ok, Err, is_some}
use Rattle.avro_bin.specs.declared.fault.Why.{Why}
use Rattle.avro_bin.specs.declared.fault.Why.TheVariants as why
use Rattle.avro_bin.specs.declared.fault.Fault.{Fault}
use Rattle.avro_bin.specs.declared.fault.Fault.TheVariants as fault
use Rattle.std.specs.Int.{Width, byte_len, from_le_bytes, w32, w64}
use Rattle.std.specs.Ordering.{nat_cmp}
use Rattle.std.specs.Cmp.Lexicographic.{slice_cmp}
use Rattle.std.specs.Map.{lookup}
use Rattle.std.specs.BTreeMap.{is_at, insert_entry}
pub use Rattle.avro_bin.specs.Ranges.{fits_32, is_utf8, places, count}
use Rattle.avro_bin.specs.Number.{signed}
use Rattle.avro_bin.specs.Value.{Value, Values, VNull, VBoolean, VInt, VLong, VFloat, VDouble, VBytes, VText, VFixed, VEnum, VArray, VMap, VUnion, VFields, row, entries}
use Rattle.avro_bin.specs.Schema.{Schema, Schemas, SNull, SBoolean, SInt, SLong, SFloat, SDouble, SBytes, SText, SFixed, SEnum, SArray, SMap, SUnion, SFields, none, more}

-- What was read, and the bytes after it; or why not, and how many bytes are left where the refused item begins.
abbrev pub Read : Type 0 → Type 0
Read A = Result (A × List ℕ) (Why × ℕ)

infixl 10 ◌>>=◌
abbrev pub ◌>>=◌ : {A B : Type 0} → Read A → ((A × List ℕ) → Read B) → Read B
(Ok x) >>= f = f x
(Err e) >>= f = Err e

-- what a function fails with is what reading gives, with its place; if memory ran out nothing is claimed
abbrev pub Fails : {A : Type 0} → Fault → Read A → Type 0
Fails fault.Memory read = Unit {0}
Fails (fault.At w left) read = read ≡ Err (w, left)

-- What a function returned, seen through view, is what reading gives, unless memory ran out.
abbrev pub Gives : {X A : Type 0} → (X → A × List ℕ) → Result X Fault → Read A → Type 0
Gives view (Ok x) read = read ≡ Ok (view x)
Gives view (Err e) read = Fails e read

-- the same, if the fault has no place yet
abbrev pub GivesWhy : {X A : Type 0} → (X → A × List ℕ) → Result X Why → Result (A × List ℕ) Why → Type 0
GivesWhy view (Ok x) read = read ≡ Ok (view x)
GivesWhy view (Err w) read = read ≡ Err w

-- seven bits below the others
abbrev pub more_groups : ℕ → Result (ℕ × List ℕ) Why → Result (ℕ × List ℕ) Why
more_groups b (Ok x) = Ok (b % 128 + 128 * x.0, x.1)
more_groups b (Err w) = Err w

-- at most k groups
abbrev pub groups_at : ℕ → List ℕ → Result (ℕ × List ℕ) Why
groups_at zero bytes = Err why.Number
groups_at (suc k) [] = Err why.Short
groups_at (suc zero) (b ∷ bytes) = if nat_lt b 2 then Ok (b, bytes) else Err why.Number
groups_at (suc (suc k)) (b ∷ bytes) = if nat_lt b 128 then Ok (b, bytes) else more_groups b (groups_at (suc k) bytes)

-- what groups give, and the place of the number that they begin
abbrev pub placed : {A B : Type 0} → (A → B) → ℕ → Result (A × List ℕ) Why → Read B
placed f left (Ok x) = Ok (f x.0, x.1)
placed f left (Err w) = Err (w, left)

-- a number
unfoldable pub number_at : List ℕ → Read ℤ
number_at bytes = placed signed (length bytes) (groups_at 10 bytes)

-- 0 or 1
unfoldable pub boolean_at : List ℕ → Read Bool
boolean_at [] = Err (why.Short, 0)
boolean_at (zero ∷ bytes) = Ok (false, bytes)
boolean_at (suc zero ∷ bytes) = Ok (true, bytes)
boolean_at (suc (suc b) ∷ bytes) = Err (why.Bool, suc (length bytes))

-- an int
unfoldable pub int_at : List ℕ → Read ℤ
int_at bytes = do
  x ← number_at bytes
  if fits_32 x.0 then Ok x else Err (why.Range, length bytes)

-- the next bytes, this many of them, of an item that begins where left bytes are left
unfoldable pub bytes_at : ℕ → ℕ → List ℕ → Read (List ℕ)
bytes_at left size bytes = if nat_lt (length bytes) size then Err (why.Short, left) else Ok (take size bytes, drop size bytes)

-- as many bytes as a number says
abbrev pub of_length : ℕ → ℤ → List ℕ → Read (List ℕ)
of_length left (pos size) bytes = bytes_at left size bytes
of_length left (negsuc n) bytes = Err (why.Length, left)

-- a number of fixed width, the lowest byte first
unfoldable pub fixed_number_at : Width → List ℕ → Read ℕ
fixed_number_at w bytes = if nat_lt (length bytes) (byte_len w) then Err (why.Short, length bytes) else Ok (from_le_bytes w (take (byte_len w) bytes), drop (byte_len w) bytes)

-- a length, and that many bytes
unfoldable pub blob_at : List ℕ → Read (List ℕ)
blob_at bytes = do
  size ← number_at bytes
  of_length (length bytes) size.0 size.1

-- a number as a place below a count
abbrev pub below : ℕ → ℕ → ℤ → List ℕ → Read ℕ
below left count (pos n) bytes = if nat_lt n count then Ok (n, bytes) else Err (why.Branch, left)
below left count (negsuc n) bytes = Err (why.Branch, left)

-- a length, and that many bytes of UTF-8
unfoldable pub text_at : List ℕ → Read (List ℕ)
text_at bytes = do
  b ← blob_at bytes
  if is_utf8 b.0 then Ok b else Err (why.Utf8, length bytes)

-- the place, from 0, of one of this number of symbols or branches
unfoldable pub place_at : ℕ → List ℕ → Read ℕ
place_at count bytes = do
  x ← number_at bytes
  below (length bytes) (places count) x.0 x.1

-- a value, and the nodes that are still allowed after it
abbrev pub Got : Type 0
Got = Value × ℕ

-- a value of one node
abbrev pub with : ℕ → {A : Type 0} → (A → Value) → Read A → Read Got
with n v (Ok x) = Ok ((v x.0, n), x.1)
with n v (Err e) = Err e

-- what was read so far of many values, and the nodes that are still allowed
abbrev pub Row : Type 0
Row = List Value × ℕ

-- the same for a map: its entries in the order of their names
abbrev pub Names : Type 0
Names = List (List ℕ × Value) × ℕ

-- this many items, each read on from what there is
unfoldable pub items_at : {S : Type 0} → (S → List ℕ → Read S) → ℕ → S → List ℕ → Read S
items_at item zero s bytes = Ok (s, bytes)
items_at item (suc k) s bytes = do
  x ← item s bytes
  items_at item k x.0 x.1

-- the items fill the size exactly; before: the bytes left before the items
abbrev pub sized : {S : Type 0} → ℕ → ℤ → ℕ → Read S → Read S
sized left (pos size) before (Ok x) = if length x.1 + size == before then Ok x else Err (why.BlockSize, left)
sized left (pos size) before (Err e) = Err e
sized left (negsuc n) before r = Err (why.Length, left)

-- a block, by its count
abbrev pub block_at : {S : Type 0} → (S → List ℕ → Read S) → S → ℤ → List ℕ → Read S
block_at item s (pos k) bytes = items_at item k s bytes
block_at item s (negsuc k) bytes = do
  size ← number_at bytes
  sized (length bytes) size.0 (length size.1) (items_at item (suc k) s size.1)

-- what follows a count
abbrev pub after_count : {S : Type 0} → (S → List ℕ → Read S) → (S → List ℕ → Read S) → S → ℤ → List ℕ → Read S
after_count item more_blocks s (pos zero) bytes = Ok (s, bytes)
after_count item more_blocks s count bytes = do
  block ← block_at item s count bytes
  more_blocks block.0 block.1

-- blocks up to a count of 0, fewer than a bound that no list of blocks reaches
unfoldable pub blocks_at : {S : Type 0} → (S → List ℕ → Read S) → ℕ → S → List ℕ → Read S
blocks_at item zero s bytes = Err (why.Limit, length bytes)
blocks_at item (suc bound) s bytes = do
  count ← number_at bytes
  after_count item (blocks_at item bound) s count.0 count.1

-- what was read, after what there is
abbrev pub pushed : List Value → Read Got → Read Row
pushed vs (Ok x) = Ok ((vs ++ x.0.0 ∷ [], x.0.1), x.1)
pushed vs (Err e) = Err e

-- one more item
unfoldable pub element_at : (ℕ → List ℕ → Read Got) → Row → List ℕ → Read Row
element_at value s bytes = pushed s.0 (value s.1 bytes)

-- whether there is an entry of that name
abbrev pub has : {X : Type 0} → List ℕ → List (List ℕ × X) → Bool
has k es = is_some (lookup (is_at (slice_cmp nat_cmp k)) es)

-- one more entry, in its place
abbrev pub under : List ℕ → List (List ℕ × Value) → Read Got → Read Names
under k es (Ok x) = Ok ((insert_entry (slice_cmp nat_cmp) es k x.0.0, x.0.1), x.1)
under k es (Err e) = Err e

-- a name that has not occurred yet, and its value
unfoldable pub entry_at : (ℕ → List ℕ → Read Got) → Names → List ℕ → Read Names
entry_at value s bytes = do
  k ← text_at bytes
  if has k.0 s.0 then Err (why.DoubleKey, length bytes) else under k.0 s.0 (value s.1 k.1)

-- the value of a row
abbrev pub listed : (Values → Value) → Read Row → Read Got
listed v (Ok x) = Ok ((v (row x.0.0), x.0.1), x.1)
listed v (Err e) = Err e

-- the value of entries
abbrev pub mapped : Read Names → Read Got
mapped (Ok x) = Ok ((VMap (entries x.0.0), x.0.1), x.1)
mapped (Err e) = Err e

-- the value of a branch
abbrev pub in_branch : ℕ → Read Got → Read Got
in_branch b (Ok x) = Ok ((VUnion b x.0.0, x.0.1), x.1)
in_branch b (Err e) = Err e

-- the value of a schema at the front of the bytes, of at most this many nodes
unfoldable mutual
  pub value_at : Schema → ℕ → List ℕ → Read Got
  value_at s zero bytes = Err (why.Limit, length bytes)
  value_at SNull (suc n) bytes = Ok ((VNull, n), bytes)
  value_at SBoolean (suc n) bytes = with n VBoolean (boolean_at bytes)
  value_at SInt (suc n) bytes = with n VInt (int_at bytes)
  value_at SLong (suc n) bytes = with n VLong (number_at bytes)
  value_at SFloat (suc n) bytes = with n VFloat (fixed_number_at w32 bytes)
  value_at SDouble (suc n) bytes = with n VDouble (fixed_number_at w64 bytes)
  value_at SBytes (suc n) bytes = with n VBytes (blob_at bytes)
  value_at SText (suc n) bytes = with n VText (text_at bytes)
  value_at (SFixed size) (suc n) bytes = with n VFixed (bytes_at (length bytes) size bytes)
  value_at (SEnum count) (suc n) bytes = with n VEnum (place_at count bytes)
  value_at (SArray s) (suc n) bytes = listed VArray (blocks_at (element_at (value_at s)) (suc (length bytes)) ([], n) bytes)
  value_at (SMap s) (suc n) bytes = mapped (blocks_at (entry_at (value_at s)) (suc (length bytes)) ([], n) bytes)
  value_at (SUnion ss) (suc n) bytes = do
    b ← place_at (count ss) bytes
    in_branch b.0 (branch_at ss b.0 n b.1)
  value_at (SFields ss) (suc n) bytes = listed VFields (fields_at ss ([], n) bytes)

  -- the values of a record, in order
  pub fields_at : Schemas → Row → List ℕ → Read Row
  fields_at none s bytes = Ok (s, bytes)
  fields_at (more c cs) s bytes = do
    x ← element_at (value_at c) s bytes
    fields_at cs x.0 x.1

  -- the value of a branch
  pub branch_at : Schemas → ℕ → ℕ → List ℕ → Read Got
  branch_at none b n bytes = Err (why.Branch, length bytes)
  branch_at (more s ss) zero n bytes = value_at s n bytes
  branch_at (more s ss) (suc b) n bytes = branch_at ss b n bytes
