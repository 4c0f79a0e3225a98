-- What is still to come of a value: reading on from inside it.
use Rattle.std.specs.Prelude.{◌≡◌, ◌⊎◌, ◌==◌, Bool, true, false, ℕ, suc, ◌+◌, ◌-◌, ◌<◌, ◌≤◌, pos, negsuc, List, [], ◌∷◌, length, map, drop, Option, Some, None, Ok, Err, if◌then◌else◌}
use Rattle.std.specs.List.{AllByRecursion}
use Rattle.avro_bin.specs.declared.fault.Why.TheVariants as why
use Rattle.avro_bin.specs.declared.fault.Fault.{Fault}
use Rattle.avro_bin.specs.declared.fault.Fault.TheVariants as fault
use Rattle.avro_bin.specs.declared.schema.Node.{Node}
use Rattle.avro_bin.specs.Schema.{schema, schemas}
use Rattle.avro_bin.specs.Reading.{Read, ◌>>=◌, Fails, number_at, items_at, blocks_at, value_at}
use Rattle.avro_bin.specs.Along.{along, pass_at, put_at, mark_at, pass_fields_at}
use Rattle.avro_pieces.specs.declared.level.Block.{Block}
use Rattle.avro_pieces.specs.declared.level.Level.{Level}
use Rattle.avro_pieces.specs.declared.level.Level.TheVariants as l

-- whether the items of a block fill the size that it states, if they end where so many bytes are left; all: the length of all bytes
abbrev pub fills : ℕ → ℕ → Option Block → Bool
fills all left None = true
fills all left (Some b) = left + b.size == all - b.from

-- where the size of a block stands, by how many bytes are left
abbrev pub size_left : ℕ → Option Block → ℕ
size_left all None = 0
size_left all (Some b) = all - b.size_at

-- items that have to fill their block
abbrev pub filled : {S : Type 0} → ℕ → Option Block → Read S → Read S
filled all block (Ok x) = if fills all (length x.1) block then Ok x else Err (why.BlockSize, size_left all block)
filled all block (Err e) = Err e

-- after the items of a block: further blocks
abbrev pub more_blocks : {S : Type 0} → (S → List ℕ → Read S) → S × List ℕ → Read S
more_blocks item x = blocks_at item (suc (length x.1)) x.0 x.1

-- so many items, and further blocks
abbrev pub rest_of : {S : Type 0} → (S → List ℕ → Read S) → ℕ → Option Block → ℕ → S → List ℕ → Read S
rest_of item all block k s bytes = filled all block (items_at item k s bytes) >>= more_blocks item

-- reading what is still to come of one part: the nodes that are still allowed, and the bytes after it
abbrev pub level_at : List Node → ℕ → Level → ℕ → List ℕ → Read ℕ
level_at nodes all (l.Node id) n bytes = pass_at (value_at (schema nodes id)) n bytes
level_at nodes all (l.Fields f) n bytes = pass_fields_at (schemas (map (schema nodes) (drop f.next f.places.now))) n bytes
level_at nodes all (l.Items child left block) n bytes = rest_of (pass_at (value_at (schema nodes child))) all block left n bytes
level_at nodes all (l.Entries e) n bytes = along (λ t. t.1) (rest_of (put_at (mark_at (value_at (schema nodes e.child)))) all e.block e.left (e.names.entries, n) bytes)

-- reading what is still to come of parts, each inside the one before it: the innermost first
abbrev pub levels_at : List Node → ℕ → List Level → ℕ → List ℕ → Read ℕ
levels_at nodes all [] n bytes = Ok (n, bytes)
levels_at nodes all (level ∷ inner) n bytes = levels_at nodes all inner n bytes >>= λ x. level_at nodes all level x.0 x.1

-- a block begins among all bytes
abbrev pub Begins : ℕ → Option Block → Type 0
Begins all None = Unit {0}
Begins all (Some b) = b.from ≤ all

-- a part of a value of the table, whose block begins among all bytes
abbrev pub IsLevel : List Node → ℕ → Level → Type 0
IsLevel nodes all (l.Node id) = id < length nodes
IsLevel nodes all (l.Fields f) = AllByRecursion (λ child. child < length nodes) f.places.now
IsLevel nodes all (l.Items child left block) = (child < length nodes) × Begins all block
IsLevel nodes all (l.Entries e) = (e.child < length nodes) × Begins all e.block

-- the count and the size of a block, and the bytes after them
pub record Sized (all : ℕ) (bytes : List ℕ) (k : ℕ) (block : Option Block) (rest : List ℕ) : Type 0 where
  pub less : ℕ
  pub after : List ℕ
  pub size : ℕ
  pub count : number_at bytes ≡ Ok (negsuc less, after)
  pub is : k ≡ suc less
  pub stated : number_at after ≡ Ok (pos size, rest)
  pub of : block ≡ Some (record { size_at = all - length after; size = size; from = all - length rest })

-- a negative count, whose size is not read
pub record Unsized (e : Fault) (bytes : List ℕ) : Type 0 where
  pub less : ℕ
  pub after : List ℕ
  pub count : number_at bytes ≡ Ok (negsuc less, after)
  pub size : Fails e (number_at after) ⊎ ((m : ℕ) × (rest : List ℕ) × (number_at after ≡ Ok (negsuc m, rest)) × (e ≡ fault.At why.Length (length after)))

-- the head of a block: how many items follow, the size that it states, and the bytes after it
abbrev pub IsHead : ℕ → List ℕ → ℕ → Option Block → List ℕ → Type 0
IsHead all bytes k block rest = ((number_at bytes ≡ Ok (pos k, rest)) × (block ≡ None)) ⊎ Sized all bytes k block rest

-- why the head of a block is refused
abbrev pub HeadFails : Fault → List ℕ → Type 0
HeadFails e bytes = Fails e (number_at bytes) ⊎ Unsized e bytes

-- why a head after a block is refused: the block is not filled, or the head is
abbrev pub NextFails : ℕ → List ℕ → Option Block → Fault → Type 0
NextFails all bytes block e = ((fills all (length bytes) block ≡ false) × (e ≡ fault.At why.BlockSize (size_left all block))) ⊎ ((fills all (length bytes) block ≡ true) × HeadFails e bytes)
