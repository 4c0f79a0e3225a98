-- What is seen of a value, and how much of it one call gives.
use Rattle.std.specs.Prelude.{ℕ, ℤ, ◌-◌, List, [], ◌∷◌, Option, Some, None, Result, Ok, Err, if◌then◌else◌, nat_lt, length}
use Rattle.etp_values.specs.declared.code.ErrorCode.TheVariants.{LimitExceeded}
use Rattle.etp_values.specs.declared.data.AnyArray.{AnyArray}
use Rattle.etp_values.specs.declared.memory.NoMemory.{NoMemory}
use Rattle.array_store.specs.declared.error.ArrayError.{ArrayError}
use Rattle.array_store.specs.declared.error.ArrayError.TheVariants as error
use Rattle.array_store.specs.declared.record.ArrayRecord.{ArrayRecord}
use Rattle.array_store.specs.Shape.{sizes}
use Rattle.array_store.specs.Arrays.{kind, size_of, slice_of}
use Rattle.array_store.specs.Codes.{code_of}
use Rattle.array_store.specs.Refusals.{slice_refusal}
use Rattle.object_store.specs.declared.records.ObjectRecord.{ObjectRecord}
use Rattle.object_store.specs.declared.records.SpaceRecord.{SpaceRecord}
use Rattle.tx_stage.specs.declared.key.Key.{Key}
use Rattle.tx_stage.specs.declared.key.Key.TheVariants as key
use Rattle.tx_stage.specs.declared.look.Want.{Want}
use Rattle.tx_stage.specs.declared.look.Want.TheVariants as want
use Rattle.tx_stage.specs.declared.look.Looked.{Looked}
use Rattle.tx_stage.specs.declared.look.Looked.TheVariants as looked
use Rattle.tx_stage.specs.declared.value.Value.{Value}
use Rattle.tx_stage.specs.Values.{as_space, as_object, as_array}

-- ---- one look

-- the key that is looked at
abbrev pub key_of : Want → Key
key_of (want.Space p) = key.Space p
key_of (want.Known u) = key.Object u
key_of (want.Object u) = key.Object u
key_of (want.Array k) = key.Array k
key_of (want.Slice k ss cs) = key.Array k
key_of (want.Shape k) = key.Array k

-- what is seen of a dataspace, of an object, of an array
abbrev pub space_seen : Option SpaceRecord → Looked
space_seen None = looked.Missing
space_seen (Some r) = looked.Space r

abbrev pub known_seen : Option ObjectRecord → Looked
known_seen None = looked.Missing
known_seen (Some r) = looked.Known r.created

abbrev pub object_seen : Option ObjectRecord → Looked
object_seen None = looked.Missing
object_seen (Some r) = looked.Object r

abbrev pub array_seen : Option ArrayRecord → Looked
array_seen None = looked.Missing
array_seen (Some r) = looked.Array r

-- elements, or why they are refused
abbrev pub elements_seen : Option ArrayError → AnyArray → Looked
elements_seen None values = looked.Slice values
elements_seen (Some e) values = looked.Refused (code_of e)

abbrev pub slice_seen : List ℤ → List ℤ → Option ArrayRecord → Looked
slice_seen ss cs None = looked.Missing
slice_seen ss cs (Some r) = elements_seen (slice_refusal r ss cs) (slice_of (sizes r.dims) (sizes ss) (sizes cs) r.values)

abbrev pub shape_seen : Option ArrayRecord → Looked
shape_seen None = looked.Missing
shape_seen (Some r) = looked.Shape r.dims r.preferred (kind r.values) r.logical r.custom r.written r.created

-- what is seen of the value at the key
abbrev pub seen_of : Want → Option Value → Looked
seen_of (want.Space p) v = space_seen (as_space v)
seen_of (want.Known u) v = known_seen (as_object v)
seen_of (want.Object u) v = object_seen (as_object v)
seen_of (want.Array k) v = array_seen (as_array v)
seen_of (want.Slice k ss cs) v = slice_seen ss cs (as_array v)
seen_of (want.Shape k) v = shape_seen (as_array v)

-- ---- the looks of a call

-- how many bytes of payload something seen has
abbrev pub payload_of : Looked → ℕ
payload_of looked.Missing = 0
payload_of (looked.Space r) = 0
payload_of (looked.Known at) = 0
payload_of (looked.Object r) = length r.payload
payload_of (looked.Array r) = size_of r.values
payload_of (looked.Slice a) = size_of a
payload_of (looked.Shape ds ps b l c w m) = 0
payload_of (looked.Refused c) = 0

-- what is given of something seen, if this many bytes of payload are left to give
abbrev pub given : ℕ → Looked → Looked
given room l = if nat_lt room (payload_of l) then looked.Refused LimitExceeded else l

-- the looks in order; `state` is what each key has, and `room` how many bytes of payload are left to give
abbrev pub looks_within : (Key → Option Value) → ℕ → List Want → List Looked
looks_within state room [] = []
looks_within state room (w ∷ ws) =
    given room (seen_of w (state (key_of w)))
    ∷ looks_within state (room - payload_of (given room (seen_of w (state (key_of w))))) ws

-- the looks of one call, which give at most 64 MiB of payload
abbrev pub looks : (Key → Option Value) → List Want → List Looked
looks state ws = looks_within state 67108864 ws

-- ---- how a refusal is seen; running out of memory is not one

abbrev pub memory_or_refused : ArrayError → Result Looked NoMemory
memory_or_refused error.Rank = Ok (looked.Refused (code_of error.Rank))
memory_or_refused error.Outside = Ok (looked.Refused (code_of error.Outside))
memory_or_refused error.Kind = Ok (looked.Refused (code_of error.Kind))
memory_or_refused error.Count = Ok (looked.Refused (code_of error.Count))
memory_or_refused error.TooLarge = Ok (looked.Refused (code_of error.TooLarge))
memory_or_refused error.NoMemory = Err (record {})
