-- What a request may touch and see within the open transaction, if there is one, and how much payload its keys count.
use Rattle.std.specs.Prelude.{ℕ, ◌+◌, Bool, true, false, List, Option, Some, None, nat_le, if◌then◌else◌}
use Rattle.std.specs.Option.{option_map}
use Rattle.array_store.specs.declared.key.ArrayKey.{ArrayKey}
use Rattle.array_store.specs.declared.record.ArrayRecord.{ArrayRecord}
use Rattle.etp_values.specs.declared.code.ErrorCode.{ErrorCode}
use Rattle.etp_values.specs.declared.code.ErrorCode.TheVariants.{RequestDenied, LimitExceeded, InvalidState}
use Rattle.etp_values.specs.declared.uri.StoreUri.{StoreUri}
use Rattle.object_store.specs.declared.records.ObjectRecord.{ObjectRecord}
use Rattle.tx_stage.specs.declared.error.StageError.{StageError}
use Rattle.tx_stage.specs.declared.error.StageError.TheVariants as error
use Rattle.tx_stage.specs.declared.key.Key.{Key}
use Rattle.tx_stage.specs.declared.key.Key.TheVariants.{Object, Array}
use Rattle.tx_stage.specs.declared.op.Op.{Op}
use Rattle.tx_stage.specs.declared.value.Value.TheVariants as value
use Rattle.tx_stage.specs.Overlay.{overlay, there}
use Rattle.tx_stage.specs.Staging.{Transaction, has_space, put_refusal, staged}
use Rattle.tx_stage.specs.Values.{as_object, as_array}
use Rattle.request_scope.specs.declared.within.Scope.{Scope}

-- ---- what may be touched

-- an open transaction only reads
abbrev pub is_read_only : Option Transaction → Bool
is_read_only None = false
is_read_only (Some x) = x.read_only

-- a dataspace may be touched
abbrev pub may_use : Option Transaction → List ℕ → Bool
may_use None path = true
may_use (Some x) path = has_space x.spaces path

-- ---- payload

-- before the first key
abbrev pub begun : Option Transaction → Scope
begun stage = record { stage = stage; paid = 0 }

-- a request counts at most 67,108,864 bytes of payload
abbrev pub pays : Scope → ℕ → Bool
pays s size = nat_le (s.paid + size) 67108864

-- what is counted once this many bytes were requested
abbrev pub paying : Scope → ℕ → Scope
paying s size = if pays s size then record s { paid = s.paid + size } else s

-- ---- the transaction's operations over what the store has

-- the object at a URI within the transaction, if the store has this one
abbrev pub object_over : Option Transaction → StoreUri → Option ObjectRecord → Option ObjectRecord
object_over None uri found = found
object_over (Some x) uri found = as_object (overlay x.ops (Object uri) (option_map value.Object found))

-- the array at a key within the transaction, if the store has this one
abbrev pub array_over : Option Transaction → ArrayKey → Option ArrayRecord → Option ArrayRecord
array_over None key found = found
array_over (Some x) key found = as_array (overlay x.ops (Array key) (option_map value.Array found))

-- whether something exists at a key
abbrev pub stands : Option Transaction → Key → Bool → Bool
stands None key found = found
stands (Some x) key found = there x.ops key found

-- ---- a further operation

-- the code with which a transaction's refusal is answered
abbrev pub code_of : StageError → ErrorCode
code_of error.ReadOnly = RequestDenied
code_of (error.Space path) = RequestDenied
code_of error.Operations = LimitExceeded
code_of error.Bytes = LimitExceeded
code_of error.Keys = LimitExceeded
-- no operation is refused with it
code_of error.NoMemory = LimitExceeded

-- why an operation is refused
abbrev pub put_code : Transaction → Op → Option ErrorCode
put_code x o = option_map code_of (put_refusal x o)

-- what a transaction is after an operation that may be refused
abbrev pub left_by : Option StageError → Transaction → Op → Transaction
left_by None x o = staged x o
left_by (Some e) x o = x

abbrev pub put_left : Transaction → Op → Transaction
put_left x o = left_by (put_refusal x o) x o

-- without an open transaction nothing is staged
abbrev pub stage_refusal : Option Transaction → Op → Option ErrorCode
stage_refusal None o = Some InvalidState
stage_refusal (Some x) o = put_code x o

-- the scope after an operation, which the open transaction, if there is one, has staged unless it refuses it
abbrev pub staging : Scope → Op → Scope
staging s o = record s { stage = option_map (λ x. put_left x o) s.stage }
