-- Values by their kinds.
use Rattle.std.specs.Prelude.{Option, Some, None, Result, Ok, Err}
use Rattle.etp_values.specs.declared.code.ErrorCode.{ErrorCode}
use Rattle.etp_values.specs.declared.memory.NoMemory.{NoMemory}
use Rattle.array_store.specs.declared.error.ArrayError.{ArrayError}
use Rattle.array_store.specs.declared.error.ArrayError.TheVariants as error
use Rattle.array_store.specs.declared.record.ArrayRecord.{ArrayRecord}
use Rattle.array_store.specs.Codes.{code_of}
use Rattle.object_store.specs.declared.records.ObjectRecord.{ObjectRecord}
use Rattle.object_store.specs.declared.records.SpaceRecord.{SpaceRecord}
use Rattle.tx_stage.specs.declared.value.Value.{Value}
use Rattle.tx_stage.specs.declared.value.Value.TheVariants.{Space, Object, Array}

-- the dataspace, the object or the array that a value is
abbrev pub as_space : Option Value → Option SpaceRecord
as_space None = None
as_space (Some (Space r)) = Some r
as_space (Some (Object r)) = None
as_space (Some (Array r)) = None

abbrev pub as_object : Option Value → Option ObjectRecord
as_object None = None
as_object (Some (Space r)) = None
as_object (Some (Object r)) = Some r
as_object (Some (Array r)) = None

abbrev pub as_array : Option Value → Option ArrayRecord
as_array None = None
as_array (Some (Space r)) = None
as_array (Some (Object r)) = None
as_array (Some (Array r)) = Some r

-- the code of a refusal; running out of memory is not one
abbrev pub memory_or_code : ArrayError → Result ErrorCode NoMemory
memory_or_code error.Rank = Ok (code_of error.Rank)
memory_or_code error.Outside = Ok (code_of error.Outside)
memory_or_code error.Kind = Ok (code_of error.Kind)
memory_or_code error.Count = Ok (code_of error.Count)
memory_or_code error.TooLarge = Ok (code_of error.TooLarge)
memory_or_code error.NoMemory = Err (record {})
