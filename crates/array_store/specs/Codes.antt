-- The codes with which requests for arrays are refused.
use Rattle.etp_values.specs.declared.code.ErrorCode.{ErrorCode}
use Rattle.etp_values.specs.declared.code.ErrorCode.TheVariants.{InvalidArgument, SizeExceeded}
use Rattle.array_store.specs.declared.error.ArrayError.{ArrayError}
use Rattle.array_store.specs.declared.error.ArrayError.TheVariants.{Rank, Outside, Kind, Count, TooLarge, NoMemory}

-- what is too large has a code of its own
abbrev pub code_of : ArrayError → ErrorCode
code_of Rank = InvalidArgument
code_of Outside = InvalidArgument
code_of Kind = InvalidArgument
code_of Count = InvalidArgument
code_of TooLarge = SizeExceeded
code_of NoMemory = InvalidArgument
