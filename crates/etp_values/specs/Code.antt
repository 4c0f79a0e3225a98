-- The table of the codes with which a request is refused: number and text.
use Rattle.std.specs.Prelude.{ℕ, ℤ, pos, List, codes}
use Rattle.etp_values.specs.declared.code.ErrorCode.{ErrorCode}
use Rattle.etp_values.specs.declared.code.ErrorCode.TheVariants.{NoSupportedProtocols, InvalidMessageType, UnsupportedProtocol, InvalidArgument, RequestDenied, InvalidState, InvalidUri, NotFound, LimitExceeded, CompressionNotSupported, TooManyTransactions, DataObjectTypeNotSupported, SizeExceeded, InvalidMessage, InvalidIndexKind, NoSupportedFormats, InvalidAppend}

-- a code's number
abbrev pub number_of : ErrorCode → ℤ
number_of NoSupportedProtocols = pos 2
number_of InvalidMessageType = pos 3
number_of UnsupportedProtocol = pos 4
number_of InvalidArgument = pos 5
number_of RequestDenied = pos 6
number_of InvalidState = pos 8
number_of InvalidUri = pos 9
number_of NotFound = pos 11
number_of LimitExceeded = pos 12
number_of CompressionNotSupported = pos 13
number_of TooManyTransactions = pos 15
number_of DataObjectTypeNotSupported = pos 16
number_of SizeExceeded = pos 17
number_of InvalidMessage = pos 19
number_of InvalidIndexKind = pos 20
number_of NoSupportedFormats = pos 21
number_of InvalidAppend = pos 31

-- a code's text
abbrev pub text_of : ErrorCode → List ℕ
text_of NoSupportedProtocols = codes "no supported protocols"
text_of InvalidMessageType = codes "invalid message type"
text_of UnsupportedProtocol = codes "unsupported protocol"
text_of InvalidArgument = codes "invalid argument"
text_of RequestDenied = codes "request denied"
text_of InvalidState = codes "invalid state"
text_of InvalidUri = codes "invalid URI"
text_of NotFound = codes "not found"
text_of LimitExceeded = codes "limit exceeded"
text_of CompressionNotSupported = codes "compression not supported"
text_of TooManyTransactions = codes "too many transactions"
text_of DataObjectTypeNotSupported = codes "data object type not supported"
text_of SizeExceeded = codes "size exceeded"
text_of InvalidMessage = codes "invalid message"
text_of InvalidIndexKind = codes "invalid index kind"
text_of NoSupportedFormats = codes "no supported formats"
text_of InvalidAppend = codes "invalid append"
