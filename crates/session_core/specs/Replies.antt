-- What is sent to a request, including the exceptions that refuse it.
use Rattle.std.specs.Prelude.{ℕ, List, [], Some, None, map}
use Rattle.etp_values.specs.Code.{number_of, text_of}
use Rattle.etp_values.specs.declared.code.ErrorCode.{ErrorCode}
use Rattle.keyed_requests.specs.declared.sending.Sending.{Sending}
use Rattle.keyed_requests.specs.declared.sending.Sending.TheVariants.{Reply, Refusal, RefusedKeys, Notice}
use Rattle.msg_core.specs.declared.core_messages.ErrorInfo.{ErrorInfo}
use Rattle.msg_core.specs.declared.core_messages.CoreMessage.TheVariants.{Acknowledge, ProtocolException}
use Rattle.etp_frame.specs.declared.message.Message.{Message}
use Rattle.etp_frame.specs.declared.message.Message.TheVariants.{Core}
use Rattle.session_core.specs.declared.state.Addressee.TheVariants as to
use Rattle.session_core.specs.declared.state.Saying.{Saying}

-- a code with its text
abbrev pub error_info : ErrorCode → ErrorInfo
error_info code = record { message = text_of code; code = number_of code }

-- a request refused as a whole
abbrev pub refusal : ErrorCode → Message
refusal code = Core (ProtocolException (record { error = Some (error_info code); errors = [] }))

-- the refused keys of a request, with their codes
abbrev pub refused_message : List (List ℕ × ErrorCode) → Message
refused_message keys = Core (ProtocolException (record { error = None; errors = map (λ x. (x.0, error_info x.1)) keys }))

-- a message of a reply
abbrev pub to_request : Message → Saying
to_request m = record { to = to.Request; message = m }

-- the message by which the receipt of another is acknowledged
abbrev pub receipt : Saying
receipt = record { to = to.Receipt; message = Core (Acknowledge (record {})) }

-- what a protocol sends, if this makes a message of one of its own
abbrev pub saying_of : {M : Type 0} → (M → Message) → Sending M → Saying
saying_of wrapped (Reply m) = to_request (wrapped m)
saying_of wrapped (Refusal code) = to_request (refusal code)
saying_of wrapped (RefusedKeys keys) = to_request (refused_message keys)
saying_of wrapped (Notice m) = record { to = to.Nobody; message = wrapped m }

-- all that a protocol answers a request, and the notices after it
abbrev pub sayings_of : {M : Type 0} → (M → Message) → List (Sending M) → List Saying
sayings_of wrapped sendings = map (saying_of wrapped) sendings
