-- The parts of a long message, put together.
use Rattle.std.specs.Prelude.{Bool, true, false, not, ◌&&◌, ◌||◌, Option, Some, None}
use Rattle.std.specs.Ordering.{int_eq}
use Rattle.msg_core.specs.declared.core_messages.CoreMessage.{CoreMessage}
use Rattle.msg_core.specs.declared.core_messages.CoreMessage.TheVariants as core
use Rattle.etp_frame.specs.declared.header.Header.{Header}
use Rattle.etp_frame.specs.declared.message.Message.{Message}
use Rattle.etp_frame.specs.declared.message.Message.TheVariants as message
use Rattle.client_parts.specs.Joining.{core_joined, dataspace_joined, load_joined, store_joined, subscribe_joined}
use Rattle.client_core.specs.declared.state.Kept.{Kept}

-- a further part of a message, appended to what there is of it
abbrev pub joined : Message → Message → Message
joined (message.Core x) (message.Core y) = message.Core (core_joined x y)
joined (message.Dataspace x) (message.Dataspace y) = message.Dataspace (dataspace_joined x y)
joined (message.Store x) (message.Store y) = message.Store (store_joined x y)
joined (message.ChannelSubscribe x) (message.ChannelSubscribe y) = message.ChannelSubscribe (subscribe_joined x y)
joined (message.ChannelDataLoad x) (message.ChannelDataLoad y) = message.ChannelDataLoad (load_joined x y)
joined x y = y

-- what there is of a message with one more part
abbrev pub grown : Option Kept → Message → Message
grown None m = m
grown (Some k) m = joined k.message m

-- ---- the order of parts

abbrev pub core_exception : CoreMessage → Bool
core_exception (core.ProtocolException x) = true
core_exception _ = false

abbrev pub is_exception : Message → Bool
is_exception (message.Core x) = core_exception x
is_exception _ = false

-- A message continues one of which parts came: it is of its protocol, number and correlation, or an exception to the same request.
abbrev pub goes_on : Header → Header → Message → Bool
goes_on k h m = int_eq h.correlation k.correlation && (is_exception m || (int_eq h.protocol k.protocol && int_eq h.kind k.kind))

-- a message comes between the parts of another
abbrev pub is_broken : Option Kept → Header → Message → Bool
is_broken None h m = false
is_broken (Some k) h m = not (goes_on k.header h m)
