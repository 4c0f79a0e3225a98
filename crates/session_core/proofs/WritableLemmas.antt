-- What is sent can be written.
use Rattle.std.specs.Prelude.{◌≡◌, ℕ, ℤ, pos, Bool, true, false, ◌==◌, if◌then◌else◌, refl}
use Rattle.etp_frame.specs.Header.{compressed, extended, has_flag}
use Rattle.etp_frame.specs.Message.{IsOf, IsOfCore}
use Rattle.etp_frame.specs.declared.message.Message.{Message}
use Rattle.etp_frame.specs.declared.message.Message.TheVariants as message
use Rattle.etp_schema.specs.Bodies.{is_protocol}
use Rattle.msg_core.specs.declared.core_messages.CoreMessage.{CoreMessage}
use Rattle.msg_core.specs.declared.core_messages.CoreMessage.TheVariants as core
use Rattle.session_core.specs.Sending.{core_protocol, flags_to, sent_under}
use Rattle.session_core.specs.declared.state.Addressee.{Addressee}
use Rattle.session_core.specs.declared.state.Addressee.TheVariants as to

-- ---- a message is sent under a protocol that has it

by_known : (known : Bool) (protocol : ℤ) → is_protocol protocol ≡ known → is_protocol (if known then protocol else pos 0) ≡ true
by_known true protocol is = is
by_known false protocol is = refl

core_is_of : (protocol : ℤ) (m : CoreMessage) → IsOfCore m (core_protocol protocol m)
core_is_of protocol (core.RequestSession m) = refl
core_is_of protocol (core.OpenSession m) = refl
core_is_of protocol (core.CloseSession m) = refl
core_is_of protocol (core.Ping m) = refl
core_is_of protocol (core.Pong m) = refl
core_is_of protocol (core.ProtocolException m) = by_known (is_protocol protocol) protocol refl
core_is_of protocol (core.Acknowledge m) = by_known (is_protocol protocol) protocol refl

pub is_of : (protocol : ℤ) (m : Message) → IsOf m (sent_under protocol m)
is_of protocol (message.Core m) = core_is_of protocol m
is_of protocol (message.Transaction m) = refl
is_of protocol (message.Dataspace m) = refl
is_of protocol (message.Store m) = refl
is_of protocol (message.DataArray m) = refl
is_of protocol (message.ChannelSubscribe m) = refl
is_of protocol (message.ChannelDataLoad m) = refl

-- ---- no flag is set with which a header can't be written

abbrev pub ArePlain : ℤ → Type 0
ArePlain flags = (has_flag flags extended ≡ false) × (has_flag flags compressed ≡ false)

final_is_plain : (final : Bool) → ArePlain (if final then pos 2 else pos 0)
final_is_plain true = (refl, refl)
final_is_plain false = (refl, refl)

pub flags_plain : (a : Addressee) (last : Bool) (left : ℕ) → ArePlain (flags_to a last left)
flags_plain to.Receipt last left = (refl, refl)
flags_plain to.Request last left = final_is_plain (left == 0)
flags_plain to.Nobody last left = final_is_plain last
