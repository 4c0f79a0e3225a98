-- The header of a message names it, and is plain.
use Rattle.std.specs.Prelude.{◌≡◌, ℕ, pos, refl}
use Rattle.std.proofs.Common.{sym, subst}
use Rattle.msg_core.specs.declared.core_messages.CoreMessage.{CoreMessage}
use Rattle.msg_core.specs.declared.core_messages.CoreMessage.TheVariants as c
use Rattle.etp_frame.specs.Message.{IsOfCore, Names}
use Rattle.etp_frame.specs.Wire.{IsPlain}
use Rattle.etp_frame.specs.declared.header.Header.{Header}
use Rattle.etp_frame.specs.declared.message.Message.{Message}
use Rattle.etp_frame.specs.declared.message.Message.TheVariants as m
use Rattle.generator.specs.Generator.{request_header}

of_core : (x : CoreMessage) → IsOfCore x (pos 0)
of_core (c.RequestSession x) = refl
of_core (c.OpenSession x) = refl
of_core (c.CloseSession x) = refl
of_core (c.Ping x) = refl
of_core (c.Pong x) = refl
of_core (c.ProtocolException x) = refl
of_core (c.Acknowledge x) = refl

named_by : (j : ℕ) (message : Message) → Names (request_header j message) message
named_by j (m.Core x) = (refl, of_core x)
named_by j (m.Transaction x) = (refl, refl)
named_by j (m.Dataspace x) = (refl, refl)
named_by j (m.Store x) = (refl, refl)
named_by j (m.DataArray x) = (refl, refl)
named_by j (m.ChannelSubscribe x) = (refl, refl)
named_by j (m.ChannelDataLoad x) = (refl, refl)

pub names : (j : ℕ) (message : Message) (h : Header) → h ≡ request_header j message → Names h message
names j message h is = subst (λ (k : Header). Names k message) (sym is) (named_by j message)

pub plain : (j : ℕ) (message : Message) (h : Header) → h ≡ request_header j message → IsPlain h
plain j message h is = subst IsPlain (sym is) (refl, refl)
