use Rattle.std.proofs.Common.{◌≡◌, IfOk, subst}
use Rattle.etp_frame.specs.Wire.{message_bytes}
use Rattle.client_core.proofs.numbering.bytes_of.Goals as goal

pub returns : goal.returns
returns c = subst (λ h. IfOk c.write_message.result (λ b. b ≡ message_bytes h c.args.message.now)) c.header_of-header.ensures.value c.write_message.ensures.bytes
