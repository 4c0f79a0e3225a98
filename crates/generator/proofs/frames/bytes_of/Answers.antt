use Rattle.std.proofs.Common.{◌≡◌, IfOk, subst}
use Rattle.etp_frame.specs.Wire.{message_bytes}
use Rattle.etp_frame.specs.declared.header.Header.{Header}
use Rattle.generator.proofs.HeaderLemmas.{names, plain}
use Rattle.generator.proofs.frames.bytes_of.Goals as goal

pub write_message-requires-clause-names : goal.write_message-requires-clause-names
write_message-requires-clause-names c = names c.args.place c.args.message.now _ c.request_header-header.ensures

pub write_message-requires-clause-plain : goal.write_message-requires-clause-plain
write_message-requires-clause-plain c = plain c.args.place c.args.message.now _ c.request_header-header.ensures

pub returns : goal.returns
returns c = subst (λ (h : Header). IfOk c.write_message.result (λ b. b ≡ message_bytes h c.args.message.now)) c.request_header-header.ensures c.write_message.ensures.bytes
