use Rattle.std.proofs.Common.{◌∙◌, ap, arith}
use Rattle.avro_bin.specs.Refusing.{refusal}
use Rattle.etp_frame.specs.Parts.{offset_in, as_body_error}
use Rattle.etp_frame.proofs.CheckLemmas.{refused_at}
use Rattle.etp_frame.proofs.reading.fault_error.Goals as goal

pub body_error-requires : goal.body_error-requires
body_error-requires c =
    omega (arith, ap offset_in c.refusal_at.ensures ∙ refused_at c.args.why c.saturating_sub.result, c.saturating_sub.ensures)

pub returns : goal.returns
returns c =
    c.body_error.ensures ∙ ap (as_body_error c.args.header c.args.front) (c.refusal_at.ensures ∙ ap (refusal c.args.why) c.saturating_sub.ensures)
