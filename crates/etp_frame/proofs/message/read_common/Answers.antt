use Rattle.std.proofs.Common.{◌∙◌, ℤ, sym, ap, is_some, FitsSigned, w32, rules}
use Rattle.std.proofs.lemmas.Int.{to_z-of_z}
use Rattle.etp_schema.specs.Family.{kind_in}
use Rattle.etp_frame.specs.Message.{common_kinds}
use Rattle.etp_frame.proofs.TypedLemmas.{core_read, none_read}
use Rattle.etp_frame.proofs.message.read_common.Goals as goal

pub returns-then-is_common : goal.returns-then-is_common
returns-then-is_common c =
    let k : FitsSigned w32 c.args.kind = search rules in
    core_read c.args.kind c.args.from.now.left c.args.from.now.rest.now (to_z-of_z w32 c.args.kind k) c.read_core.result c.read_core.new.from (sym c.if-is_common.ensures) c.read_core.ensures

pub returns : goal.returns
returns c =
    let k : FitsSigned w32 c.args.kind = search rules in
    none_read (kind_in common_kinds c.args.kind) c.args.from.now.left c.args.from.now.rest.now
    (ap (λ (i : ℤ). is_some (kind_in common_kinds i)) (sym (to_z-of_z w32 c.args.kind k)) ∙ sym c.if-is_common.ensures)
