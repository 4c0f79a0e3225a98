use Rattle.std.proofs.Common.{◌∙◌, Some, None, sym, ap, FitsSigned, w32, rules}
use Rattle.std.proofs.lemmas.Int.{to_z-of_z}
use Rattle.msg_core.specs.Core.{core_kinds}
use Rattle.etp_frame.specs.declared.message.Message.TheVariants as m
use Rattle.etp_frame.proofs.TypedLemmas.{under_read, under_fails}
use Rattle.etp_frame.proofs.message.read_core.Goals as goal

pub returns-in_ok-boxed-in-Ok-Some : goal.returns-in_ok-boxed-in-Ok-Some
returns-in_ok-boxed-in-Ok-Some c =
    let k : FitsSigned w32 c.args.kind = search rules in
    under_read m.Core core_kinds c.args.kind c.args.from.now.left c.args.from.now.rest.now (to_z-of_z w32 c.args.kind k) _ _ _ (c.in-Ok-Some.field-0-is ∙ ap Some (sym c.in_ok-boxed-in-Ok-Some.ensures.value)) c.in-Ok-Some.ensures

pub returns-in-Ok-None : goal.returns-in-Ok-None
returns-in-Ok-None c =
    let k : FitsSigned w32 c.args.kind = search rules in
    under_read m.Core core_kinds c.args.kind c.args.from.now.left c.args.from.now.rest.now (to_z-of_z w32 c.args.kind k) None _ _ c.in-Ok-None.field-0-is c.in-Ok-None.ensures

pub returns-in-Err : goal.returns-in-Err
returns-in-Err c =
    let k : FitsSigned w32 c.args.kind = search rules in
    under_fails m.Core core_kinds c.args.kind c.args.from.now.left c.args.from.now.rest.now (to_z-of_z w32 c.args.kind k) c.in-Err.fault c.in-Err.ensures
