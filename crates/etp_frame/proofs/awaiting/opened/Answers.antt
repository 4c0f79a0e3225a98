use Rattle.std.proofs.Common.{◌≡◌, ◌<◌, Option, Ok, w64, to_z, of_z, sym, ap, subst, arith}
use Rattle.std.proofs.lemmas.Int.{to_z-of_z}
use Rattle.etp_frame.specs.Joining.{Awaited}
use Rattle.etp_frame.specs.Kept.{awaiting}
use Rattle.etp_values.specs.Gives.{Gives}
use Rattle.etp_frame.specs.declared.joining.JoinError.TheVariants as e
use Rattle.etp_frame.specs.declared.joining.Joined.{Joined}
use Rattle.etp_frame.proofs.KeptLemmas.{whole_at_once, opened_more}
use Rattle.etp_frame.proofs.awaiting.opened.Goals as goal

pub returns-then-left-eq0 : goal.returns-then-left-eq0
returns-then-left-eq0 c =
    let none : awaiting c.args.objects ≡ 0 = omega (arith, c.count_awaiting-left.ensures, ap awaiting c.as_slice.ensures.items, c.if-left-eq0.true) in
    subst (λ (v : Joined × Option Awaited). Gives e.NoMemory c.brought.result (Ok v)) (whole_at_once c.args.correlation c.args.carrier c.args.objects none) c.brought.ensures.gives

pub returns : goal.returns
returns c =
    let some : 0 < awaiting c.args.objects = omega (arith, c.count_awaiting-left.ensures, ap awaiting c.as_slice.ensures.items, c.if-left-eq0.false) in
    ap Ok (sym (opened_more (to_z w64 (of_z w64 c.args.correlation)) c.args.correlation c.args.carrier c.into_vec.result.items c.args.objects (to_z-of_z w64 c.args.correlation c.ranges.correlation) c.into_vec.ensures.items some))
