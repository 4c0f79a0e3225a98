use Rattle.std.proofs.Common.{rules, ◌∙◌, ℤ, w32, subst, sym}
use Rattle.std.proofs.lemmas.Int.{to_z-of_z}
use Rattle.etp_frame.specs.Message.{IsOf}
use Rattle.session_core.proofs.WritableLemmas.{ArePlain, flags_plain, is_of}
use Rattle.session_core.proofs.outbox.outgoing.Goals as goal

pub returns-clause-writable : goal.returns-clause-writable
returns-clause-writable c =
    let under : IsOf c.args.part.message c.sent_under.result = subst (λ (p : ℤ). IsOf c.args.part.message p) (sym c.sent_under.ensures) (is_of c.args.request.now.protocol c.args.part.message) in
    let plain : ArePlain c.flags_to.result = subst ArePlain (sym c.flags_to.ensures) (flags_plain c.args.part.to c.args.part.last c.args.left) in (
      (
        to_z-of_z w32 c.kind.result (search rules) ∙ c.kind.ensures,
        subst (λ (p : ℤ). IsOf c.args.part.message p) (sym (to_z-of_z w32 c.sent_under.result (search rules))) under,
      ),
      subst ArePlain (sym (to_z-of_z w32 c.flags_to.result (search rules))) plain,
    )
