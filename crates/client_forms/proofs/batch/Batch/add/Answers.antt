use Rattle.std.proofs.Common.{◌∷◌, [], rules, sym, ap, subst, ◌∙◌, FitsSigned, w64, to_z-of_z}
use Rattle.client_forms.specs.Filling.{Holds}
use Rattle.client_forms.specs.declared.batch.Batch.{Batch}
use Rattle.client_forms.proofs.batch.Batch.add.Goals as goal

pub returns : goal.returns
returns c = λ held h.
    let f : FitsSigned w64 c.args.self.now.channel = search rules in
    let made = c.in_ok-push-2.ensures in (
      sym (c.takes.ensures held h) ∙ c.if-takes.false,
      ap (λ (b : Batch). b.channel) c.replace.ensures.after ∙ made.0 ∙ c.new-next.ensures.0 ∙ to_z-of_z f,
      subst (λ (b : Batch). Holds b (c.args.point ∷ [])) (sym c.replace.ensures.after) (made.1 [] c.new-next.ensures.1),
      ap (λ (b : Batch). b.points.items) c.replace.ensures.value ∙ h.points,
    )
