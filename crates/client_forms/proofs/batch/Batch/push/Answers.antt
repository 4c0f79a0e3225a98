use Rattle.std.proofs.Common.{◌≡◌, ◌++◌, ◌∷◌, [], ℤ, rules, refl, ap, ◌∙◌, FitsSigned, w64, to_z, of_z, to_z-of_z}
use Rattle.client_forms.proofs.BatchLemmas.{points_more, bytes_more}
use Rattle.client_forms.proofs.batch.Batch.push.Goals as goal

pub returns : goal.returns
returns c = (
  refl,
  λ held h.
      let f : FitsSigned w64 c.args.self.now.channel = search rules in
      let same : to_z w64 (of_z w64 c.args.self.now.channel) ≡ c.args.self.now.channel = to_z-of_z f in
      record {
        points = c.in_ok-push.ensures.items ∙ ap (λ (n : ℤ). c.args.self.now.points.items ++ (record { channel = n; point = c.args.point }) ∷ []) same ∙ points_more c.args.self.now.channel held c.args.point c.args.self.now.points.items h.points;
        bytes = c.saturating_add-bytes.ensures ∙ bytes_more held c.args.point c.args.self.now.bytes c.point_bytes.result h.bytes c.point_bytes.ensures;
      },
)
