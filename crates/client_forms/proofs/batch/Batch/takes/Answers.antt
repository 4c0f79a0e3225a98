use Rattle.std.proofs.Common.{arith, ◌≡◌, length, ◌∙◌}
use Rattle.std.proofs.lemmas.Bool.Decides.{nat_tests}
use Rattle.client_forms.proofs.BatchLemmas.{as_many, bytes_more, takes_within}
use Rattle.client_forms.proofs.batch.Batch.takes.Goals as goal

pub returns-then-len-lt-MOST_POINTS : goal.returns-then-len-lt-MOST_POINTS
returns-then-len-lt-MOST_POINTS c = λ held h.
    let many : length c.args.self.now.points.items ≡ length held = as_many c.args.self.now.channel held c.args.self.now.points.items h.points in
    takes_within held c.args.point.now (length c.args.self.now.points.items) c.saturating_add.result many
    (λ z. grind (arith, nat_tests, z, c.is_empty.ensures, c.if-is_empty.false))
    (let e : c.len.result ≡ length c.args.self.now.points.items = c.len.ensures ∙ c.args.self.now.points.ok.0 in omega (arith, e, c.if-len-lt-MOST_POINTS.true))
    (c.saturating_add.ensures ∙ bytes_more held c.args.point.now c.args.self.now.bytes c.point_bytes.result h.bytes c.point_bytes.ensures)
