use Rattle.std.proofs.Common.{rules, ◌≡◌, ◌+◌, ℕ, List, Some, sym, subst, ap, ◌∙◌}
use Rattle.point_lines.specs.Points.{point_in}
use Rattle.client_forms.specs.Filling.{Turns}
use Rattle.client_forms.proofs.LineLemmas.{added, reader_with}
use Rattle.client_forms.proofs.loading.Reader.add_line.Goals as goal

pub returns-in-Ok-clause-turns : goal.returns-in-Ok-clause-turns
returns-in-Ok-clause-turns c = λ bytes left before after f h.
    let r = c.args.self.now in
    let point : point_in r.kind r.lines.line ≡ Some c.in-Ok.point = ap (λ (l : List ℕ). point_in r.kind l) (sym c.line.ensures) ∙ c.in-Ok.ensures in
    let count : c.in-Some.count ≡ r.count + 1 = search rules in
    subst (λ t. Turns t bytes left before after (reader_with r c.in-Some.count c.add.new.self) f) (sym c.turned.ensures)
    (added bytes left r f c.in-Ok.point c.in-Some.count count h point c.add.result c.add.new.self before after (c.add.ensures h.held h.holds))
