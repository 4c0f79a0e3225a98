use Rattle.std.proofs.Common.{FitsSigned, ap, is_some, rules, w64, ◌∙◌}
use Rattle.std.proofs.lemmas.Int.{to_z-of_z}
use Rattle.std.specs.BTreeMap.{get}
use Rattle.std.specs.Ordering.{int_cmp}
use Rattle.client_parts.proofs.grouping.add.Goals as goal

pub returns-in_default-clause-there : goal.returns-in_default-clause-there
returns-in_default-clause-there c =
    let fits : FitsSigned w64 c.args.point.channel = search rules in
    ap is_some c.in_default.ensures.value ∙ ap (λ z. is_some (get int_cmp c.args.held.now z)) (to_z-of_z w64 c.args.point.channel fits)
