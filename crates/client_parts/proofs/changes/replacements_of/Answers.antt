use Rattle.std.proofs.Common.{◌≡◌, ◌∙◌, IfSome, ap, is_some, subst, sym}
use Rattle.std.specs.BTreeMap.{get}
use Rattle.std.specs.Ordering.{int_cmp}
use Rattle.std.specs.Prelude.{ℤ}
use Rattle.client_parts.specs.Grouping.{group}
use Rattle.client_parts.proofs.GroupLemmas.{replaced_so}
use Rattle.client_parts.proofs.changes.replacements_of.Goals as goal

pub returns : goal.returns
returns c =
    let groups = c.in_ok-groups.ensures in
    let is = c.in-Some.is in
    replaced_so c.args.interval.now c.args.channels.now c.args.points (get int_cmp c.in-Some.held) c.in_ok-changes.changes (ap is_some (sym is) ∙ groups.all)
    (subst (λ o. IfSome o (λ h. (q : ℤ) → get int_cmp h q ≡ group c.args.channels.now c.args.points q)) is groups.points) c.in_ok-changes.ensures
