use Rattle.std.proofs.Common.{◌≡◌, ◌≤◌, length, sym, ap, ◌∙◌, subst}
use Rattle.entry_index.proofs.ChainLemmas.{length-chains}
use Rattle.entry_index.proofs.chains.Chains.mark_from.Goals as goal

pub mark_places-requires-clause-known : goal.mark_places-requires-clause-known
mark_places-requires-clause-known c =
    let same : length c.args.self.now.chains ≡ length c.as_slice.result.now = ap (λ v. length v.chains) (sym c.self.view_is) ∙ length-chains c.self.inside.steps.items ∙ ap length (sym c.as_slice.ensures.value) in
    subst (λ l. c.args.number ≤ l) same c.requires
