use Rattle.std.proofs.Common.{ap, sym, ◌∙◌}
use Rattle.std.specs.Prelude.{find, nat_le}
use Rattle.entry_index.specs.Chains.{chain}
use Rattle.entry_index.specs.Index.{places_of}
use Rattle.entry_index.proofs.IndexLemmas.{places-are}
use Rattle.entry_index.proofs.index.EntryIndex.first_from.Goals as goal

pub returns : goal.returns
returns g c =
    let eq = g.K.PartialEq.eq in
    let chains = c.self.inside.chains.chains in
    let latest = c.self.inside.latest.entries in
    let key = c.args.key.now in
    c.first_from.ensures ∙ ap (λ n. find (nat_le c.args.from) (chain chains n)) c.number_of.ensures
    ∙ ap (find (nat_le c.args.from)) (sym (places-are eq latest chains key) ∙ ap (λ v. places_of eq v key) c.self.view_is)
