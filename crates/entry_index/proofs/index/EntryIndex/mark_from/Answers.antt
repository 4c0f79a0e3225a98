use Rattle.std.proofs.Common.{ap, sym, ◌∙◌}
use Rattle.entry_index.specs.Chains.{chain}
use Rattle.entry_index.specs.Index.{places_of}
use Rattle.entry_index.specs.Marks.{marked_places}
use Rattle.entry_index.proofs.IndexLemmas.{places-are}
use Rattle.entry_index.proofs.index.EntryIndex.mark_from.Goals as goal

pub returns : goal.returns
returns g c =
    let eq = g.K.PartialEq.eq in
    let a = c.args in
    let chains = c.self.inside.chains.chains in
    let latest = c.self.inside.latest.entries in
    let key = a.key.now in
    c.mark_from.ensures ∙ ap (λ n. marked_places a.from a.first (chain chains n) a.marks.now) c.number_of.ensures
    ∙ ap (λ ps. marked_places a.from a.first ps a.marks.now) (sym (places-are eq latest chains key) ∙ ap (λ v. places_of eq v key) c.self.view_is)
