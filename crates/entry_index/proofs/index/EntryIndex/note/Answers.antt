use Rattle.std.proofs.Common.{◌≡◌, ◌≤◌, ◌+◌, ◌++◌, ◌∷◌, [], cond, refl, ap, sym, ◌∙◌, subst}
use Rattle.std.specs.List.{list_any}
use Rattle.entry_index.specs.Chains.{chain}
use Rattle.entry_index.specs.Index.{places_of, number_in}
use Rattle.entry_index.proofs.IndexLemmas.{places-are, places-below, keeps-at, keeps-past, noted-fresh}
use Rattle.entry_index.proofs.index.EntryIndex.note.Goals as goal

pub note_keys-requires-clause-keeps : goal.note_keys-requires-clause-keeps
note_keys-requires-clause-keeps g c =
    let later = subst (λ v. v.past ≤ c.args.place) (sym c.self.view_is) c.requires.later in
    keeps-at g.K.PartialEq.eq c.self.inside.latest.entries c.self.inside.chains.chains c.self.inside.past c.args.place c.self.invariant later

pub invariant_of-self : goal.invariant_of-self
invariant_of-self g c = keeps-past g.K.PartialEq.eq c.note_keys.new.latest.entries c.note_keys.new.chains.chains c.args.place (c.args.place + 1) c.note_keys.ensures.keeps refl

pub returns-clause-places : goal.returns-clause-places
returns-clause-places g c = λ q.
    let eq = g.K.PartialEq.eq in
    let place = c.args.place in
    let chains = c.self.inside.chains.chains in
    let latest = c.self.inside.latest.entries in
    let later = subst (λ v. v.past ≤ place) (sym c.self.view_is) c.requires.later in
    let before = chain chains (number_in eq latest q) in
    let seen : before ≡ places_of eq c.args.self.now q = sym (places-are eq latest chains q) ∙ ap (λ v. places_of eq v q) c.self.view_is in
    places-are eq c.note_keys.new.latest.entries c.note_keys.new.chains.chains q ∙ c.note_keys.ensures.places q
    ∙ noted-fresh eq place q before c.args.keys (places-below eq latest chains c.self.inside.past place q c.self.invariant later)
    ∙ ap (λ ps. cond (list_any (eq q) c.args.keys) (ps ++ place ∷ []) ps) seen
