use Rattle.std.proofs.Common.{◌++◌, ◌∷◌, [], Some, ap, sym, ◌∙◌}
use Rattle.indexmap.specs.IndexMap.{Updates}
use Rattle.entry_index.specs.Chains.{chain, last_of}
use Rattle.entry_index.specs.Index.{ends_at}
use Rattle.entry_index.proofs.IndexLemmas.{noted-there, noted-now, keeps-now, if-ok}
use Rattle.entry_index.proofs.index.note_key.Goals as goal

pub returns-then-is_place-clause-places : goal.returns-then-is_place-clause-places
returns-then-is_place-clause-places g c =
    let eq = g.K.PartialEq.eq in
    let chains = c.args.chains.now.chains in
    let latest = c.args.latest.now.entries in
    let ended = (λ j. ends_at (last_of (chain chains (sym c.number_of-before.ensures j))) c.args.place) ∙ ap (λ o. ends_at o c.args.place) (sym c.last.ensures) ∙ sym c.is_place.ensures ∙ c.if-is_place.true in
    noted-there eq g.met.K.Eq.laws latest chains c.args.place c.args.key ended

pub returns-clause-places : goal.returns-clause-places
returns-clause-places g c =
    let eq = g.K.PartialEq.eq in
    let chains = c.args.chains.now.chains in
    let latest = c.args.latest.now.entries in
    let n = c.push-number.result in
    let further = (λ j. ends_at (last_of (chain chains (sym c.number_of-before.ensures j))) c.args.place) ∙ ap (λ o. ends_at o c.args.place) (sym c.last.ensures) ∙ sym c.is_place.ensures ∙ c.if-is_place.false in
    let pushed = c.push-number.ensures.chains ∙ (λ j. chains ++ (chain chains (c.number_of-before.ensures j) ++ c.args.place ∷ []) ∷ []) in
    let put = (if-ok {P = Updates eq c.args.latest.now c.insert.new.self c.args.key (Some n)} c.insert.result (c.insert.ensures.succeeds c.requires.latest_room) c.insert.ensures.updates).0 in
    noted-now eq g.met.K.Eq.laws latest c.insert.new.self.entries chains c.push-number.new.self.chains c.args.place n c.args.key c.requires.keeps further pushed c.push-number.ensures.number put

pub returns-clause-keeps : goal.returns-clause-keeps
returns-clause-keeps g c =
    let eq = g.K.PartialEq.eq in
    let chains = c.args.chains.now.chains in
    let latest = c.args.latest.now.entries in
    let n = c.push-number.result in
    let pushed = c.push-number.ensures.chains ∙ (λ j. chains ++ (chain chains (c.number_of-before.ensures j) ++ c.args.place ∷ []) ∷ []) in
    let put = (if-ok {P = Updates eq c.args.latest.now c.insert.new.self c.args.key (Some n)} c.insert.result (c.insert.ensures.succeeds c.requires.latest_room) c.insert.ensures.updates).0 in
    keeps-now eq g.met.K.Eq.laws latest c.insert.new.self.entries chains c.push-number.new.self.chains c.args.place n c.args.key c.requires.keeps pushed c.push-number.ensures.number put
