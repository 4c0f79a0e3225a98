use Rattle.std.proofs.Common.{sym, ◌∙◌}
use Rattle.entry_index.specs.Chains.{chain}
use Rattle.entry_index.specs.Steps.{chains_of}
use Rattle.entry_index.proofs.ChainLemmas.{found-jumped}
use Rattle.entry_index.proofs.chains.next_chain.Goals as goal

pub returns-then-is_reached-clause-found : goal.returns-then-is_reached-clause-found
returns-then-is_reached-clause-found c =
    let chains = chains_of c.args.steps.now in
    let step = c.args.step.now in
    found-jumped c.args.from c.last_place.result (chain chains step.jump.to) (chain chains step.before) c.requires.begins.1 c.last_place.ensures (sym c.is_reached.ensures ∙ c.if-is_reached.true)
