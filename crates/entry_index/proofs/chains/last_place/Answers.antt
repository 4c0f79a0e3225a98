use Rattle.std.proofs.Common.{sym, arith}
use Rattle.entry_index.proofs.ChainLemmas.{step-of, last-step}
use Rattle.entry_index.proofs.chains.last_place.Goals as goal

pub returns : goal.returns
returns c = sym (last-step c.args.steps.now c.args.number _ (step-of c.args.steps.now c.args.number (record { place = 0; before = 0; jump = record { to = 0; length = 0 } }) c.requires.chained (omega (arith, c.if-number-eq0.false)) c.requires.known))
