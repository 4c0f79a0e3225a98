use Rattle.store_machine.proofs.WatchLemmas.{known_there}
use Rattle.store_machine.proofs.watch.lag_since.Goals as goal

pub carried-requires-clause-begun : goal.carried-requires-clause-begun
carried-requires-clause-begun c = (c.suits.ensures c.if-not-suits.false).begun

pub carried-requires-clause-inside : goal.carried-requires-clause-inside
carried-requires-clause-inside c = (c.suits.ensures c.if-not-suits.false).inside

pub carried-requires-clause-within : goal.carried-requires-clause-within
carried-requires-clause-within c = (c.suits.ensures c.if-not-suits.false).within

pub carried-requires-clause-known : goal.carried-requires-clause-known
carried-requires-clause-known c =
    let a = c.args in
    known_there a.channels.now a.ids a.followed.now a.from a.mark a.watches.now a.place _ c.requires.known c.in-Some.ensures.lookup.3.0 c.in-Some.ensures.lookup.1 (c.suits.ensures c.if-not-suits.false)
