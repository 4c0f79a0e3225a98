use Rattle.std.proofs.Common.{arith, rules}
use Rattle.check_store.proofs.CountLemmas.{counted_all, counted_on}
use Rattle.check_store.proofs.sessions.own_entries.Goals as goal

pub loop-place-preserved : goal.loop-place-preserved
loop-place-preserved c = record {
  ends = search rules;
  small = omega arith;
  rest = counted_on c.args.by c.args.store.now.journal c.loop-place.count c.loop-place.place c.own_of-count.result c.entry.result.now c.entry.ensures c.own_of-count.ensures.count c.loop-place.invariant.rest;
}

pub returns : goal.returns
returns c = counted_all c.args.by c.args.store.now.journal c.loop-place.count c.loop-place.place (omega arith) c.loop-place.invariant.rest
