use Rattle.std.proofs.Common.{arith, rules}
use Rattle.store_hub.proofs.CountLemmas.{legal_begun, counted_all, counted_on}
use Rattle.store_hub.proofs.turns.door_entries.Goals as goal

pub loop-place-preserved : goal.loop-place-preserved
loop-place-preserved c = record {
  ends = search rules;
  small = omega arith;
  rest = counted_on 0 c.args.store.now.journal c.loop-place.count c.loop-place.place c.door_count-count.result c.entry.result.now c.entry.ensures c.door_count-count.ensures.is c.loop-place.invariant.rest;
}

pub returns-clause-count : goal.returns-clause-count
returns-clause-count c = counted_all 0 c.args.store.now.journal c.loop-place.count c.loop-place.place (omega arith) c.loop-place.invariant.rest

pub returns-clause-begun : goal.returns-clause-begun
returns-clause-begun c = legal_begun c.args.store.now.config c.args.store.now.journal c.entries-place-end.ensures.legal
