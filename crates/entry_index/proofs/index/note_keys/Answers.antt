use Rattle.std.proofs.Common.{rules, ◌≡◌, ◌∷◌, [], length, ap, arith}
use Rattle.std.specs.Vec.Iter.{into_iter_items}
use Rattle.std.proofs.lemmas.List.{nil_from_length}
use Rattle.entry_index.proofs.IndexLemmas.{noting-start, noting-next, noting-end}
use Rattle.entry_index.proofs.index.note_keys.Goals as goal

pub loop-key-init : goal.loop-key-init
loop-key-init g c =
    let all : into_iter_items c.into_iter-key-iterator.result ≡ c.args.keys = search rules in
    record {
      noting = noting-start g.K.PartialEq.eq c.args.place c.args.latest.now.entries c.args.chains.now.chains c.args.keys (into_iter_items c.into_iter-key-iterator.result) c.requires.keeps all;
      latest_enough = omega (arith, c.requires.latest_room, ap length all);
      chains_enough = omega (arith, c.requires.chains_room, ap length all);
      latest_used = omega (arith, ap length all);
      chains_used = omega (arith, ap length all);
    }

pub note_key-requires-clause-latest_room : goal.note_key-requires-clause-latest_room
note_key-requires-clause-latest_room g c =
    let split : into_iter_items c.loop-key.key-iterator ≡ c.in-Some.key ∷ into_iter_items c.next.new.self = search rules in
    omega (arith, c.loop-key.invariant.latest_enough, ap length split)

pub note_key-requires-clause-chains_room : goal.note_key-requires-clause-chains_room
note_key-requires-clause-chains_room g c =
    let split : into_iter_items c.loop-key.key-iterator ≡ c.in-Some.key ∷ into_iter_items c.next.new.self = search rules in
    omega (arith, c.loop-key.invariant.chains_enough, ap length split)

pub note_key-requires-clause-keeps : goal.note_key-requires-clause-keeps
note_key-requires-clause-keeps g c = c.loop-key.invariant.noting.keeps

pub loop-key-preserved : goal.loop-key-preserved
loop-key-preserved g c =
    let rest = into_iter_items c.loop-key.key-iterator in
    let left = into_iter_items c.next.new.self in
    let split : rest ≡ c.in-Some.key ∷ left = search rules in
    record {
      noting = noting-next g.K.PartialEq.eq c.args.place c.args.latest.now.entries c.args.chains.now.chains c.args.keys c.loop-key.latest.entries c.note_key.new.latest.entries c.loop-key.chains.chains c.note_key.new.chains.chains
          c.in-Some.key rest left c.loop-key.invariant.noting split c.note_key.ensures.places c.note_key.ensures.keeps;
      latest_enough = omega (arith, c.loop-key.invariant.latest_enough, ap length split, c.note_key.ensures.latest_room);
      chains_enough = omega (arith, c.loop-key.invariant.chains_enough, ap length split, c.note_key.ensures.chains_room);
      latest_used = omega (arith, c.loop-key.invariant.latest_used, ap length split, c.note_key.ensures.latest_room);
      chains_used = omega (arith, c.loop-key.invariant.chains_used, ap length split, c.note_key.ensures.chains_room);
    }

pub returns-clause-places : goal.returns-clause-places
returns-clause-places g c =
    let empty : length (into_iter_items c.loop-key.key-iterator) ≡ 0 = search rules in
    let none : into_iter_items c.loop-key.key-iterator ≡ [] = nil_from_length (into_iter_items c.loop-key.key-iterator) empty in
    noting-end g.K.PartialEq.eq c.args.place c.args.latest.now.entries c.args.chains.now.chains c.args.keys c.loop-key.latest.entries c.loop-key.chains.chains (into_iter_items c.loop-key.key-iterator) c.loop-key.invariant.noting none

pub returns-clause-keeps : goal.returns-clause-keeps
returns-clause-keeps g c = c.loop-key.invariant.noting.keeps

pub returns-clause-latest_room : goal.returns-clause-latest_room
returns-clause-latest_room g c = omega (arith, c.loop-key.invariant.latest_used)

pub returns-clause-chains_room : goal.returns-clause-chains_room
returns-clause-chains_room g c = omega (arith, c.loop-key.invariant.chains_used)
