use Rattle.std.proofs.lemmas.Result.{err_from_is_err_and}
use Rattle.avro_bin.specs.Along.{push_at}
use Rattle.avro_bin.proofs.StepLemmas.{items_next, items_fail, items_done}
use Rattle.etp_schema.specs.Reading.{pair_at}
use Rattle.etp_schema.proofs.many_on_wire.read_some_pairs.Goals as goal

pub returns-in_err-read_pair : goal.returns-in_err-read_pair
returns-in_err-read_pair g c =
    let p = err_from_is_err_and c.from_residual-in_err-read_pair.result c.from_residual-in_err-read_pair.ensures.1 in
    rw (p.1, p.2) (items_fail (push_at (pair_at g.T.Typed.form.at)) c.in_err-read_pair.field-0.0 c.args.count c.loop.counter (c.loop.pairs.items, c.loop.from.left) c.loop.from.rest.now _ c.loop-test.true c.in_err-read_pair.ensures c.loop.invariant)

pub loop-preserved : goal.loop-preserved
loop-preserved g c = items_next (push_at (pair_at g.T.Typed.form.at)) c.args.count c.loop.counter (c.loop.pairs.items, c.loop.from.left) c.loop.from.rest.now _ _ c.loop-test.true c.in_ok-read_pair.ensures c.loop.invariant

pub returns : goal.returns
returns g c = items_done (push_at (pair_at g.T.Typed.form.at)) c.args.count c.loop.counter (c.loop.pairs.items, c.loop.from.left) c.loop.from.rest.now _ c.loop-test.false c.loop.invariant
