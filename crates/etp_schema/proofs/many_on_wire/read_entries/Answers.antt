use Rattle.std.proofs.lemmas.Result.{err_from_is_err_and}
use Rattle.avro_bin.specs.Along.{put_at}
use Rattle.avro_bin.proofs.StepLemmas.{items_next, items_fail, items_done}
use Rattle.etp_schema.proofs.many_on_wire.read_entries.Goals as goal

pub returns-in_err-read_entry : goal.returns-in_err-read_entry
returns-in_err-read_entry g c =
    let p = err_from_is_err_and c.from_residual.result c.from_residual.ensures.1 in
    rw (p.1, p.2) (items_fail (put_at g.T.Typed.form.at) c.in_err-read_entry.field-0.0 c.args.count c.loop.counter (c.loop.held.entries, c.loop.from.left) c.loop.from.rest.now _ c.loop-test.true c.in_err-read_entry.ensures c.loop.invariant)

pub loop-preserved : goal.loop-preserved
loop-preserved g c = items_next (put_at g.T.Typed.form.at) c.args.count c.loop.counter (c.loop.held.entries, c.loop.from.left) c.loop.from.rest.now _ _ c.loop-test.true c.in_ok-read_entry.ensures c.loop.invariant

pub returns : goal.returns
returns g c = items_done (put_at g.T.Typed.form.at) c.args.count c.loop.counter (c.loop.held.entries, c.loop.from.left) c.loop.from.rest.now _ c.loop-test.false c.loop.invariant
