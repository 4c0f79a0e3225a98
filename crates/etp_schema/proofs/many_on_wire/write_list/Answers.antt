use Rattle.std.proofs.lemmas.Result.{err_from_is_err_and}
use Rattle.etp_schema.proofs.ItemLemmas.{no_items, empty_holds, empty_fits, items_written, list_fits}
use Rattle.etp_schema.proofs.PartLemmas.{list_holds, on_ok}
use Rattle.etp_schema.proofs.WritingLemmas.{grown}
use Rattle.etp_schema.proofs.many_on_wire.write_list.Goals as goal

pub returns-then-count-eq0-clause-written : goal.returns-then-count-eq0-clause-written
returns-then-count-eq0-clause-written g c = rw (no_items g.T.Typed.form c.args.items.now c.if-count-eq0.true) c.put_count.ensures.written

pub returns-then-count-eq0-clause-typed : goal.returns-then-count-eq0-clause-typed
returns-then-count-eq0-clause-typed g c = on_ok c.put_count.result (empty_holds g.T.Typed.form c.args.items.now c.if-count-eq0.true)

pub returns-then-count-eq0-clause-fits : goal.returns-then-count-eq0-clause-fits
returns-then-count-eq0-clause-fits g c = on_ok c.put_count.result (empty_fits g.T.Typed.form c.args.items.now c.if-count-eq0.true)

pub returns-in_err-write_items-clause-written : goal.returns-in_err-write_items-clause-written
returns-in_err-write_items-clause-written g c =
    let p = err_from_is_err_and c.from_residual-in_err-write_items.result c.from_residual-in_err-write_items.ensures.1 in
    rw p.1 (grown _ _ _ _ c.in_ok-put_count.ensures.written c.in_err-write_items.ensures.written)

pub returns-in_err-put_number-clause-written : goal.returns-in_err-put_number-clause-written
returns-in_err-put_number-clause-written g c =
    let p = err_from_is_err_and c.from_residual-in_err-put_number.result c.from_residual-in_err-put_number.ensures.1 in
    rw p.1 (grown _ _ _ _ c.in_ok-put_count.ensures.written (grown _ _ _ _ c.in_ok-write_items.ensures.written c.in_err-put_number.ensures))

pub returns-clause-written : goal.returns-clause-written
returns-clause-written g c = items_written g.T.Typed.form c.args.items.now _ _ _ _ c.if-count-eq0.false c.in_ok-put_count.ensures.written c.in_ok-write_items.ensures.written c.in_ok-put_number.ensures

pub returns-clause-typed : goal.returns-clause-typed
returns-clause-typed g c = list_holds g.T.Typed.form c.args.items.now c.in_ok-write_items.ensures.typed

pub returns-clause-fits : goal.returns-clause-fits
returns-clause-fits g c = list_fits g.T.Typed.form c.args.items.now c.in_ok-put_count.ensures.small c.in_ok-write_items.ensures.fits
