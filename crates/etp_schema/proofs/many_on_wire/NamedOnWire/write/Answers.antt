use Rattle.std.proofs.Common.{◌≡◌, length, arith}
use Rattle.std.proofs.lemmas.Result.{err_from_is_err_and}
use Rattle.etp_schema.proofs.ItemLemmas.{no_entries, no_names_hold, no_names_fit, entries_written, named_fits}
use Rattle.etp_schema.proofs.PartLemmas.{named_holds, on_ok}
use Rattle.etp_schema.proofs.WritingLemmas.{grown}
use Rattle.etp_schema.proofs.many_on_wire.NamedOnWire.write.Goals as goal

pub returns-then-count-eq0-clause-written : goal.returns-then-count-eq0-clause-written
returns-then-count-eq0-clause-written g c =
    let none : length c.args.self.now ≡ 0 = omega (arith, c.len-count.ensures.len, c.if-count-eq0.true) in
    rw (no_entries g.T.Typed.form c.args.self.now none) c.put_count.ensures.written

pub returns-then-count-eq0-clause-typed : goal.returns-then-count-eq0-clause-typed
returns-then-count-eq0-clause-typed g c =
    let none : length c.args.self.now ≡ 0 = omega (arith, c.len-count.ensures.len, c.if-count-eq0.true) in
    on_ok c.put_count.result (no_names_hold g.T.Typed.form c.args.self.now none)

pub returns-then-count-eq0-clause-fits : goal.returns-then-count-eq0-clause-fits
returns-then-count-eq0-clause-fits g c =
    let none : length c.args.self.now ≡ 0 = omega (arith, c.len-count.ensures.len, c.if-count-eq0.true) in
    on_ok c.put_count.result (no_names_fit g.T.Typed.form c.args.self.now none c.len-count.ensures.sorted)

pub returns-in_err-write_entries-clause-written : goal.returns-in_err-write_entries-clause-written
returns-in_err-write_entries-clause-written g c =
    let p = err_from_is_err_and c.from_residual-in_err-write_entries.result c.from_residual-in_err-write_entries.ensures.1 in
    rw p.1 (grown _ _ _ _ c.in_ok-put_count.ensures.written c.in_err-write_entries.ensures.written)

pub returns-in_err-put_number-clause-written : goal.returns-in_err-put_number-clause-written
returns-in_err-put_number-clause-written g c =
    let p = err_from_is_err_and c.from_residual-in_err-put_number.result c.from_residual-in_err-put_number.ensures.1 in
    rw p.1 (grown _ _ _ _ c.in_ok-put_count.ensures.written (grown _ _ _ _ c.in_ok-write_entries.ensures.written c.in_err-put_number.ensures))

pub returns-clause-written : goal.returns-clause-written
returns-clause-written g c =
    let some : length c.args.self.now ≡ 0 → ⊥ = λ (h : length c.args.self.now ≡ 0). c.if-count-eq0.false (omega (arith, c.len-count.ensures.len, h)) in
    let front = rw c.len-count.ensures.len at c.in_ok-put_count.ensures.written in
    entries_written g.T.Typed.form c.args.self.now _ _ _ _ some front c.in_ok-write_entries.ensures.written c.in_ok-put_number.ensures

pub returns-clause-typed : goal.returns-clause-typed
returns-clause-typed g c = named_holds g.T.Typed.form c.args.self.now c.in_ok-write_entries.ensures.typed

pub returns-clause-fits : goal.returns-clause-fits
returns-clause-fits g c = named_fits g.T.Typed.form c.args.self.now (omega (arith, c.len-count.ensures.len, c.len-count.ensures.small)) c.len-count.ensures.sorted c.in_ok-write_entries.ensures.fits
