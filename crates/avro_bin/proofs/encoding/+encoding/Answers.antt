use Rattle.std.proofs.Common.{◌≡◌, ◌<◌, ◌^◌, length, arith, rules, append_assoc, to_z, w64, pos}
use Rattle.std.proofs.Transfers.{starts_with_trans, starts_with_of_append}
use Rattle.std.proofs.lemmas.Result.{err_from_is_err_and}
use Rattle.std.proofs.lemmas.Int.{ints}
use Rattle.avro_bin.proofs.ViewLemmas.{value_union}
use Rattle.avro_bin.proofs.PlainLemmas.{array_fits, map_fits}
use Rattle.avro_bin.proofs.encoding.+encoding.Goals as goal

pub put_value-returns-in_ok-put_value-in-Union-clause-written : goal.put_value-returns-in_ok-put_value-in-Union-clause-written
put_value-returns-in_ok-put_value-in-Union-clause-written t c =
    let p : to_z w64 c.in-Union.p ≡ pos c.in-Union.p = omega (arith, ints) in
    rw (c.in-Union.is, value_union, c.in_ok-put_value-in-Union.ensures.written, c.in_ok-put_number-in-Union.ensures, p, c.deref.ensures) (simp append_assoc)

pub put_array-returns-clause-fits : goal.put_array-returns-clause-fits
put_array-returns-clause-fits t c =
    let small : length c.args.trees.now < 2 ^ 63 = search rules in
    array_fits c.args.trees.now small c.in_ok-put_all.ensures.fits

pub put_map-returns-clause-fits : goal.put_map-returns-clause-fits
put_map-returns-clause-fits t c =
    let small : length c.args.named.now < 2 ^ 63 = omega (arith, c.len-count.ensures.len, c.len-count.ensures.small) in
    map_fits c.args.named.now small c.len-count.ensures.sorted c.in_ok-put_named.ensures.fits

pub put_array-returns-in_err-put_number-2-clause-written : goal.put_array-returns-in_err-put_number-2-clause-written
put_array-returns-in_err-put_number-2-clause-written t c =
    let p = err_from_is_err_and c.from_residual-in_err-put_number-2.result c.from_residual-in_err-put_number-2.ensures.1 in
    let number = starts_with_of_append c.put_number-2.new.out.items c.args.out.now.items _ c.in_ok-put_number.ensures in
    let items = starts_with_of_append c.put_all.new.out.items c.put_number-2.new.out.items _ c.in_ok-put_all.ensures.written in
    rw p.1 (starts_with_trans _ _ _ c.in_err-put_number-2.ensures (starts_with_trans _ _ _ items number))
