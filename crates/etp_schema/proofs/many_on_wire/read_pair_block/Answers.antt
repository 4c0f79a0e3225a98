use Rattle.std.proofs.Common.{◌≡◌, rules, FitsSigned, w64, of_z, to_z, to_z-of_z}
use Rattle.avro_bin.specs.Along.{push_at}
use Rattle.etp_schema.specs.Reading.{pair_at}
use Rattle.etp_schema.proofs.ItemLemmas.{block_filled, block_not_filled}
use Rattle.etp_schema.proofs.many_on_wire.read_pair_block.Goals as goal

pub returns-then-not-is_filled : goal.returns-then-not-is_filled
returns-then-not-is_filled g c =
    let f : FitsSigned w64 c.args.count = search rules in
    let same : to_z w64 (of_z w64 c.args.count) ≡ c.args.count = to_z-of_z f in
    let fs : FitsSigned w64 c.in_ok-size.size = search rules in
    let size : to_z w64 (of_z w64 c.in_ok-size.size) ≡ c.in_ok-size.size = to_z-of_z fs in
    let items = rw c.in_ok-size.ensures.1 at c.in_ok-read_some_pairs.ensures in
    let full = rw (size, c.rest.ensures, c.rest-before.ensures) at c.if-not-is_filled.ensures in
    rw c.rest-start.ensures (block_not_filled (push_at (pair_at g.T.Typed.form.at)) (c.args.pairs.now.items, c.args.from.now.left) c.args.count c.in_ok-size.size _ c.args.from.now.rest.now _ _ (rw same at c.if-count-ge0.false) (rw size at c.if-size-lt0.false) (rw same at c.unsigned_abs.ensures.value) c.in_ok-size.ensures.0 items full)

pub returns : goal.returns
returns g c =
    let f : FitsSigned w64 c.args.count = search rules in
    let same : to_z w64 (of_z w64 c.args.count) ≡ c.args.count = to_z-of_z f in
    let fs : FitsSigned w64 c.in_ok-size.size = search rules in
    let size : to_z w64 (of_z w64 c.in_ok-size.size) ≡ c.in_ok-size.size = to_z-of_z fs in
    let items = rw c.in_ok-size.ensures.1 at c.in_ok-read_some_pairs.ensures in
    let full = rw (size, c.rest.ensures, c.rest-before.ensures) at c.if-not-is_filled.ensures in
    block_filled (push_at (pair_at g.T.Typed.form.at)) (c.args.pairs.now.items, c.args.from.now.left) c.args.count c.in_ok-size.size _ c.args.from.now.rest.now _ _ (rw same at c.if-count-ge0.false) (rw size at c.if-size-lt0.false) (rw same at c.unsigned_abs.ensures.value) c.in_ok-size.ensures.0 items full
