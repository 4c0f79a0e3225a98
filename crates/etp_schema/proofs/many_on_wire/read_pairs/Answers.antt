use Rattle.std.proofs.Common.{◌≡◌, ◌+◌, ◌<◌, ◌≤◌, length, rules, FitsSigned, w64, of_z, to_z, to_z-of_z}
use Rattle.std.proofs.lemmas.Result.{err_from_is_err_and}
use Rattle.avro_bin.specs.Along.{push_at}
use Rattle.avro_bin.proofs.StepLemmas.{blocks_stop, blocks_more, blocks_ends, blocks_none, blocks_fail, is_zero}
use Rattle.etp_schema.specs.Reading.{pair_at}
use Rattle.etp_schema.proofs.many_on_wire.read_pairs.Goals as goal

pub returns-in_err-count : goal.returns-in_err-count
returns-in_err-count g c =
    let p = err_from_is_err_and c.from_residual.result c.from_residual.ensures.1 in
    let lt : c.loop.counter < length c.args.from.now.rest.now + 1 = rw c.rest-bytes.ensures at c.loop-test.true in
    rw (p.1, p.2) (blocks_ends (push_at (pair_at g.T.Typed.form.at)) c.in_err-count.field-0.0 (length c.args.from.now.rest.now) c.loop.counter (c.loop.pairs.items, c.loop.from.left) c.loop.from.rest.now _ lt c.in_err-count.ensures c.loop.invariant)

pub returns-then-count-eq0 : goal.returns-then-count-eq0
returns-then-count-eq0 g c =
    let f : FitsSigned w64 c.in_ok-count.count = search rules in
    let lt : c.loop.counter < length c.args.from.now.rest.now + 1 = rw c.rest-bytes.ensures at c.loop-test.true in
    rw c.in_ok-count.ensures.1 (blocks_stop (push_at (pair_at g.T.Typed.form.at)) (length c.args.from.now.rest.now) c.loop.counter (c.loop.pairs.items, c.loop.from.left) c.loop.from.rest.now c.in_ok-count.count _ _ lt c.in_ok-count.ensures.0 (is_zero c.in_ok-count.count f c.if-count-eq0.true) c.loop.invariant)

pub returns-in_err-read_pair_block : goal.returns-in_err-read_pair_block
returns-in_err-read_pair_block g c =
    let p = err_from_is_err_and c.from_residual-in_err-read_pair_block.result c.from_residual-in_err-read_pair_block.ensures.1 in
    let f : FitsSigned w64 c.in_ok-count.count = search rules in
    let same : to_z w64 (of_z w64 c.in_ok-count.count) ≡ c.in_ok-count.count = to_z-of_z f in
    let lt : c.loop.counter < length c.args.from.now.rest.now + 1 = rw c.rest-bytes.ensures at c.loop-test.true in
    let h = rw (same, c.in_ok-count.ensures.1) at c.in_err-read_pair_block.ensures in
    rw (p.1, p.2) (blocks_fail (push_at (pair_at g.T.Typed.form.at)) c.in_err-read_pair_block.field-0.0 (length c.args.from.now.rest.now) c.loop.counter (c.loop.pairs.items, c.loop.from.left) c.loop.from.rest.now c.in_ok-count.count _ _ lt c.in_ok-count.ensures.0 c.if-count-eq0.false h c.loop.invariant)

pub loop-preserved : goal.loop-preserved
loop-preserved g c =
    let f : FitsSigned w64 c.in_ok-count.count = search rules in
    let same : to_z w64 (of_z w64 c.in_ok-count.count) ≡ c.in_ok-count.count = to_z-of_z f in
    let lt : c.loop.counter < length c.args.from.now.rest.now + 1 = rw c.rest-bytes.ensures at c.loop-test.true in
    let h = rw (same, c.in_ok-count.ensures.1) at c.in_ok-read_pair_block.ensures in
    blocks_more (push_at (pair_at g.T.Typed.form.at)) (length c.args.from.now.rest.now) c.loop.counter (c.loop.pairs.items, c.loop.from.left) c.loop.from.rest.now c.in_ok-count.count _ _ _ lt c.in_ok-count.ensures.0 c.if-count-eq0.false h c.loop.invariant

pub returns : goal.returns
returns g c =
    let le : length c.args.from.now.rest.now + 1 ≤ c.loop.counter = rw c.rest-bytes.ensures at c.loop-test.false in
    rw c.rest.ensures (blocks_none (push_at (pair_at g.T.Typed.form.at)) (length c.args.from.now.rest.now) c.loop.counter (c.loop.pairs.items, c.loop.from.left) c.loop.from.rest.now _ le c.loop.invariant)
