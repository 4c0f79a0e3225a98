use Rattle.std.proofs.Common.{ℕ, List, Bor, ◌+◌, ◌*◌, ◌%◌, ◌^◌, get_or, Ok, sym, ap, ◌∙◌, arith}
use Rattle.avro_bin.proofs.GroupStepLemmas.{group_fits, groups_step, groups_last, whole_rest, pow_next, nine, tenth}
use Rattle.avro_bin.proofs.numbers.groups.Goals as goal

pub overflow_mul-result : goal.overflow_mul-result
overflow_mul-result c =
    let f = group_fits c.loop-i.i c.loop-i.low c.loop-i.weight (get_or c.args.bytes.now c.loop-i.i 0) c.loop-i-test.true c.loop-i.invariant.power c.loop-i.invariant.below c.if-group-lt128.true in
    omega (arith, f.product)

pub overflow_add-result : goal.overflow_add-result
overflow_add-result c =
    let f = group_fits c.loop-i.i c.loop-i.low c.loop-i.weight (get_or c.args.bytes.now c.loop-i.i 0) c.loop-i-test.true c.loop-i.invariant.power c.loop-i.invariant.below c.if-group-lt128.true in
    omega (arith, f.sum, f.next)

pub returns-then-group-lt128 : goal.returns-then-group-lt128
returns-then-group-lt128 c =
    groups_last c.loop-i.i c.loop-i.low c.loop-i.weight c.args.bytes.now _ c.loop-i-test.true c.if-bytes-i.false c.if-group-lt128.true c.loop-i.invariant.so_far
    ∙ ap (λ r. Ok (c.loop-i.low + c.loop-i.weight * get_or c.args.bytes.now c.loop-i.i 0, r)) (whole_rest (c.loop-i.i + 1) c.args.bytes.now)

pub overflow_mul-low : goal.overflow_mul-low
overflow_mul-low c =
    let f = group_fits c.loop-i.i c.loop-i.low c.loop-i.weight (get_or c.args.bytes.now c.loop-i.i 0 % 128) c.loop-i-test.true c.loop-i.invariant.power c.loop-i.invariant.below (omega arith) in
    omega (arith, f.product)

pub overflow_add-low : goal.overflow_add-low
overflow_add-low c =
    let f = group_fits c.loop-i.i c.loop-i.low c.loop-i.weight (get_or c.args.bytes.now c.loop-i.i 0 % 128) c.loop-i-test.true c.loop-i.invariant.power c.loop-i.invariant.below (omega arith) in
    omega (arith, f.sum, f.next)

pub overflow_mul-weight : goal.overflow_mul-weight
overflow_mul-weight c =
    let f = group_fits c.loop-i.i c.loop-i.low c.loop-i.weight (get_or c.args.bytes.now c.loop-i.i 0 % 128) c.loop-i-test.true c.loop-i.invariant.power c.loop-i.invariant.below (omega arith) in
    omega (arith, f.next)

pub loop-i-preserved : goal.loop-i-preserved
loop-i-preserved c =
    let f = group_fits c.loop-i.i c.loop-i.low c.loop-i.weight (get_or c.args.bytes.now c.loop-i.i 0 % 128) c.loop-i-test.true c.loop-i.invariant.power c.loop-i.invariant.below (omega arith) in
    record {
      so_far = groups_step c.loop-i.i c.loop-i.low c.loop-i.weight c.args.bytes.now _ c.loop-i-test.true c.if-bytes-i.false c.if-group-lt128.false c.loop-i.invariant.so_far;
      within = omega (arith, c.if-bytes-i.false);
      power = ap (λ n. n * 128) c.loop-i.invariant.power ∙ sym (pow_next c.loop-i.i);
      below = f.sum;
    }

pub tenth_group-requires : goal.tenth_group-requires
tenth_group-requires c =
    let k = nine c.loop-i.i c.loop-i-test.false c.loop-i.auto.i-end in
    let w = c.loop-i.invariant.power ∙ ap (λ n. 128 ^ n) k in
    omega (arith, w, c.loop-i.invariant.below)

pub returns : goal.returns
returns c =
    let k = nine c.loop-i.i c.loop-i-test.false c.loop-i.auto.i-end in
    let w = c.loop-i.invariant.power ∙ ap (λ n. 128 ^ n) k in
    tenth (λ (x : ℕ × Bor (List ℕ)). (x.0, x.1.now)) c.loop-i.i c.loop-i.low c.loop-i.weight c.args.bytes.now _ _ k w c.loop-i.invariant.so_far c.tenth_group.ensures
