use Rattle.std.proofs.Common.{◌≡◌, ◌+◌, ◌%◌, to_z, of_z, w64, to_z-of_z, sym, ap, ◌∙◌, arith, rules}
use Rattle.std.proofs.lemmas.List.{length-set}
use Rattle.avro_bin.specs.Number.{plain_number}
use Rattle.avro_bin.proofs.GroupStepLemmas.{put_begin, put_step, put_last, put_tenth, top_less, nine}
use Rattle.avro_bin.proofs.numbers.groups_of.Goals as goal

pub loop-i-init : goal.loop-i-init
loop-i-init c =
    record {
      so_far = put_begin (to_z w64 (of_z w64 c.args.x)) c.unsigned_of-left.result c.unsigned_of-left.ensures;
      count = search rules;
      small = omega (arith, c.unsigned_of-left.type_inv);
    }

pub loop-i-preserved : goal.loop-i-preserved
loop-i-preserved c = record {
  so_far = put_step c.loop-i.i c.loop-i.left _ c.loop-i.groups c.loop-i-test.true (omega arith) c.if-left-lt128.false c.loop-i.invariant.so_far;
  count = omega (arith, length-set c.loop-i.groups c.loop-i.i (c.loop-i.left % 128 + 128), c.loop-i.invariant.count);
  small = omega (arith, top_less c.loop-i.i c.loop-i-test.true, c.loop-i.invariant.small);
}

pub returns-then-left-lt128-clause-groups : goal.returns-then-left-lt128-clause-groups
returns-then-left-lt128-clause-groups c =
    let same : to_z w64 (of_z w64 c.args.x) ≡ c.args.x = to_z-of_z c.ranges.x in
    sym (sym (ap plain_number same) ∙ put_last c.loop-i.i c.loop-i.left _ c.loop-i.groups c.loop-i-test.true (omega arith) c.if-left-lt128.true c.loop-i.invariant.so_far)

pub returns-clause-groups : goal.returns-clause-groups
returns-clause-groups c =
    let same : to_z w64 (of_z w64 c.args.x) ≡ c.args.x = to_z-of_z c.ranges.x in
    sym (sym (ap plain_number same) ∙ put_tenth c.loop-i.i c.loop-i.left _ c.loop-i.groups (nine c.loop-i.i c.loop-i-test.false c.loop-i.auto.i-end) c.loop-i.invariant.count c.loop-i.invariant.so_far)
