use Rattle.std.proofs.Common.{◌++◌, [], length, take, drop, ap, sym, ◌∙◌, arith, append_assoc}
use Rattle.std.proofs.Math.Seq.{take-add}
use Rattle.std.proofs.lemmas.List.{length-take, take_all}
use Rattle.channel_points.specs.Blocks.{joined}
use Rattle.channel_points.proofs.blocks.add_all.Goals as goal

pub add_block-requires-clause-few : goal.add_block-requires-clause-few
add_block-requires-clause-few c =
    let size = ap length c.in_ok-part.ensures ∙ length-take c.min-taken.result (drop c.loop-start.start c.args.points.now) in
    omega (arith, size, c.min-taken.ensures)

pub loop-start-preserved : goal.loop-start-preserved
loop-start-preserved c =
    let l = c.loop-start in
    let xs = c.args.points.now in
    let n = c.min-taken.result in
    let front = joined c.args.blocks.now.items [] in
    record {
      chunks = c.in_ok-add_block.ensures.chunks;
      points = c.in_ok-add_block.ensures.points ∙ (λ j. l.invariant.points j ++ c.in_ok-part.ensures j) ∙ append_assoc front (take l.start xs) (take n (drop l.start xs)) ∙ ap (λ x. front ++ x) (sym (take-add l.start n xs));
      within = omega (arith, c.min-taken.ensures, c.len.ensures, c.len-in-loop-start.ensures);
    }

pub returns-clause-points : goal.returns-clause-points
returns-clause-points c =
    let l = c.loop-start in
    let front = joined c.args.blocks.now.items [] in
    l.invariant.points ∙ ap (λ x. front ++ x) (take_all l.start c.args.points.now (omega (arith, c.len.ensures)))
