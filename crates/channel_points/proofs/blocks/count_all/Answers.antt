use Rattle.std.proofs.Common.{ap, ◌∙◌, [], length, arith}
use Rattle.std.proofs.lemmas.List.{take_all}
use Rattle.channel_points.specs.Blocks.{joined}
use Rattle.channel_points.proofs.ReadLemmas.{count-next}
use Rattle.channel_points.proofs.blocks.count_all.Goals as goal

pub loop-block-preserved : goal.loop-block-preserved
loop-block-preserved c =
    let l = c.loop-block in
    let next = count-next c.args.blocks.now l.block-index c.block-item.result (omega arith) c.block-item.is in
    omega (arith, next, c.len.ensures, l.invariant, c.in-Some.ensures)

pub returns : goal.returns
returns c = c.loop-block.invariant ∙ ap (λ l. length (joined l [])) (take_all c.loop-block.block-index c.args.blocks.now (omega arith))
