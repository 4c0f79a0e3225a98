use Rattle.std.proofs.Common.{◌-◌, [], ap, arith}
use Rattle.channel_points.specs.Blocks.{joined}
use Rattle.channel_points.proofs.RunLemmas.{front-end, front-here, front-next}
use Rattle.channel_points.proofs.run.rest_of_chunk.Goals as goal

pub returns-then-skip-len : goal.returns-then-skip-len
returns-then-skip-len c =
    let l = c.loop-part in
    let parts = c.args.parts.now in
    front-here parts l.part-index c.part-item.result (joined parts []) _ l.skip c.args.place (omega arith) c.part-item.is l.invariant (omega (arith, c.len.ensures)) c.rest_of.ensures

pub loop-part-preserved : goal.loop-part-preserved
loop-part-preserved c =
    let l = c.loop-part in
    let parts = c.args.parts.now in
    front-next parts l.part-index c.part-item.result (joined parts []) l.skip c.args.place _ (omega arith) c.part-item.is l.invariant (omega (arith, c.len.ensures)) (ap (λ n. l.skip - n) c.len-skip.ensures)

pub returns : goal.returns
returns c =
    let l = c.loop-part in
    let parts = c.args.parts.now in
    front-end parts l.part-index (joined parts []) l.skip c.args.place (omega arith) l.invariant
