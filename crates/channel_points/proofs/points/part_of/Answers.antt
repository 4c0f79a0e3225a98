use Rattle.std.proofs.Common.{◌+◌, ap, ◌∙◌}
use Rattle.std.specs.Prelude.{slice_range}
use Rattle.channel_points.proofs.PartLemmas.{part-is}
use Rattle.channel_points.proofs.points.part_of.Goals as goal

pub returns : goal.returns
returns c =
    let f = c.args.first in
    let s = c.args.start in
    let n = c.args.count in
    ap (λ b. slice_range b (f + s) (f + s + n)) c.in_ok-block.ensures ∙ part-is c.args.block.now f c.args.end s n c.requires.within
