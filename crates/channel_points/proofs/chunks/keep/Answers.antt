use Rattle.std.proofs.Common.{◌≡◌, ◌<◌, length, ap, sym, subst, ◌∙◌, arith}
use Rattle.std.proofs.lemmas.Bool.Decides.{nat_tests}
use Rattle.std.proofs.lemmas.Grind.{common_steps}
use Rattle.channel_points.specs.Blocks.{joined}
use Rattle.channel_points.specs.Chunks.{Stands}
use Rattle.channel_points.proofs.ChunkLemmas.{attached-points, stands-attach}
use Rattle.channel_points.proofs.chunks.keep.Goals as goal

pub returns-clause-stands : goal.returns-clause-stands
returns-clause-stands c =
    let s = c.args.sealed.now.items in
    let t = c.args.tail.now.items in
    let f = c.args.fresh.now.items in
    let m = c.args.more.now.items in
    let some : 0 < length m = grind (arith, common_steps, nat_tests, c.is_empty.ensures, c.if-is_empty.false, c.args.more.now.ok.0) in
    let full : 0 < length f = grind (arith, common_steps, nat_tests, c.is_empty-2.ensures, c.if-is_empty-2.false, c.args.fresh.now.ok.0) in
    subst (λ X. X) (λ j. Stands (sym c.attach.ensures.sealed j) (sym c.attach.ensures.tail j)) (stands-attach s f t m c.requires.stands c.requires.fresh some (λ e. let none : length f ≡ 0 = ap length e in absurd (omega arith)))

pub returns-clause-points : goal.returns-clause-points
returns-clause-points c =
    (λ j. joined (c.attach.ensures.sealed j) (c.attach.ensures.tail j)) ∙ attached-points c.args.sealed.now.items c.args.fresh.now.items c.args.tail.now.items c.args.more.now.items
