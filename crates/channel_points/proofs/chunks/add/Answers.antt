use Rattle.std.proofs.Common.{◌≡◌, ◌<◌, ◌+◌, ◌++◌, ◌∷◌, [], length, length-append, ap, ◌∙◌, arith}
use Rattle.channel_points.specs.Blocks.{joined}
use Rattle.channel_points.proofs.BlockLemmas.{joined-append}
use Rattle.channel_points.proofs.ChunkLemmas.{fresh-add}
use Rattle.channel_points.proofs.chunks.add.Goals as goal

pub returns-clause-fresh : goal.returns-clause-fresh
returns-clause-fresh c =
    let fs = c.args.fresh.now.items in
    let m = c.args.more.now.items in
    let p = c.args.point in
    let e : c.push_reserved.new.self.items ≡ m ++ p ∷ [] = c.push_reserved.ensures.items ∙ ap (λ l. l ++ p ∷ []) c.reserve.ensures.items in
    let size : length c.push_reserved.new.self.items ≡ length m + 1 = ap length e ∙ length-append m (p ∷ []) in
    let less : length m < 1024 = omega (arith, c.requires.few, c.len.ensures, c.args.more.now.ok.0) in
    fresh-add fs m c.push_reserved.new.self.items c.requires less size

pub returns-clause-points : goal.returns-clause-points
returns-clause-points c =
    let fs = c.args.fresh.now.items in
    let m = c.args.more.now.items in
    let p = c.args.point in
    let e : c.push_reserved.new.self.items ≡ m ++ p ∷ [] = c.push_reserved.ensures.items ∙ ap (λ l. l ++ p ∷ []) c.reserve.ensures.items in
    ap (joined fs) e ∙ joined-append fs m (p ∷ [])
