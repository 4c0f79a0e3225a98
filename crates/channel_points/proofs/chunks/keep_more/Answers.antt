use Rattle.std.proofs.Common.{◌≡◌, ◌<◌, ◌≤◌, ◌+◌, ◌++◌, length, ap, sym, subst, ◌∙◌, arith}
use Rattle.channel_points.specs.Blocks.{joined}
use Rattle.channel_points.specs.Chunks.{Stands}
use Rattle.channel_points.proofs.BlockLemmas.{joined-append}
use Rattle.channel_points.proofs.ChunkLemmas.{attached-points, stands-attach, stands-join}
use Rattle.channel_points.proofs.chunks.keep_more.Goals as goal

pub join-requires : goal.join-requires
join-requires c =
    let none : length c.args.fresh.now.items ≡ 0 = ap length c.requires.none in
    omega (arith, c.requires.room.space (omega (arith, c.args.fresh.now.ok.0)) (omega (arith, c.len.ensures, c.len-2.ensures)))

pub returns-then-len-le-CHUNK-clause-stands : goal.returns-then-len-le-CHUNK-clause-stands
returns-then-len-le-CHUNK-clause-stands c =
    let few : length c.args.tail.now.items + length c.args.more.now.items ≤ 1024 = omega (arith, c.len.ensures, c.len-2.ensures, c.args.tail.now.ok.0, c.args.more.now.ok.0) in
    subst (Stands c.args.sealed.now.items) (sym c.join.ensures.tail) (stands-join c.args.sealed.now.items c.args.tail.now.items c.args.more.now.items c.requires.stands c.requires.some few)

pub returns-then-len-le-CHUNK-clause-points : goal.returns-then-len-le-CHUNK-clause-points
returns-then-len-le-CHUNK-clause-points c =
    let s = c.args.sealed.now.items in
    let t = c.args.tail.now.items in
    let m = c.args.more.now.items in
    ap (joined s) c.join.ensures.tail ∙ joined-append s t m ∙ ap (λ f. joined s t ++ joined f m) (sym c.requires.none)

pub returns-clause-stands : goal.returns-clause-stands
returns-clause-stands c =
    let s = c.args.sealed.now.items in
    let t = c.args.tail.now.items in
    let f = c.args.fresh.now.items in
    let m = c.args.more.now.items in
    let many : 1024 < length t + length m = omega (arith, c.len.ensures, c.len-2.ensures, c.args.tail.now.ok.0, c.args.more.now.ok.0) in
    subst (λ X. X) (λ j. Stands (sym c.attach.ensures.sealed j) (sym c.attach.ensures.tail j)) (stands-attach s f t m c.requires.stands c.requires.fresh c.requires.some (λ e. many))

pub returns-clause-points : goal.returns-clause-points
returns-clause-points c =
    (λ j. joined (c.attach.ensures.sealed j) (c.attach.ensures.tail j)) ∙ attached-points c.args.sealed.now.items c.args.fresh.now.items c.args.tail.now.items c.args.more.now.items
