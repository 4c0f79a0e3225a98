use Rattle.std.proofs.Common.{◌≡◌, ◌<◌, ◌++◌, ◌∷◌, [], sym, ap, subst, ◌∙◌, arith, vec_len}
use Rattle.std.specs.Vec.{vec_capacity}
use Rattle.channel_points.specs.Blocks.{joined, room_of}
use Rattle.channel_points.proofs.BlockLemmas.{joined-append, pushed-is}
use Rattle.channel_points.proofs.rows.Rows.push_reserved.Goals as goal

pub invariant_of-self : goal.invariant_of-self
invariant_of-self g c =
    let last = c.self.inside.last in
    let room : room_of (vec_len last) (vec_capacity last) c.self.inside.count ≡ c.args.self.now.room = ap (λ s. s.room) c.self.view_is in
    let some : 0 < room_of (vec_len last) (vec_capacity last) c.self.inside.count = subst (λ n. 0 < n) (sym room) c.requires in
    pushed-is c.self.inside.full.items last.items c.push_reserved.new.self.items c.args.item (vec_len last) (vec_capacity last) c.self.inside.count (omega (arith, last.ok.0)) some c.self.invariant c.push_reserved.ensures.items

pub returns : goal.returns
returns g c =
    let full = c.self.inside.full.items in
    ap (joined full) c.push_reserved.ensures.items
    ∙ joined-append full c.self.inside.last.items (c.args.item ∷ [])
    ∙ ap (λ s. s.items ++ c.args.item ∷ []) c.self.view_is
