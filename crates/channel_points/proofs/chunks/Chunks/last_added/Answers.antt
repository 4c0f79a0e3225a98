use Rattle.std.proofs.Common.{◌≡◌, ◌<◌, ◌++◌, length, ap, ◌∙◌, arith}
use Rattle.std.proofs.lemmas.Bool.Decides.{nat_tests}
use Rattle.std.proofs.lemmas.Grind.{common_steps}
use Rattle.channel_points.specs.Blocks.{joined}
use Rattle.channel_points.specs.Order.{last_of}
use Rattle.channel_points.proofs.ReadLemmas.{last-added-none, last-added-some}
use Rattle.channel_points.proofs.chunks.Chunks.last_added.Goals as goal

pub returns-then-is_empty : goal.returns-then-is_empty
returns-then-is_empty c =
    let k = c.self.inside in
    let none : length k.more.items ≡ 0 = grind (arith, common_steps, nat_tests, c.is_empty.ensures, c.if-is_empty.true, k.more.ok.0) in
    c.last_index.ensures ∙ ap last_of c.as_slice.ensures.value ∙ last-added-none k.sealed.items k.fresh.items k.tail.items k.more.items c.self.invariant.stands c.self.invariant.fresh none ∙ ap (λ h. last_of (h.points ++ h.added)) c.self.view_is

pub returns : goal.returns
returns c =
    let k = c.self.inside in
    let some : 0 < length k.more.items = grind (arith, common_steps, nat_tests, c.is_empty.ensures, c.if-is_empty.false, k.more.ok.0) in
    c.last_index-2.ensures ∙ ap last_of c.as_slice-2.ensures.value ∙ last-added-some (joined k.sealed.items k.tail.items) k.fresh.items k.more.items some ∙ ap (λ h. last_of (h.points ++ h.added)) c.self.view_is
