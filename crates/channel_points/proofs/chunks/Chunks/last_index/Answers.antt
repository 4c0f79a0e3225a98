use Rattle.std.proofs.Common.{ap, ◌∙◌}
use Rattle.channel_points.specs.Order.{last_of}
use Rattle.channel_points.proofs.ReadLemmas.{last-joined}
use Rattle.channel_points.proofs.chunks.Chunks.last_index.Goals as goal

pub returns : goal.returns
returns c =
    let k = c.self.inside in
    c.last_index.ensures ∙ ap last_of c.as_slice.ensures.value ∙ last-joined k.sealed.items k.tail.items c.self.invariant.stands ∙ ap (λ h. last_of h.points) c.self.view_is
