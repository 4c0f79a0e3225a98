use Rattle.std.proofs.Common.{◌≤◌, length, sym, subst}
use Rattle.std.specs.List.{AllByRecursion}
use Rattle.channel_points.proofs.ChunkLemmas.{small-chunks}
use Rattle.channel_points.proofs.chunks.Chunks.add_to.Goals as goal

pub add_between-requires-clause-sealed : goal.add_between-requires-clause-sealed
add_between-requires-clause-sealed c = subst (AllByRecursion (λ x. length x ≤ 1024)) (sym c.as_slice.ensures.value) (small-chunks c.self.inside.sealed.items c.self.invariant.stands.chunks)
