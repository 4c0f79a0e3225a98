-- What chunks have.
use Rattle.std.specs.Prelude.{◌<◌, length}
use Rattle.std.specs.Vec.{vec_len, vec_capacity}
use Rattle.channel_points.specs.declared.chunks.Chunks.TheInside.{Inside}
use Rattle.channel_points.specs.Blocks.{joined}
use Rattle.channel_points.specs.Chunks.{AreCounted, HasRoom, Held, IsFresh, Stands}

-- the points, and those that are about to be added
abbrev pub held_of : Inside → Held
held_of c = record { points = joined c.sealed.items c.tail.items; added = joined c.fresh.items c.more.items }

-- the chunks stand, and there is room for what is about to be added
pub record IsKept (c : Inside) : Type 0 where
  pub stands : Stands c.sealed.items c.tail.items
  pub fresh : IsFresh c.fresh.items c.more.items
  pub room : 0 < length c.more.items → HasRoom (vec_len c.sealed) (vec_capacity c.sealed) (vec_len c.tail) (vec_capacity c.tail) (vec_len c.fresh) (vec_len c.more)
  pub counted : AreCounted (held_of c) c.count c.added
