-- Points that are handed out in chunks.
use Rattle.std.specs.Prelude.{◌≡◌, List, [], length}
use Rattle.etp_values.specs.declared.point.Point.{Point}
use Rattle.channel_points.specs.declared.run.PointRun.TheInside.{Inside}
use Rattle.channel_points.specs.Blocks.{joined}
use Rattle.channel_points.specs.Chunks.{AreChunks}

-- the points of all chunks
abbrev pub points_in_run : Inside → List Point
points_in_run r = joined r.parts.items []

-- they are in chunks, and counted
pub record IsRun (r : Inside) : Type 0 where
  pub chunks : AreChunks r.parts.items
  pub counted : r.count ≡ length (points_in_run r)
