use Rattle.std.proofs.Common.{◌≡◌, ◌++◌, drop, map}
use Rattle.channel_store.specs.Channels.{fresh}
use Rattle.channel_store.specs.Rows.{plain}
use Rattle.channel_store.proofs.tracks.fresh_tracks.Given as goal

abbrev pub invariant-loop-def : goal.invariant-loop-def
invariant-loop-def l = l.tracks.items ++ map plain (map fresh (drop l.def-index l.defs)) ≡ map plain (map fresh l.defs)
