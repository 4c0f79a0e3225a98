use Rattle.std.proofs.Common.{◌≡◌}
use Rattle.channel_store.proofs.RowLemmas.{cleared_first}
use Rattle.channel_store.proofs.rows.clear_each.Given as goal

abbrev pub invariant-loop-track : goal.invariant-loop-track
invariant-loop-track l = l.tracks ≡ cleared_first l.track-index l.fn.tracks
