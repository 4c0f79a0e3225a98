use Rattle.std.proofs.Common.{◌≡◌}
use Rattle.channel_store.proofs.given.seal_items.Given as goal

abbrev pub invariant-loop-item : goal.invariant-loop-item
invariant-loop-item l = l.tracks.items ≡ l.fn.tracks.items
