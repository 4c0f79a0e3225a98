use Rattle.std.proofs.Common.{◌≡◌, ◌++◌, Some, drop}
use Rattle.channel_rows.specs.Subscriptions.{asks_within}
use Rattle.channel_rows.proofs.ranges.push_channels.Given as goal

abbrev pub invariant-loop-channel : goal.invariant-loop-channel
invariant-loop-channel l = l.asks.items ++ asks_within (drop l.channel-index l.channels) (Some (l.from, l.to)) ≡ l.fn.asks.items ++ asks_within l.channels (Some (l.from, l.to))
