use Rattle.std.proofs.Common.{◌≡◌, ◌++◌, drop}
use Rattle.channel_rows.specs.Subscriptions.{asks_of}
use Rattle.channel_rows.proofs.ranges.asks_of.Given as goal

abbrev pub invariant-loop-info : goal.invariant-loop-info
invariant-loop-info l = l.asks.items ++ asks_of (drop l.info-index l.infos) ≡ asks_of l.infos
