use Rattle.std.proofs.Common.{◌≡◌, ◌+◌, ◌-◌, ◌^◌, ◌≤◌, drop, min}
use Rattle.channel_rows.specs.Subscriptions.{named_channels}
use Rattle.channel_rows.proofs.ranges.named_channels.Given as goal

abbrev pub invariant-loop-info : goal.invariant-loop-info
invariant-loop-info l = (min (l.count + named_channels (drop l.info-index l.infos)) (2 ^ 64 - 1) ≡ min (named_channels l.infos) (2 ^ 64 - 1)) × (l.count ≤ 2 ^ 64 - 1)
