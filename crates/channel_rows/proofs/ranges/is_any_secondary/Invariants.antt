use Rattle.std.proofs.Common.{◌≡◌, drop}
use Rattle.std.specs.List.{list_any}
use Rattle.channel_rows.specs.Subscriptions.{has_secondary}
use Rattle.channel_rows.proofs.ranges.is_any_secondary.Given as goal

abbrev pub invariant-loop-info : goal.invariant-loop-info
invariant-loop-info l = list_any has_secondary (drop l.info-index l.infos) ≡ list_any has_secondary l.infos
