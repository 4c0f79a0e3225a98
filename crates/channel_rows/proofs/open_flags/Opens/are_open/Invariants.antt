use Rattle.std.proofs.Common.{◌≡◌, drop}
use Rattle.std.specs.List.{list_all}
use Rattle.channel_rows.specs.Opens.{is_open}
use Rattle.channel_rows.proofs.open_flags.Opens.are_open.Given as goal

abbrev pub invariant-loop-channel : goal.invariant-loop-channel
invariant-loop-channel l = list_all (is_open l.self) (drop l.channel-index l.channels) ≡ list_all (is_open l.self) l.channels
