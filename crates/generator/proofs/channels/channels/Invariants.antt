-- The channels so far.
use Rattle.std.proofs.Common.{◌≡◌}
use Rattle.std.specs.Prelude.{map}
use Rattle.std.specs.List.{range_with_len}
use Rattle.generator.specs.Channels.{channel}
use Rattle.generator.proofs.channels.channels.Given as goal

abbrev pub invariant-loop-number : goal.invariant-loop-number
invariant-loop-number l = l.channels.items ≡ map channel (range_with_len 0 l.number)
