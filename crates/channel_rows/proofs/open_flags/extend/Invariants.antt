-- Flags that are not set were added after the last, as they would be by what sets the flag.
use Rattle.std.proofs.Common.{◌≡◌, ◌-◌, suc, length}
use Rattle.channel_rows.specs.Opens.{with_flag}
use Rattle.channel_rows.proofs.open_flags.extend.Given as goal

abbrev pub invariant-loop-len : goal.invariant-loop-len
invariant-loop-len l = record {
  len : l.len ≡ length l.flags.items;
  flags : with_flag l.flags.items l.place ≡ with_flag l.fn.flags.items l.place;
}

abbrev pub decreases-loop-len : goal.decreases-loop-len
decreases-loop-len l = suc l.place - l.len
