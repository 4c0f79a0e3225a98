use Rattle.std.proofs.Common.{ℕ, ◌≡◌, ◌≤◌, ◌<◌, ◌-◌, true, false, length, get_or}
use Rattle.std.specs.Prelude.{nat_lt}
use Rattle.channel_store.specs.declared.change.ChannelChange.{ChannelChange}
use Rattle.channel_store.proofs.places.count_before.Given as goal

abbrev pub invariant-loop-low : goal.invariant-loop-low
invariant-loop-low l = record {
  before : (k : ℕ) (d : ChannelChange) → k < l.low → nat_lt (get_or l.changes.items k d).place l.place ≡ true;
  behind : (k : ℕ) (d : ChannelChange) → l.high ≤ k → k < length l.changes.items → nat_lt (get_or l.changes.items k d).place l.place ≡ false;
  ordered : l.low ≤ l.high;
  within : l.high ≤ length l.changes.items;
}

abbrev pub decreases-loop-low : goal.decreases-loop-low
decreases-loop-low l = l.high - l.low
