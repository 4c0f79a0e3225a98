use Rattle.std.proofs.Common.{◌≡◌, drop}
use Rattle.channel_store.specs.Sweeps.{shown_of, steps, open_channel}
use Rattle.channel_store.proofs.rows.open_channels.Given as goal

abbrev pub invariant-loop-channel : goal.invariant-loop-channel
invariant-loop-channel l = record {
  answer : steps (open_channel l.way) l.tracks.items (drop l.channel-index l.channels) ≡ steps (open_channel l.way) l.fn.tracks.items l.channels;
  kept : shown_of l.tracks.items ≡ shown_of l.fn.tracks.items;
}
