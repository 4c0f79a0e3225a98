use Rattle.std.proofs.Common.{◌≡◌, take}
use Rattle.channel_store.specs.Sweeps.{AreReady, ids_ready}
use Rattle.channel_store.proofs.ready.ready_channels.Given as goal

abbrev pub invariant-loop-channel : goal.invariant-loop-channel
invariant-loop-channel l = record {
  channels : ids_ready l.readies.items ≡ take l.channel-index l.channels;
  ready : AreReady l.tracks l.readies.items;
}
