use Rattle.std.proofs.Common.{◌≡◌, ◌∙◌, w64, to_z, of_z}
use Rattle.std.proofs.lemmas.Int.{to_z-of_z}
use Rattle.channel_store.specs.Refusals.{cut_refusal, verdict}
use Rattle.channel_store.specs.Sweeps.{shown_of}
use Rattle.channel_store.proofs.store.ChannelStore.test_cut.Goals as goal

pub returns : goal.returns
returns c =
    let channel : to_z w64 (of_z w64 c.args.channel) ≡ c.args.channel = to_z-of_z w64 c.args.channel c.ranges.channel in
    let end : to_z w64 (of_z w64 c.args.end) ≡ c.args.end = to_z-of_z w64 c.args.end c.ranges.end in
    c.check_cut.ensures
    ∙ (λ j. verdict (cut_refusal (shown_of (c.as_slice.ensures.value j)) c.args.earlier.now (channel j, end j)))
    ∙ (λ j. verdict (cut_refusal (c.self.view_is j) c.args.earlier.now (c.args.channel, c.args.end)))
