use Rattle.std.proofs.Common.{◌∙◌, ap}
use Rattle.generator.specs.Channels.{generator_config}
use Rattle.tool_forms.specs.Play.{first, first_world}
use Rattle.tool_forms.proofs.LoadingLemmas.{first_at, summary_is}
use Rattle.tool_forms.proofs.load.summary.Goals as goal

pub returns : goal.returns
returns c =
    let at = first_at c.in_ok-player.player (c.in_ok-player.ensures.world ∙ ap first_world c.in_ok-config.ensures) in
    summary_is c.args.size c.entries.result c.in_ok-tally.tally c.play_load.new.player c.new-text.result.items c.push_summary.new.into.items
    (c.in_ok-tally.ensures (first generator_config) at) c.entries.ensures c.new-text.ensures.items c.in_ok-push_summary.ensures
