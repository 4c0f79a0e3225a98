use Rattle.std.proofs.Common.{◌≡◌, map, sym, ap, ◌∙◌}
use Rattle.etp_values.specs.Weight.{capped, weigh}
use Rattle.channel_points.specs.Handles.{item_bytes, items_in, of_channel}
use Rattle.channel_points.proofs.ItemLemmas.{weigh-of_channel}
use Rattle.channel_points.proofs.items.ChannelPoints.bytes.Goals as goal

pub returns-in-Single : goal.returns-in-Single
returns-in-Single c =
    let items : map (of_channel c.in-Single.channel) c.in-Single.points ≡ c.args.self.now = ap items_in (sym c.in-Single.is) ∙ c.self.view_is in
    c.bytes.ensures ∙ ap capped (sym (weigh-of_channel c.in-Single.channel c.in-Single.points) ∙ ap (weigh item_bytes) items)
