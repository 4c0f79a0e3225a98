use Rattle.std.proofs.Common.{◌≡◌, ◌<◌, List, map, length, sym, ap, subst, ◌∙◌, arith, Some, option_map, w64, to_z, of_z}
use Rattle.std.specs.Prelude.{slice_get}
use Rattle.std.proofs.lemmas.Grind.{common_steps}
use Rattle.std.proofs.lemmas.Int.{to_z-of_z}
use Rattle.std.proofs.lemmas.Option.{slice_get-map}
use Rattle.etp_values.specs.declared.point.ChannelPoint.{ChannelPoint}
use Rattle.channel_points.specs.Handles.{items_in, of_channel}
use Rattle.channel_points.proofs.ItemLemmas.{channel-of_channel}
use Rattle.channel_points.proofs.items.ChannelPoints.channel_at.Goals as goal

pub returns-in-Single : goal.returns-in-Single
returns-in-Single c =
    let items : map (of_channel c.in-Single.channel) c.in-Single.points ≡ c.args.self.now = ap items_in (sym c.in-Single.is) ∙ c.self.view_is in
    let same : to_z w64 (of_z w64 c.in-Single.channel) ≡ c.in-Single.channel = grind (arith, common_steps, to_z-of_z) in
    let within : c.args.place < length (map (of_channel c.in-Single.channel) c.in-Single.points) = subst (λ (l : List ChannelPoint). c.args.place < length l) (sym items) c.requires in
    ap (λ l. slice_get (map (λ (i : ChannelPoint). i.channel) l) c.args.place) (sym items) ∙ channel-of_channel c.in-Single.channel c.in-Single.points c.args.place within ∙ ap Some (sym same)

pub returns-in-Mixed : goal.returns-in-Mixed
returns-in-Mixed c =
    let items : c.as_slice.result.now ≡ c.args.self.now = c.as_slice.ensures ∙ c.get.ensures ∙ ap items_in (sym c.in-Mixed.is) ∙ c.self.view_is in
    let same : to_z w64 (of_z w64 c.item_at.result.now.channel) ≡ c.item_at.result.now.channel = grind (arith, common_steps, to_z-of_z) in
    slice_get-map (λ (i : ChannelPoint). i.channel) c.args.self.now c.args.place
    ∙ ap (option_map (λ (i : ChannelPoint). i.channel)) (ap (λ l. slice_get l c.args.place) (sym items) ∙ c.item_at.ensures)
    ∙ ap Some (sym same)
