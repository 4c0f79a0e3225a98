use Rattle.std.proofs.Common.{◌≡◌, map, sym, ap, ◌∙◌, arith, Some, option_map, w64, to_z, of_z}
use Rattle.std.specs.Prelude.{slice_get}
use Rattle.std.proofs.lemmas.Grind.{common_steps}
use Rattle.std.proofs.lemmas.Int.{to_z-of_z}
use Rattle.std.proofs.lemmas.Option.{slice_get-map}
use Rattle.etp_values.specs.declared.point.ChannelPoint.{ChannelPoint}
use Rattle.channel_points.specs.Handles.{items_in, of_channel}
use Rattle.channel_points.proofs.ItemLemmas.{index-of_channel}
use Rattle.channel_points.proofs.items.ChannelPoints.index_at.Goals as goal

pub returns-in-Single : goal.returns-in-Single
returns-in-Single c =
    let items : map (of_channel c.in-Single.channel) c.in-Single.points ≡ c.args.self.now = ap items_in (sym c.in-Single.is) ∙ c.self.view_is in
    let same : to_z w64 (of_z w64 c.index_at.result) ≡ c.index_at.result = grind (arith, common_steps, to_z-of_z) in
    ap (λ l. slice_get (map (λ (i : ChannelPoint). i.point.index) l) c.args.place) (sym items)
    ∙ ap (λ l. slice_get l c.args.place) (index-of_channel c.in-Single.channel c.in-Single.points)
    ∙ c.index_at.ensures ∙ ap Some (sym same)

pub returns-in-Mixed : goal.returns-in-Mixed
returns-in-Mixed c =
    let items : c.as_slice.result.now ≡ c.args.self.now = c.as_slice.ensures ∙ c.get.ensures ∙ ap items_in (sym c.in-Mixed.is) ∙ c.self.view_is in
    let same : to_z w64 (of_z w64 c.item_at.result.now.point.index) ≡ c.item_at.result.now.point.index = grind (arith, common_steps, to_z-of_z) in
    slice_get-map (λ (i : ChannelPoint). i.point.index) c.args.self.now c.args.place
    ∙ ap (option_map (λ (i : ChannelPoint). i.point.index)) (ap (λ l. slice_get l c.args.place) (sym items) ∙ c.item_at.ensures)
    ∙ ap Some (sym same)
