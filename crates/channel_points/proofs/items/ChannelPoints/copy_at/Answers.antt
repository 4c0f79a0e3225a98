use Rattle.std.proofs.Common.{◌≡◌, map, sym, ap, subst, ◌∙◌, Some, option_map}
use Rattle.std.specs.Prelude.{slice_get, IfOk}
use Rattle.std.proofs.lemmas.Option.{slice_get-map}
use Rattle.etp_values.specs.declared.point.ChannelPoint.{ChannelPoint}
use Rattle.channel_points.specs.Handles.{items_in, of_channel, points_alone}
use Rattle.channel_points.proofs.ItemLemmas.{points-of_channel, if_ok}
use Rattle.channel_points.proofs.items.ChannelPoints.copy_at.Goals as goal

pub returns-in-Single : goal.returns-in-Single
returns-in-Single c =
    let items : map (of_channel c.in-Single.channel) c.in-Single.points ≡ c.args.self.now = ap items_in (sym c.in-Single.is) ∙ c.self.view_is in
    subst (λ l. IfOk c.copy_at.result (λ p. slice_get l c.args.place ≡ Some p)) (sym (points-of_channel c.in-Single.channel c.in-Single.points) ∙ ap points_alone items) c.copy_at.ensures

pub returns-in-Mixed : goal.returns-in-Mixed
returns-in-Mixed c =
    let items : c.as_slice.result.now ≡ c.args.self.now = c.as_slice.ensures ∙ c.get.ensures ∙ ap items_in (sym c.in-Mixed.is) ∙ c.self.view_is in
    let there : slice_get (points_alone c.args.self.now) c.args.place ≡ Some c.item_at.result.now.point =
    slice_get-map (λ (i : ChannelPoint). i.point) c.args.self.now c.args.place ∙ ap (option_map (λ (i : ChannelPoint). i.point)) (ap (λ l. slice_get l c.args.place) (sym items) ∙ c.item_at.ensures) in
    if_ok c.copy.result (λ p e. there ∙ ap Some (sym e)) c.copy.ensures
