use Rattle.std.proofs.Common.{◌≡◌, map, ap, subst, ◌∙◌, arith, w64, to_z, of_z}
use Rattle.std.specs.List.{AllByRecursion}
use Rattle.std.proofs.lemmas.Grind.{common_steps}
use Rattle.std.proofs.lemmas.Int.{to_z-of_z}
use Rattle.channel_points.specs.Handles.{of_channel}
use Rattle.channel_points.proofs.ItemLemmas.{stripped-is}
use Rattle.channel_points.proofs.items.ChannelPoints.of.Goals as goal

pub returns-in-Some : goal.returns-in-Some
returns-in-Some c =
    let id = c.in-Some.channel in
    let same : to_z w64 (of_z w64 id) ≡ id = grind (arith, common_steps, to_z-of_z) in
    let all : AllByRecursion (λ i. i.channel ≡ id) c.args.items = subst (AllByRecursion (λ i. i.channel ≡ id)) c.as_slice.ensures c.in-Some.ensures in
    c.single.ensures
    ∙ ap (λ i. map (of_channel i) c.in_ok-points.points) same
    ∙ ap (map (of_channel id)) (c.in_ok-points.ensures ∙ c.in_ok-strip.ensures)
    ∙ stripped-is id c.args.items all
