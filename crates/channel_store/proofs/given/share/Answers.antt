use Rattle.std.proofs.Common.{◌≡◌, map, sym, ap, ◌∙◌, Some, w64, to_z, of_z}
use Rattle.std.proofs.lemmas.Int.{to_z-of_z}
use Rattle.channel_points.specs.Handles.{of_channel}
use Rattle.channel_store.specs.Refusals.{points_of}
use Rattle.channel_store.specs.Sweeps.{row_at, told_at}
use Rattle.channel_store.proofs.GivenLemmas.{given-is, items-of_one}
use Rattle.channel_store.proofs.given.share.Goals as goal

pub returns : goal.returns
returns c =
    let id = c.args.channel in
    let items = c.args.items.now in
    let same : to_z w64 (of_z w64 id) ≡ id = to_z-of_z w64 id c.ranges.channel in
    let told : Some c.in-Some.points ≡ told_at (row_at c.args.tracks.now id) = sym c.in-Some.is ∙ c.in_ok-points.ensures ∙ ap (λ i. told_at (row_at c.args.tracks.now i)) same in
    let points : c.in-Some.points ≡ points_of id items = given-is (told_at (row_at c.args.tracks.now id)) c.in-Some.points (points_of id items) told c.requires.told in
    c.single.ensures ∙ ap (λ i. map (of_channel i) c.in-Some.points) same ∙ ap (map (of_channel id)) points ∙ items-of_one id items c.requires.one
