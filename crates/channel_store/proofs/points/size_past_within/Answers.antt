use Rattle.std.proofs.Common.{ap, ◌∙◌, ◌≡◌, ◌-◌, take, drop}
use mir.Syntax.{w64}
use mir.Val.{to_z, of_z}
use Rattle.std.proofs.lemmas.Int.{to_z-of_z}
use Rattle.channel_store.specs.Points.{past}
use Rattle.channel_store.specs.Told.{size_within}
use Rattle.channel_points.proofs.ReadLemmas.{rest-is}
use Rattle.channel_store.proofs.points.size_past_within.Goals as goal

pub returns : goal.returns
returns c =
    let xs = c.args.points.now.points in
    let n = c.count_below-place.result in
    let start : to_z w64 (of_z w64 c.args.start) ≡ c.args.start = to_z-of_z w64 c.args.start c.ranges.start in
    let rest : take (c.len.result - n) (drop n xs) ≡ past (to_z w64 (of_z w64 c.args.start)) xs = ap (λ k. take (k - n) (drop n xs)) c.len.ensures ∙ rest-is n xs ∙ c.count_below-place.ensures.back in
    c.size_of_few.ensures ∙ ap (size_within c.args.most) (rest ∙ (λ j. past (start j) xs))
