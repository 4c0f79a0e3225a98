use Rattle.std.proofs.Common.{◌≡◌, ◌++◌, ◌∷◌, [], ap, ◌∙◌}
use Rattle.std.specs.Prelude.{option_to_list}
use Rattle.channel_points.proofs.ChunkLemmas.{points-last, stands-last}
use Rattle.channel_points.proofs.ItemLemmas.{if_ok}
use Rattle.channel_points.proofs.blocks.take_last.Goals as goal

pub returns-in-Some-clause-points : goal.returns-in-Some-clause-points
returns-in-Some-clause-points c =
    let cs = c.args.blocks.now.items in
    let ds = c.pop.new.self.items in
    let last = c.in-Some.last in
    let old : cs ≡ ds ++ last ∷ [] = c.pop.ensures.items ∙ ap (λ o. ds ++ option_to_list o) c.in-Some.is in
    if_ok c.into_vec.result (λ t e. points-last cs ds last t.items old e) c.into_vec.ensures

pub returns-in-Some-clause-stands : goal.returns-in-Some-clause-stands
returns-in-Some-clause-stands c =
    let cs = c.args.blocks.now.items in
    let ds = c.pop.new.self.items in
    let last = c.in-Some.last in
    let old : cs ≡ ds ++ last ∷ [] = c.pop.ensures.items ∙ ap (λ o. ds ++ option_to_list o) c.in-Some.is in
    if_ok c.into_vec.result (λ t e. stands-last cs ds last t.items c.requires old e) c.into_vec.ensures
