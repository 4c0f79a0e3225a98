use Rattle.std.proofs.Common.{◌≡◌, ◌≤◌, ◌+◌, ◌++◌, ◌∷◌, [], length, ap, sym, subst, ◌∙◌}
use Rattle.std.specs.Prelude.{option_to_list}
use Rattle.channel_points.specs.Blocks.{joined}
use Rattle.channel_points.specs.Chunks.{AreChunks, last_size}
use Rattle.channel_points.proofs.ChunkLemmas.{merged-chunks, merged-points}
use Rattle.channel_points.proofs.blocks.merge.Goals as goal

pub returns-clause-chunks : goal.returns-clause-chunks
returns-clause-chunks c =
    let cs = c.args.blocks.now.items in
    let ds = c.pop.new.self.items in
    let b = c.args.block.now in
    let last = c.in-Some.last in
    let old : cs ≡ ds ++ last ∷ [] = c.pop.ensures.items ∙ ap (λ o. ds ++ option_to_list o) c.in-Some.is in
    let new : c.push_reserved.new.self.items ≡ ds ++ (last ++ b) ∷ [] = c.push_reserved.ensures.items ∙ (λ j. c.reserve.ensures.items j ++ c.in_ok-both.ensures j ∷ []) in
    subst AreChunks (sym new) (merged-chunks ds last b (subst AreChunks old c.requires.chunks) (subst (λ l. last_size l + length b ≤ 1024) old c.requires.few))

pub returns-clause-points : goal.returns-clause-points
returns-clause-points c =
    let cs = c.args.blocks.now.items in
    let ds = c.pop.new.self.items in
    let b = c.args.block.now in
    let last = c.in-Some.last in
    let old : cs ≡ ds ++ last ∷ [] = c.pop.ensures.items ∙ ap (λ o. ds ++ option_to_list o) c.in-Some.is in
    let new : c.push_reserved.new.self.items ≡ ds ++ (last ++ b) ∷ [] = c.push_reserved.ensures.items ∙ (λ j. c.reserve.ensures.items j ++ c.in_ok-both.ensures j ∷ []) in
    ap (λ l. joined l []) new ∙ merged-points ds last b ∙ ap (λ l. joined l [] ++ b) (sym old)
