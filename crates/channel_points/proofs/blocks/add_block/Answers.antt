use Rattle.std.proofs.Common.{◌≡◌, ◌<◌, ◌+◌, ◌++◌, ◌∷◌, [], length, ap, sym, subst, ◌∙◌, arith}
use Rattle.std.proofs.lemmas.Bool.Decides.{nat_tests}
use Rattle.channel_points.specs.Blocks.{joined}
use Rattle.channel_points.specs.Chunks.{AreChunks, last_size}
use Rattle.channel_points.proofs.ChunkLemmas.{pushed-chunks, pushed-points}
use Rattle.channel_points.proofs.blocks.add_block.Goals as goal

pub returns-clause-chunks : goal.returns-clause-chunks
returns-clause-chunks c =
    let cs = c.args.blocks.now.items in
    let b = c.args.block in
    let new : c.push_reserved.new.self.items ≡ cs ++ b ∷ [] = c.push_reserved.ensures.items ∙ ap (λ l. l ++ b ∷ []) c.reserve.ensures.items in
    let size : c.last_size.result ≡ last_size cs = c.last_size.ensures ∙ ap last_size c.as_slice.ensures.value in
    let some : 0 < length b = grind (arith, nat_tests, c.is_empty.ensures, c.if-is_empty.false) in
    let follows : 1024 < last_size cs + length b = omega (arith, c.saturating_add.ensures, c.if-saturating_add-le-CHUNK.false, c.len.ensures) in
    subst AreChunks (sym new) (pushed-chunks cs b c.requires.chunks some c.requires.few follows)

pub returns-clause-points : goal.returns-clause-points
returns-clause-points c =
    let cs = c.args.blocks.now.items in
    let b = c.args.block in
    let new : c.push_reserved.new.self.items ≡ cs ++ b ∷ [] = c.push_reserved.ensures.items ∙ ap (λ l. l ++ b ∷ []) c.reserve.ensures.items in
    ap (λ l. joined l []) new ∙ pushed-points cs b
