use Rattle.std.proofs.Common.{◌≡◌, ◌++◌, ◌∷◌, [], ap, ◌∙◌, append-nil}
use Rattle.channel_points.specs.Blocks.{joined}
use Rattle.channel_points.proofs.BlockLemmas.{joined-push}
use Rattle.channel_points.proofs.rows.turn.Goals as goal

pub returns-clause-items : goal.returns-clause-items
returns-clause-items g c =
    let full = c.args.full.now.items in
    let last = c.args.last.now.items in
    let block : c.from_vec.result ≡ last = c.from_vec.ensures ∙ ap (λ v. v.items) c.replace-block.ensures.value in
    let rows : c.push_reserved.new.self.items ≡ full ++ last ∷ [] = c.push_reserved.ensures.items ∙ (λ j. c.reserve.ensures.items j ++ block j ∷ []) in
    let empty : c.replace-block.new.dest.items ≡ [] = ap (λ v. v.items) c.replace-block.ensures.after ∙ c.new-empty.ensures.items in
    (λ j. joined (rows j) (empty j)) ∙ joined-push full last [] ∙ ap (joined full) (append-nil last)
