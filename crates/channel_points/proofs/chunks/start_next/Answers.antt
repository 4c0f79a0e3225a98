use Rattle.std.proofs.Common.{refl, ◌≡◌, ◌++◌, ◌∷◌, [], ap, subst, sym, ◌∙◌}
use Rattle.channel_points.specs.Blocks.{joined}
use Rattle.channel_points.specs.Chunks.{IsFresh}
use Rattle.channel_points.proofs.ChunkLemmas.{fresh-start, started-points}
use Rattle.channel_points.proofs.chunks.start_next.Goals as goal

pub returns-clause-fresh : goal.returns-clause-fresh
returns-clause-fresh c =
    let fs = c.args.fresh.now.items in
    let m = c.args.more.now.items in
    let block : c.in_ok-block.block ≡ m = c.in_ok-block.ensures ∙ ap (λ v. v.items) c.replace-full.ensures.value in
    let rows : c.push_reserved-2.new.self.items ≡ fs ++ m ∷ [] = c.push_reserved-2.ensures.items ∙ (λ j. c.reserve-2.ensures.items j ++ block j ∷ []) in
    let empty : c.reserve.new.self.items ≡ [] = c.reserve.ensures.items ∙ c.new-next.ensures.items in
    let next : c.replace-full.new.dest.items ≡ c.args.point ∷ [] = ap (λ v. v.items) c.replace-full.ensures.after ∙ c.push_reserved.ensures.items ∙ ap (λ l. l ++ c.args.point ∷ []) empty in
    subst (λ X. X) (λ j. IsFresh (sym rows j) (sym next j)) (fresh-start fs m (c.args.point ∷ []) c.requires.fresh c.requires.more refl)

pub returns-clause-points : goal.returns-clause-points
returns-clause-points c =
    let fs = c.args.fresh.now.items in
    let m = c.args.more.now.items in
    let block : c.in_ok-block.block ≡ m = c.in_ok-block.ensures ∙ ap (λ v. v.items) c.replace-full.ensures.value in
    let rows : c.push_reserved-2.new.self.items ≡ fs ++ m ∷ [] = c.push_reserved-2.ensures.items ∙ (λ j. c.reserve-2.ensures.items j ++ block j ∷ []) in
    let empty : c.reserve.new.self.items ≡ [] = c.reserve.ensures.items ∙ c.new-next.ensures.items in
    let next : c.replace-full.new.dest.items ≡ c.args.point ∷ [] = ap (λ v. v.items) c.replace-full.ensures.after ∙ c.push_reserved.ensures.items ∙ ap (λ l. l ++ c.args.point ∷ []) empty in
    (λ j. joined (rows j) (next j)) ∙ started-points fs m c.args.point
