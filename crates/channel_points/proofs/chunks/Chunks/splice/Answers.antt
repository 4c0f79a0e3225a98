use Rattle.std.proofs.Common.{◌≡◌, ◌+◌, ◌-◌, ◌++◌, [], length, take, drop, ap, sym, subst, ◌∙◌, arith, append_assoc}
use Rattle.std.specs.Prelude.{IfOk}
use Rattle.std.proofs.lemmas.List.{drop-drop}
use Rattle.channel_points.specs.Blocks.{joined}
use Rattle.channel_points.specs.Chunks.{settled}
use Rattle.channel_points.proofs.ReadLemmas.{rest-is}
use Rattle.channel_points.proofs.chunks.Chunks.splice.Goals as goal

pub overflow_add-start : goal.overflow_add-start
overflow_add-start c = omega (arith, c.requires, c.len-size.ensures)

pub returns : goal.returns
returns c =
    let xs = c.args.self.now.points in
    let s = c.args.start in
    let n = c.args.count in
    let ps = c.args.points.now in
    let first : joined c.add_to.new.blocks.items [] ≡ take s xs = c.in_ok-add_to.ensures.points ∙ ap (λ l. joined l [] ++ take s (drop 0 xs)) c.new-blocks.ensures.items in
    let second : joined c.add_all.new.blocks.items [] ≡ take s xs ++ ps = c.in_ok-add_all.ensures.points ∙ ap (λ l. l ++ ps) first in
    let size : c.len-size.result ≡ length xs = c.len-size.ensures in
    let rest : take (c.len-size.result - (s + n)) (drop (s + n) xs) ≡ drop n (drop s xs) = ap (λ k. take (k - (s + n)) (drop (s + n) xs)) size ∙ rest-is (s + n) xs ∙ sym (drop-drop n s xs) in
    let third : joined c.add_to-2.new.blocks.items [] ≡ (take s xs ++ ps) ++ drop n (drop s xs) = c.in_ok-add_to-2.ensures.points ∙ (λ j. second j ++ rest j) in
    subst (λ l. IfOk c.of.result (λ r. r ≡ settled l)) (third ∙ append_assoc (take s xs) ps (drop n (drop s xs))) c.of.ensures
