use Rattle.std.proofs.Common.{◌+◌, drop, ap, sym, ◌∙◌, arith, rules, Some, w64}
use Rattle.std.proofs.lemmas.Int.{to_z-of_z}
use Rattle.std.proofs.lemmas.List.{drop_all}
use Rattle.std.specs.Prelude.{slice_get, option_map}
use Rattle.std.proofs.lemmas.Option.{slice_get-map}
use Rattle.channel_points.specs.Blocks.{joined}
use Rattle.channel_points.proofs.BetweenLemmas.{joined-from}
use Rattle.channel_points.proofs.BlockLemmas.{get-back, get-front}
use Rattle.channel_points.proofs.reads.index_at.Goals as goal

pub returns-then-skip-len : goal.returns-then-skip-len
returns-then-skip-len c =
    let l = c.loop-block in
    let sealed = c.args.sealed.now in
    let t = c.args.tail.now in
    let b = c.block-item.result in
    let rest = joined (drop (l.block-index + 1) sealed) t in
    ap Some (to_z-of_z w64 c.index_at.result (search rules)) ∙ sym c.index_at.ensures ∙ slice_get-map _ b l.skip
    ∙ ap (option_map (λ x. x.index)) (sym (get-front b rest l.skip (omega (arith, c.len.ensures))) ∙ ap (λ x. slice_get x l.skip) (sym (joined-from sealed t l.block-index b (omega arith) c.block-item.is)) ∙ l.invariant)

pub loop-block-preserved : goal.loop-block-preserved
loop-block-preserved c =
    let l = c.loop-block in
    let sealed = c.args.sealed.now in
    let t = c.args.tail.now in
    let b = c.block-item.result in
    let rest = joined (drop (l.block-index + 1) sealed) t in
    sym (get-back b rest _ l.skip (omega (arith, c.len.ensures, c.len-skip.ensures))) ∙ ap (λ x. slice_get x l.skip) (sym (joined-from sealed t l.block-index b (omega arith) c.block-item.is)) ∙ l.invariant

pub returns : goal.returns
returns c =
    let l = c.loop-block in
    let t = c.args.tail.now in
    c.index_in.ensures ∙ ap (λ x. option_map (λ y. y.index) (slice_get (joined x t) l.skip)) (sym (drop_all l.block-index c.args.sealed.now (omega arith))) ∙ ap (option_map (λ x. x.index)) l.invariant
