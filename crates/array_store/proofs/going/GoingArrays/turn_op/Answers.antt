use Rattle.std.proofs.Common.{rules, sym, subst, w64}
use Rattle.std.specs.Prelude.{FitsSigned}
use Rattle.std.proofs.lemmas.Int.{to_z-of_z}
use Rattle.array_store.specs.declared.op.ArrayOp.TheVariants.{PatchArray}
use Rattle.array_store.specs.Going.{Turns}
use Rattle.array_store.proofs.going.GoingArrays.turn_op.Goals as goal

pub returns-in-PatchArray-clause-each : goal.returns-in-PatchArray-clause-each
returns-in-PatchArray-clause-each c =
    let p = c.in-PatchArray in
    let g = c.args.self.now in
    let items = c.args.queue.now.items in
    let after = c.turn_patch.new.queue.items in
    let fits : FitsSigned w64 p.at = search rules in
    subst (λ o. Turns g g o items after) (sym p.is)
    (subst (λ z. Turns g g (PatchArray p.key z p.starts p.counts p.values) items after) (to_z-of_z w64 p.at fits) c.turn_patch.ensures.each)
