use Rattle.std.proofs.Common.{◌∷◌, sym, ap, ◌∙◌, w64}
use Rattle.std.proofs.lemmas.Int.{to_z-of_z}
use Rattle.array_store.specs.declared.op.ArrayOp.TheVariants.{PatchArray}
use Rattle.array_store.proofs.GatheredLemmas.{patch-gone, patch-left}
use Rattle.array_store.proofs.going.GoingArrays.turn_patch.Goals as goal

pub returns-then-has-clause-each : goal.returns-then-has-clause-each
returns-then-has-clause-each c =
    patch-gone c.args.self.now c.args.key c.args.at c.args.starts c.args.counts c.args.values c.args.queue.now.items (sym c.has.ensures ∙ c.if-has.true)

pub returns-clause-each : goal.returns-clause-each
returns-clause-each c =
    let items = c.args.queue.now.items in
    patch-left c.args.self.now c.args.key c.args.at c.args.starts c.args.counts c.args.values items c.push_front_reserved.new.self.items
    (c.push_front_reserved.ensures.items ∙ ap (λ z. PatchArray c.args.key z c.args.starts c.args.counts c.args.values ∷ items) (to_z-of_z w64 c.args.at c.ranges.at))
