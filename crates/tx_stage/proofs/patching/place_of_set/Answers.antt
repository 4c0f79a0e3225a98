use Rattle.std.proofs.Common.{◌≡◌, ◌-◌, false, suc, sym, subst, ◌∙◌, get_or, drop, arith}
use Rattle.std.specs.List.{list_any}
use Rattle.array_store.specs.declared.op.ArrayOp.{ArrayOp}
use Rattle.tx_stage.specs.Patching.{concerns}
use Rattle.tx_stage.proofs.PatchLemmas.{sets-later}
use Rattle.tx_stage.proofs.patching.place_of_set.Goals as goal

pub returns-then-sets : goal.returns-then-sets
returns-then-sets c =
    let l = c.loop-place in
    let ops = c.args.ops.now in
    let key = c.args.key.now in
    let o : ArrayOp = c.index-ops-place.result in
    let read : o ≡ get_or ops (l.place - 1) o = c.index-ops-place.is in
    let step : l.place ≡ suc (l.place - 1) = omega (arith, c.loop-place-test.true) in
    sets-later key ops (l.place - 1) o (omega (arith, c.loop-place-test.true, l.invariant.0)) read (sym c.sets.ensures ∙ c.if-sets.true)
    (subst (λ n. list_any (concerns key) (drop n ops) ≡ false) step l.invariant.1)
