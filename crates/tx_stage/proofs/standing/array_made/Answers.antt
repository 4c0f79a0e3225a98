use Rattle.std.proofs.Common.{◌≡◌, ◌<◌, length, subst, get_or, rules}
use Rattle.std.specs.Prelude.{IfOk, IfSome}
use Rattle.std.specs.Option.{option_copied}
use Rattle.array_store.specs.declared.op.ArrayOp.{ArrayOp}
use Rattle.tx_stage.specs.Patching.{SetsLater}
use Rattle.tx_stage.proofs.PatchLemmas.{given-set, later-inside}
use Rattle.tx_stage.proofs.standing.array_made.Goals as goal

pub bounds-ops-place : goal.bounds-ops-place
bounds-ops-place c =
    let ops = c.args.ops.now in
    let key = c.args.key.now in
    let is : SetsLater key ops c.in-Some.place = subst (λ r. IfSome r (λ place. SetsLater key ops place)) c.in-Some.is c.place_of_set.ensures in
    later-inside key ops c.in-Some.place is

pub offset_bounds-ops-place : goal.offset_bounds-ops-place
offset_bounds-ops-place c =
    let inside : c.in-Some.place < length c.args.ops.now = bounds-ops-place c in
    search rules

pub returns-in-Some : goal.returns-in-Some
returns-in-Some c =
    let ops = c.args.ops.now in
    let key = c.args.key.now in
    let place = c.in-Some.place in
    let o : ArrayOp = c.index-ops-place.result in
    let read : o ≡ get_or ops place o = c.index-ops-place.is in
    let is : SetsLater key ops place = subst (λ r. IfSome r (λ place. SetsLater key ops place)) c.in-Some.is c.place_of_set.ensures in
    subst (λ m. IfOk c.copy_of_set.result (λ o. o ≡ m)) (given-set key (option_copied c.args.before) ops place o is read) c.copy_of_set.ensures
