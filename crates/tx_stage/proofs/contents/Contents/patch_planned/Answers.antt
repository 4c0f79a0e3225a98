use Rattle.std.proofs.Common.{◌≡◌, Option, get_or, subst, arith, w64, to_z, of_z}
use Rattle.std.specs.Prelude.{IfOk, OnOk}
use Rattle.std.proofs.lemmas.Int.{to_z-of_z}
use Rattle.etp_values.specs.declared.code.ErrorCode.{ErrorCode}
use Rattle.array_store.specs.declared.op.ArrayOp.{ArrayOp}
use Rattle.array_store.specs.Table.{array_in}
use Rattle.tx_stage.specs.Patching.{patched_op}
use Rattle.tx_stage.proofs.PatchLemmas.{kept, over-inside, planned, planned-code}
use Rattle.tx_stage.proofs.contents.Contents.patch_planned.Goals as goal

pub index_mut-requires : goal.index_mut-requires
index_mut-requires c =
    let p = c.args.plan.now in
    let inside = over-inside c.args.key.now (array_in c.args.self.now.arrays c.args.key.now) p.arrays.items c.args.place c.requires in
    omega (arith, inside, p.arrays.ok.0)

pub returns-clause-code : goal.returns-clause-code
returns-clause-code c =
    let t = c.args.self.now in
    let p = c.args.plan.now in
    let key = c.args.key.now in
    let ss = c.args.starts.now in
    let cs = c.args.counts.now in
    let vs = c.args.values.now in
    let o : ArrayOp = c.index_mut.result.now in
    let read : o ≡ get_or p.arrays.items c.args.place o = c.index_mut.ensures.value in
    subst (λ (m : Option ErrorCode). IfOk c.patch_set.result (λ r. r ≡ m)) (planned-code key (array_in t.arrays key) p.arrays.items c.args.place o ss cs vs c.requires read) c.patch_set.ensures.code

pub returns-clause-plan : goal.returns-clause-plan
returns-clause-plan c =
    let t = c.args.self.now in
    let p = c.args.plan.now in
    let key = c.args.key.now in
    let ss = c.args.starts.now in
    let cs = c.args.counts.now in
    let vs = c.args.values.now in
    let o : ArrayOp = c.index_mut.result.now in
    let read : o ≡ get_or p.arrays.items c.args.place o = c.index_mut.ensures.value in
    let moment : to_z w64 (of_z w64 c.args.at) ≡ c.args.at = to_z-of_z w64 c.args.at c.ranges.at in
    let made : OnOk c.patch_set.result (c.patch_set.new.op ≡ patched_op c.args.at ss cs vs o) =
    subst (λ at. OnOk c.patch_set.result (c.patch_set.new.op ≡ patched_op at ss cs vs o)) moment c.patch_set.ensures.op in
    planned c.patch_set.result t p key c.args.place o c.patch_set.new.op c.args.at ss cs vs c.requires read made c.patch_set.ensures.code c.patch_set.ensures.sound

pub returns-clause-same : goal.returns-clause-same
returns-clause-same c =
    let p = c.args.plan.now in
    let ss = c.args.starts.now in
    let cs = c.args.counts.now in
    let vs = c.args.values.now in
    let o : ArrayOp = c.index_mut.result.now in
    let read : o ≡ get_or p.arrays.items c.args.place o = c.index_mut.ensures.value in
    let moment : to_z w64 (of_z w64 c.args.at) ≡ c.args.at = to_z-of_z w64 c.args.at c.ranges.at in
    let made : OnOk c.patch_set.result (c.patch_set.new.op ≡ patched_op c.args.at ss cs vs o) =
    subst (λ at. OnOk c.patch_set.result (c.patch_set.new.op ≡ patched_op at ss cs vs o)) moment c.patch_set.ensures.op in
    kept c.patch_set.result p c.args.place o c.patch_set.new.op c.args.at ss cs vs read made c.patch_set.ensures.code
