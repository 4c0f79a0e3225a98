use Rattle.std.proofs.Common.{rules, ◌∷◌, [], sym, subst, w64}
use Rattle.std.specs.Prelude.{FitsSigned}
use Rattle.std.proofs.lemmas.Int.{to_z-of_z}
use Rattle.array_store.specs.Refusals.{record_refusal}
use Rattle.array_store.specs.Operations.{Applies}
use Rattle.array_store.specs.Table.{PatchesAmong}
use Rattle.array_store.proofs.ApplyingLemmas.{put_done}
use Rattle.array_store.proofs.store.ArrayStore.apply_one.Goals as goal

pub returns-in-SetArray-clause-each : goal.returns-in-SetArray-clause-each
returns-in-SetArray-clause-each c =
    let old = c.args.self.now in
    let new = c.put_weighed.new.self in
    let array = c.in-SetArray.array in
    subst (λ op. Applies (op ∷ []) old new) (sym c.in-SetArray.is)
    (record { arrays = put_done c.put_weighed.result (record_refusal array) old new c.in-SetArray.key array c.put_weighed.ensures.done c.put_weighed.ensures.ok c.put_weighed.ensures.err (c.put_weighed.ensures.succeeds c.requires) })

pub returns-in-PatchArray-clause-each : goal.returns-in-PatchArray-clause-each
returns-in-PatchArray-clause-each c =
    let p = c.in-PatchArray in
    let old = c.args.self.now in
    let new = c.patch_held.new.self in
    let fits : FitsSigned w64 p.at = search rules in
    let each = subst (λ z. PatchesAmong old.arrays new.arrays p.key z p.starts p.counts p.values) (to_z-of_z w64 p.at fits) c.patch_held.ensures.each in
    subst (λ op. Applies (op ∷ []) old new) (sym p.is) (record { arrays = each })
