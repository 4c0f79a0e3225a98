use Rattle.std.proofs.Common.{◌≡◌, ◌++◌, ◌∷◌, [], Some, None, fold, sym, ap, ◌∙◌, w64, to_z, of_z}
use Rattle.std.proofs.lemmas.Int.{to_z-of_z}
use Rattle.std.specs.Option.{option_map}
use Rattle.etp_values.specs.declared.code.ErrorCode.{ErrorCode}
use Rattle.array_store.specs.declared.op.ArrayOp.TheVariants.{PatchArray}
use Rattle.array_store.specs.Codes.{code_of}
use Rattle.array_store.specs.Operations.{array_after}
use Rattle.array_store.specs.Refusals.{write_refusal}
use Rattle.array_store.specs.Table.{array_in}
use Rattle.tx_stage.proofs.PlanLemmas.{undated, patch-misfit, leaves-refused}
use Rattle.tx_stage.proofs.PatchLemmas.{untouched, patches-stored}
use Rattle.tx_stage.proofs.contents.Contents.patch_stored.Goals as goal

pub numbers_refusal-requires : goal.numbers_refusal-requires
numbers_refusal-requires c = c.requires.2

pub returns-in-Some-clause-code : goal.returns-in-Some-clause-code
returns-in-Some-clause-code c =
    let t = c.args.self.now in
    let p = c.args.plan.now in
    let key = c.args.key.now in
    let array = c.args.array.now in
    let starts = c.args.starts.now in
    let counts = c.args.counts.now in
    let values = c.args.values.now in
    let after = fold (array_after key) (array_in t.arrays key) p.arrays.items in
    let refused : write_refusal array starts counts values ≡ Some c.in-Some.error = sym c.numbers_refusal.ensures ∙ c.in-Some.is in
    let alike : undated (Some array) ≡ undated after = ap undated (sym (untouched t p key array c.requires)) in
    ap (λ (e : ErrorCode). Some e) c.code.ensures ∙ ap (option_map code_of) (sym refused) ∙ patch-misfit after array starts counts values alike

pub returns-in-Some-clause-plan : goal.returns-in-Some-clause-plan
returns-in-Some-clause-plan c =
    let t = c.args.self.now in
    let p = c.args.plan.now in
    let key = c.args.key.now in
    let array = c.args.array.now in
    let starts = c.args.starts.now in
    let counts = c.args.counts.now in
    let values = c.args.values.now in
    let after = fold (array_after key) (array_in t.arrays key) p.arrays.items in
    let refused : write_refusal array starts counts values ≡ Some c.in-Some.error = sym c.numbers_refusal.ensures ∙ c.in-Some.is in
    let alike : undated (Some array) ≡ undated after = ap undated (sym (untouched t p key array c.requires)) in
    leaves-refused t p key array c.in-Some.error c.args.at starts counts values alike refused

pub returns-clause-code : goal.returns-clause-code
returns-clause-code c =
    let t = c.args.self.now in
    let p = c.args.plan.now in
    let key = c.args.key.now in
    let array = c.args.array.now in
    let starts = c.args.starts.now in
    let counts = c.args.counts.now in
    let values = c.args.values.now in
    let after = fold (array_after key) (array_in t.arrays key) p.arrays.items in
    let fits : write_refusal array starts counts values ≡ None = sym c.numbers_refusal.ensures ∙ c.in_default.is in
    let alike : undated (Some array) ≡ undated after = ap undated (sym (untouched t p key array c.requires)) in
    ap (option_map code_of) (sym fits) ∙ patch-misfit after array starts counts values alike

pub returns-clause-plan : goal.returns-clause-plan
returns-clause-plan c =
    let p = c.args.plan.now in
    let key = c.args.key.now in
    let starts = c.args.starts.now in
    let counts = c.args.counts.now in
    let values = c.args.values.now in
    let moment : to_z w64 (of_z w64 c.args.at) ≡ c.args.at = to_z-of_z w64 c.args.at c.ranges.at in
    patches-stored c.args.self.now p c.push_patch.new.self key c.args.array.now c.args.at starts counts values c.requires
    (ap (λ v. v.items) c.push_patch.ensures.objects)
    (c.in_ok-push_patch.ensures.arrays ∙ ap (λ z. p.arrays.items ++ PatchArray key z starts counts values ∷ []) moment)
