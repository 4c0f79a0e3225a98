use Rattle.std.proofs.Common.{◌≡◌, Option, Some, None, refl, sym, ap, ◌∙◌, fold, w64, to_z, of_z}
use Rattle.std.specs.Prelude.{is_some}
use Rattle.std.proofs.lemmas.Int.{to_z-of_z}
use Rattle.std.specs.Option.{option_map}
use Rattle.array_store.specs.declared.record.ArrayRecord.{ArrayRecord}
use Rattle.array_store.specs.Codes.{code_of}
use Rattle.array_store.specs.Operations.{array_after}
use Rattle.array_store.specs.Refusals.{write_refusal}
use Rattle.array_store.specs.Table.{array_in, patched_at}
use Rattle.etp_values.specs.declared.code.ErrorCode.{ErrorCode}
use Rattle.tx_stage.specs.Standing.{array_given}
use Rattle.tx_stage.proofs.PlanLemmas.{undated, undated-after, none-alike, no-patch, leaves-none, patch-misfit, leaves-refused, patches-array, refused-some, refused-none}
use Rattle.tx_stage.proofs.contents.Contents.patch_copy.Goals as goal

pub returns-in_default-clause-code : goal.returns-in_default-clause-code
returns-in_default-clause-code c =
    let key = c.args.key.now in
    let sets = c.args.plan.now.arrays.items in
    let found = array_in c.args.self.now.arrays key in
    let none : fold (array_given key) found sets ≡ None = sym c.in_ok-planned.ensures ∙ c.in_default.is in
    let alike = undated-after key sets found found refl in
    let gone = none-alike (fold (array_after key) found sets) (ap undated (sym none) ∙ alike) in
    no-patch (fold (array_after key) found sets) c.args.starts.now c.args.counts.now c.args.values.now gone

pub returns-in_default-clause-plan : goal.returns-in_default-clause-plan
returns-in_default-clause-plan c =
    let key = c.args.key.now in
    let sets = c.args.plan.now.arrays.items in
    let found = array_in c.args.self.now.arrays key in
    let none : fold (array_given key) found sets ≡ None = sym c.in_ok-planned.ensures ∙ c.in_default.is in
    let alike = undated-after key sets found found refl in
    let gone = none-alike (fold (array_after key) found sets) (ap undated (sym none) ∙ alike) in
    leaves-none c.args.self.now c.args.plan.now key c.args.at c.args.starts.now c.args.counts.now c.args.values.now gone

pub returns-then-is_some-clause-code : goal.returns-then-is_some-clause-code
returns-then-is_some-clause-code c =
    let key = c.args.key.now in
    let sets = c.args.plan.now.arrays.items in
    let found = array_in c.args.self.now.arrays key in
    let starts = c.args.starts.now in
    let counts = c.args.counts.now in
    let values = c.args.values.now in
    let array : ArrayRecord = c.in-Some.array in
    let below : Some array ≡ fold (array_given key) found sets = sym c.in-Some.is ∙ c.in_ok-planned.ensures in
    let alike : undated (Some array) ≡ undated (fold (array_after key) found sets) = ap undated below ∙ undated-after key sets found found refl in
    let code : c.in_ok-array.refusal ≡ option_map code_of (write_refusal array starts counts values) = c.in_ok-array.ensures.code in
    let tested : is_some (option_map code_of (write_refusal array starts counts values)) ≡ c.is_some.result = ap (λ (o : Option ErrorCode). is_some o) (sym code) ∙ sym c.is_some.ensures in
    code ∙ patch-misfit (fold (array_after key) found sets) array starts counts values alike

pub returns-then-is_some-clause-plan : goal.returns-then-is_some-clause-plan
returns-then-is_some-clause-plan c =
    let key = c.args.key.now in
    let sets = c.args.plan.now.arrays.items in
    let found = array_in c.args.self.now.arrays key in
    let starts = c.args.starts.now in
    let counts = c.args.counts.now in
    let values = c.args.values.now in
    let array : ArrayRecord = c.in-Some.array in
    let below : Some array ≡ fold (array_given key) found sets = sym c.in-Some.is ∙ c.in_ok-planned.ensures in
    let alike : undated (Some array) ≡ undated (fold (array_after key) found sets) = ap undated below ∙ undated-after key sets found found refl in
    let code : c.in_ok-array.refusal ≡ option_map code_of (write_refusal array starts counts values) = c.in_ok-array.ensures.code in
    let tested : is_some (option_map code_of (write_refusal array starts counts values)) ≡ c.is_some.result = ap (λ (o : Option ErrorCode). is_some o) (sym code) ∙ sym c.is_some.ensures in
    let why = refused-some (write_refusal array starts counts values) (tested ∙ c.if-is_some.true) in
    leaves-refused c.args.self.now c.args.plan.now key array why.0 c.args.at starts counts values alike why.1

pub returns-clause-code : goal.returns-clause-code
returns-clause-code c =
    let key = c.args.key.now in
    let sets = c.args.plan.now.arrays.items in
    let found = array_in c.args.self.now.arrays key in
    let starts = c.args.starts.now in
    let counts = c.args.counts.now in
    let values = c.args.values.now in
    let array : ArrayRecord = c.in-Some.array in
    let below : Some array ≡ fold (array_given key) found sets = sym c.in-Some.is ∙ c.in_ok-planned.ensures in
    let alike : undated (Some array) ≡ undated (fold (array_after key) found sets) = ap undated below ∙ undated-after key sets found found refl in
    let code : c.in_ok-array.refusal ≡ option_map code_of (write_refusal array starts counts values) = c.in_ok-array.ensures.code in
    let tested : is_some (option_map code_of (write_refusal array starts counts values)) ≡ c.is_some.result = ap (λ (o : Option ErrorCode). is_some o) (sym code) ∙ sym c.is_some.ensures in
    let fits : write_refusal array starts counts values ≡ None = refused-none (write_refusal array starts counts values) (tested ∙ c.if-is_some.false) in
    ap (option_map code_of) (sym fits) ∙ patch-misfit (fold (array_after key) found sets) array starts counts values alike

pub returns-clause-plan : goal.returns-clause-plan
returns-clause-plan c =
    let key = c.args.key.now in
    let sets = c.args.plan.now.arrays.items in
    let found = array_in c.args.self.now.arrays key in
    let starts = c.args.starts.now in
    let counts = c.args.counts.now in
    let values = c.args.values.now in
    let array : ArrayRecord = c.in-Some.array in
    let below : Some array ≡ fold (array_given key) found sets = sym c.in-Some.is ∙ c.in_ok-planned.ensures in
    let alike : undated (Some array) ≡ undated (fold (array_after key) found sets) = ap undated below ∙ undated-after key sets found found refl in
    let code : c.in_ok-array.refusal ≡ option_map code_of (write_refusal array starts counts values) = c.in_ok-array.ensures.code in
    let tested : is_some (option_map code_of (write_refusal array starts counts values)) ≡ c.is_some.result = ap (λ (o : Option ErrorCode). is_some o) (sym code) ∙ sym c.is_some.ensures in
    let fits : write_refusal array starts counts values ≡ None = refused-none (write_refusal array starts counts values) (tested ∙ c.if-is_some.false) in
    let none : c.in_ok-array.refusal ≡ None = code ∙ ap (option_map code_of) fits in
    let moment : to_z w64 (of_z w64 c.args.at) ≡ c.args.at = to_z-of_z w64 c.args.at c.ranges.at in
    let made : c.in_ok-array.array ≡ patched_at c.args.at starts counts values array = c.in_ok-array.ensures.value ∙ ap (λ z. patched_at z starts counts values array) moment in
    patches-array c.args.self.now c.args.plan.now c.push_array.new.self key array c.in_ok-array.array c.args.at starts counts values alike made fits (c.in_ok-array.ensures.sound none) (ap (λ v. v.items) c.push_array.ensures.objects) c.in_ok-push_array.ensures.arrays
