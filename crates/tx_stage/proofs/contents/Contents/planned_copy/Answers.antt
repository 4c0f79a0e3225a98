use Rattle.std.proofs.Common.{◌≡◌, false, fold, refl, sym, subst, ◌∙◌}
use Rattle.std.specs.Prelude.{is_some, IfOk}
use Rattle.std.specs.Option.{option_copied, option_map}
use Rattle.array_store.specs.Operations.{array_after}
use Rattle.array_store.specs.Table.{array_in}
use Rattle.tx_stage.specs.declared.value.Value.TheVariants as value
use Rattle.tx_stage.specs.Standing.{array_given}
use Rattle.tx_stage.proofs.PlanLemmas.{gone-alike, undated-after}
use Rattle.tx_stage.proofs.contents.Contents.planned_copy.Goals as goal

pub returns-then-not-has_array : goal.returns-then-not-has_array
returns-then-not-has_array c =
    let key = c.args.key.now in
    let ops = c.args.plan.now.arrays.items in
    let found = array_in c.args.self.now.arrays key in
    let none : is_some (option_map value.Array (fold (array_after key) found ops)) ≡ false = sym c.has_array.ensures ∙ c.if-not-has_array.true in
    sym (gone-alike (fold (array_given key) found ops) (fold (array_after key) found ops) (undated-after key ops found found refl) none)

pub returns : goal.returns
returns c =
    let key = c.args.key.now in
    let ops = c.args.plan.now.arrays.items in
    let found = array_in c.args.self.now.arrays key in
    let given : fold (array_given key) (option_copied c.weighed.result) c.as_slice.result.now ≡ fold (array_given key) found ops = (λ j. fold (array_given key) (c.weighed.ensures j) (c.as_slice.ensures.value j)) in
    subst (λ m. IfOk c.array_made.result (λ o. o ≡ m)) given c.array_made.ensures
