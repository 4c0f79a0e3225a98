use Rattle.std.proofs.Common.{◌≡◌, sym, ap, ◌∙◌, w64, to_z, of_z}
use Rattle.std.proofs.lemmas.Int.{to_z-of_z}
use Rattle.std.specs.Option.{unwrap_or}
use Rattle.array_store.specs.declared.error.ArrayError.TheVariants.{NoMemory}
use Rattle.array_store.specs.Refusals.{record_refusal, write_refusal}
use Rattle.array_store.specs.Table.{patch_array, rewritten}
use Rattle.tx_stage.proofs.RefusedLemmas.{patch-done, patch-refused}
use Rattle.tx_stage.proofs.value.patch_in_place.Goals as goal

pub returns-in_ok-code-in-Err-clause-value : goal.returns-in_ok-code-in-Err-clause-value
returns-in_ok-code-in-Err-clause-value c =
    let array = c.args.array.now in
    let starts = c.args.starts.now in
    let counts = c.args.counts.now in
    let values = c.args.values.now in
    let why : c.in-Err.error ≡ unwrap_or (write_refusal array starts counts values) NoMemory = c.in-Err.ensures.done ∙ ap (λ v. unwrap_or (write_refusal array starts counts v) NoMemory) c.in_ok-values.ensures in
    let kept = patch-refused c.in-Err.error c.in_ok-code-in-Err.code (write_refusal array starts counts values) array (rewritten (patch_array array starts counts values) c.args.at) why (sym c.memory_or_code.ensures ∙ c.in_ok-code-in-Err.was) in
    c.in-Err.ensures.err ∙ kept.0

pub returns-in_ok-code-in-Err-clause-code : goal.returns-in_ok-code-in-Err-clause-code
returns-in_ok-code-in-Err-clause-code c =
    let array = c.args.array.now in
    let starts = c.args.starts.now in
    let counts = c.args.counts.now in
    let values = c.args.values.now in
    let why : c.in-Err.error ≡ unwrap_or (write_refusal array starts counts values) NoMemory = c.in-Err.ensures.done ∙ ap (λ v. unwrap_or (write_refusal array starts counts v) NoMemory) c.in_ok-values.ensures in
    let kept = patch-refused c.in-Err.error c.in_ok-code-in-Err.code (write_refusal array starts counts values) array (rewritten (patch_array array starts counts values) c.args.at) why (sym c.memory_or_code.ensures ∙ c.in_ok-code-in-Err.was) in
    kept.1

pub returns-in-Ok-clause-value : goal.returns-in-Ok-clause-value
returns-in-Ok-clause-value c =
    patch-done c.args.array.now c.patch.new.self c.set_written.new.self c.args.starts.now c.args.counts.now c.in_ok-values.values c.args.values.now c.args.at (to_z w64 (of_z w64 c.args.at)) (to_z-of_z w64 c.args.at c.ranges.at)
    c.in_ok-values.ensures c.in-Ok.ensures.done c.in-Ok.ensures.ok c.set_written.ensures

pub returns-in-Ok-clause-sound : goal.returns-in-Ok-clause-sound
returns-in-Ok-clause-sound c = λ code. ap record_refusal c.set_written.ensures ∙ c.in-Ok.ensures.sound
