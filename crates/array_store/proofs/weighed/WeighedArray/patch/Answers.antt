use Rattle.std.proofs.Common.{◌≡◌, None, rules, ap, ◌∙◌}
use Rattle.array_store.specs.Refusals.{record_refusal, patch_refusal}
use Rattle.array_store.proofs.SoundLemmas.{on_ok_both, done-refusal, refusal-patch_array}
use Rattle.array_store.proofs.weighed.WeighedArray.patch.Goals as goal

pub returns-clause-sound : goal.returns-clause-sound
returns-clause-sound c =
    let array = c.args.self.now in
    let starts = c.as_slice.result.now in
    let counts = c.as_slice-2.result.now in
    let sound : record_refusal array ≡ None = search rules in
    let accepted = done-refusal c.patch_array.result (patch_refusal array starts counts c.args.values) c.patch_array.ensures.done in
    on_ok_both c.patch_array.result (λ e f. ap record_refusal e ∙ refusal-patch_array array starts counts c.args.values sound f) c.patch_array.ensures.ok accepted
