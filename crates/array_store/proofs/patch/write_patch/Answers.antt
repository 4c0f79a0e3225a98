use Rattle.std.proofs.Common.{◌≡◌, None, rules, ap, ◌∙◌}
use Rattle.array_store.specs.Refusals.{record_refusal}
use Rattle.array_store.proofs.SoundLemmas.{refusal-patch_array}
use Rattle.array_store.proofs.patch.write_patch.Goals as goal

pub returns-in-Ok-clause-sound : goal.returns-in-Ok-clause-sound
returns-in-Ok-clause-sound c =
    let array = c.args.array.now in
    let starts = c.as_slice.result.now in
    let counts = c.as_slice-2.result.now in
    let sound : record_refusal array ≡ None = search rules in
    ap record_refusal c.in-Ok.ensures.ok ∙ refusal-patch_array array starts counts c.args.values sound c.in-Ok.ensures.done
