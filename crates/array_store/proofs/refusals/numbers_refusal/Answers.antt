use Rattle.std.proofs.Common.{◌≡◌, None, sym, ap, ◌∙◌}
use Rattle.array_store.specs.Refusals.{first_refusal, record_refusal, region_refusal, values_refusal}
use Rattle.array_store.proofs.SoundLemmas.{refusal-numbers}
use Rattle.array_store.proofs.refusals.numbers_refusal.Goals as goal

pub returns : goal.returns
returns c =
    let r = c.args.array.now in
    let ss = c.args.starts.now in
    let cs = c.args.counts.now in
    let values = c.args.values.now in
    let sound : record_refusal r ≡ None = sym c.record_refusal.ensures ∙ c.in_default.is in
    let tested : c.region_refusal.result ≡ region_refusal r.dims ss cs = c.region_refusal.ensures ∙ (λ j. region_refusal (c.as_slice.ensures j) (c.as_slice-2.ensures j) (c.as_slice-counts.ensures j)) in
    let inside : region_refusal r.dims ss cs ≡ None = sym tested ∙ c.in_default-region_refusal.is in
    c.values_refusal.ensures ∙ ap (λ l. values_refusal r.values l values) c.as_slice-counts.ensures
    ∙ sym (refusal-numbers r ss cs values c.requires ∙ (λ j. first_refusal (sound j) (first_refusal (inside j) (values_refusal r.values cs values))))
