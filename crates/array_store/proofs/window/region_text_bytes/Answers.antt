use Rattle.std.proofs.Common.{◌≡◌, Some, ap, sym, ◌∙◌, arith}
use Rattle.std.proofs.lemmas.Bool.Decides.{nat_tests}
use Rattle.etp_values.specs.Weight.{bytes_weight, capped, weigh}
use Rattle.array_store.specs.Shape.{sizes, volume}
use Rattle.array_store.proofs.RegionLemmas.{sliced-empty, told-number}
use Rattle.array_store.proofs.StepLemmas.{region-within}
use Rattle.array_store.proofs.window.region_text_bytes.Goals as goal

pub returns-in-Some-eq0 : goal.returns-in-Some-eq0
returns-in-Some-eq0 c =
    let within = region-within c.args.dims.now c.args.starts.now c.args.counts.now c.requires.region in
    let zero : c.in-Some-eq0.field-0 ≡ 0 = grind (arith, nat_tests) in
    let none : volume (sizes c.args.counts.now) ≡ 0 = told-number _ 0 (sym c.volume.ensures ∙ c.in-Some-eq0.is ∙ ap (λ n. Some n) zero) in
    ap (λ l. capped (weigh bytes_weight l)) (sym (sliced-empty (sizes c.args.dims.now) (sizes c.args.starts.now) (sizes c.args.counts.now) c.args.texts.now within c.requires.full none))
