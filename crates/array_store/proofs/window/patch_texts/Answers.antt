use Rattle.std.proofs.Common.{◌≡◌, cond, Some, None, ◌∙◌, sym, ap, arith}
use Rattle.etp_values.specs.Weight.{bytes_weight, capped, weigh}
use Rattle.array_store.specs.Shape.{sizes}
use Rattle.array_store.specs.Region.{sliced, patched}
use Rattle.array_store.specs.declared.error.ArrayError.TheVariants.{TooLarge}
use Rattle.array_store.proofs.ExchangeLemmas.{region_exchanged, heavy-weight, light-weight}
use Rattle.array_store.proofs.RegionLemmas.{patched-back}
use Rattle.array_store.proofs.StepLemmas.{region-within}
use Rattle.array_store.proofs.window.patch_texts.Goals as goal

pub returns-then-are_too_heavy : goal.returns-then-are_too_heavy
returns-then-are_too_heavy c =
    let ds = sizes c.args.dims.now in
    let ss = sizes c.args.starts.now in
    let cs = sizes c.args.counts.now in
    let held = c.args.held in
    let values = c.args.values in
    let within = region-within c.args.dims.now c.args.starts.now c.args.counts.now c.requires.region in
    let once : c.swap_items.new.items.items ≡ patched ds ss cs held values = c.swap_items.ensures.items ∙ (λ j. patched ds ss cs (c.into_vec-items.ensures j) (c.into_vec-values.ensures j)) in
    let taken : c.swap_items.new.values.items ≡ sliced ds ss cs held = c.swap_items.ensures.values ∙ ap (sliced ds ss cs) c.into_vec-items.ensures in
    let again : c.swap_items-then-are_too_heavy.new.items.items ≡ held = c.swap_items-then-are_too_heavy.ensures.items ∙ (λ j. patched ds ss cs (once j) (taken j)) ∙ patched-back ds ss cs held values within c.requires.full in
    let ex = region_exchanged bytes_weight ds ss cs held values within c.requires.full c.requires.all in
    let counted : c.exchanged_bytes-weight.result ≡ capped (weigh bytes_weight (patched ds ss cs held values)) =
    c.exchanged_bytes-weight.ensures (weigh bytes_weight (sliced ds ss cs held)) ex.rest (weigh bytes_weight values) (omega (arith, ex.before, c.requires.light)) (c.requires.weighed ∙ ap capped ex.before)
    (c.text_bytes-taken.ensures ∙ ap (λ l. capped (weigh bytes_weight l)) (c.as_slice-2.ensures.value ∙ taken)) (c.text_bytes-added.ensures ∙ ap (λ l. capped (weigh bytes_weight l)) c.as_slice.ensures)
    ∙ ap capped (sym ex.after) in
    let heavy = heavy-weight (weigh bytes_weight (patched ds ss cs held values)) c.exchanged_bytes-weight.result counted (sym c.are_too_heavy.ensures ∙ c.if-are_too_heavy.true) in
    (c.from_vec.ensures ∙ again, ap (λ b. cond b (Some TooLarge) None) heavy)

pub returns : goal.returns
returns c =
    let ds = sizes c.args.dims.now in
    let ss = sizes c.args.starts.now in
    let cs = sizes c.args.counts.now in
    let held = c.args.held in
    let values = c.args.values in
    let within = region-within c.args.dims.now c.args.starts.now c.args.counts.now c.requires.region in
    let once : c.swap_items.new.items.items ≡ patched ds ss cs held values = c.swap_items.ensures.items ∙ (λ j. patched ds ss cs (c.into_vec-items.ensures j) (c.into_vec-values.ensures j)) in
    let taken : c.swap_items.new.values.items ≡ sliced ds ss cs held = c.swap_items.ensures.values ∙ ap (sliced ds ss cs) c.into_vec-items.ensures in
    let ex = region_exchanged bytes_weight ds ss cs held values within c.requires.full c.requires.all in
    let counted : c.exchanged_bytes-weight.result ≡ capped (weigh bytes_weight (patched ds ss cs held values)) =
    c.exchanged_bytes-weight.ensures (weigh bytes_weight (sliced ds ss cs held)) ex.rest (weigh bytes_weight values) (omega (arith, ex.before, c.requires.light)) (c.requires.weighed ∙ ap capped ex.before)
    (c.text_bytes-taken.ensures ∙ ap (λ l. capped (weigh bytes_weight l)) (c.as_slice-2.ensures.value ∙ taken)) (c.text_bytes-added.ensures ∙ ap (λ l. capped (weigh bytes_weight l)) c.as_slice.ensures)
    ∙ ap capped (sym ex.after) in
    let light = light-weight (weigh bytes_weight (patched ds ss cs held values)) c.exchanged_bytes-weight.result counted (sym c.are_too_heavy.ensures ∙ c.if-are_too_heavy.false) in
    (c.from_vec-patched.ensures ∙ once, ap (λ b. cond b (Some TooLarge) None) light, counted)
