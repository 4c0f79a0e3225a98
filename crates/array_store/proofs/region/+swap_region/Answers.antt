use Rattle.std.proofs.Common.{◌≡◌, ◌+◌, ◌<◌, ◌≤◌, ◌*◌, ◌-◌, ◌/◌, length, sym, ◌∙◌, arith, rules}
use Rattle.std.proofs.lemmas.Bool.Decides.{nat_tests}
use Rattle.std.proofs.lemmas.List.{nil_from_length}
use borrow.Rule.Slice.PartMut.{put_mid}
use Rattle.array_store.specs.Shape.{sizes}
use Rattle.array_store.specs.Region.{sliced, patched}
use Rattle.array_store.proofs.RegionLemmas.{length-patched, length-sliced, patched-more}
use Rattle.array_store.proofs.StepLemmas.{sizes-empty, part-of, region-within, sliced-run, sliced-none, patched-run, patched-none, no-values, row-width, row-part, row-fits, part-fits, parts-end, swap-first, swap-next, swap-last}
use Rattle.array_store.proofs.region.+swap_region.Goals as goal

pub returns-then-is_empty-clause-items : goal.returns-then-is_empty-clause-items
returns-then-is_empty-clause-items g t c =
    let o = c.first_dimension-outer in
    let xs = c.args.items.now in
    let within = region-within o.result.dims.now o.result.starts.now o.result.counts.now o.ensures.region in
    let last : length o.result.dims.now ≡ 0 = grind (arith, nat_tests) in
    let run = patched-run o.ensures.parts within xs c.args.values.now (sizes-empty o.result.dims.now last) c.requires.full c.requires.all in
    let long : (o.result.first + o.result.rows) - o.result.first ≡ o.result.rows = omega arith in
    (λ j. put_mid o.result.first (long j) xs (c.swap_with_slice.ensures.after j)) ∙ sym run

pub returns-then-is_empty-clause-values : goal.returns-then-is_empty-clause-values
returns-then-is_empty-clause-values g t c =
    let o = c.first_dimension-outer in
    let xs = c.args.items.now in
    let within = region-within o.result.dims.now o.result.starts.now o.result.counts.now o.ensures.region in
    let last : length o.result.dims.now ≡ 0 = grind (arith, nat_tests) in
    let run = sliced-run o.ensures.parts within xs (sizes-empty o.result.dims.now last) c.requires.full in
    c.swap_with_slice.ensures.other_after ∙ part-of o.result.first o.result.rows xs ∙ sym run

pub returns-then-rows-eq0-clause-items : goal.returns-then-rows-eq0-clause-items
returns-then-rows-eq0-clause-items g t c =
    let o = c.first_dimension-outer in
    let within = region-within o.result.dims.now o.result.starts.now o.result.counts.now o.ensures.region in
    sym (patched-none o.ensures.parts within c.args.items.now c.args.values.now c.requires.full c.if-rows-eq0.true)

pub returns-then-rows-eq0-clause-values : goal.returns-then-rows-eq0-clause-values
returns-then-rows-eq0-clause-values g t c =
    let o = c.first_dimension-outer in
    let within = region-within o.result.dims.now o.result.starts.now o.result.counts.now o.ensures.region in
    nil_from_length c.args.values.now (c.requires.all ∙ no-values o.ensures.parts c.if-rows-eq0.true) ∙ sym (sliced-none o.ensures.parts within c.args.items.now c.if-rows-eq0.true)

pub loop-row-init : goal.loop-row-init
loop-row-init g t c =
    let o = c.first_dimension-outer in
    let xs = c.args.items.now in
    let ys = c.args.values.now in
    let within = region-within o.result.dims.now o.result.starts.now o.result.counts.now o.ensures.region in
    let some : 0 < o.result.rows = omega arith in
    let wide = row-width o.ensures.parts (length xs) c.requires.full some in
    let parts = row-part o.ensures.parts (length ys) c.requires.all some in
    swap-first o.ensures.parts within xs ys (length xs / o.result.depth) (length ys / o.result.rows) o.result.rows wide parts (λ j. o.result.rows) c.requires.full

pub overflow_add-at-in-loop-row : goal.overflow_add-at-in-loop-row
overflow_add-at-in-loop-row g t c =
    let o = c.first_dimension-outer in
    let some : 0 < o.result.rows = omega arith in
    let wide = row-width o.ensures.parts (length c.args.items.now) c.requires.full some in
    let fits = row-fits o.ensures.parts (length c.args.items.now) (length c.args.items.now / o.result.depth) c.loop-row.row c.requires.full wide c.loop-row-test.true in
    search rules

pub slice_bounds-swap_region-end : goal.slice_bounds-swap_region-end
slice_bounds-swap_region-end g t c =
    let o = c.first_dimension-outer in
    let some : 0 < o.result.rows = omega arith in
    let wide = row-width o.ensures.parts (length c.args.items.now) c.requires.full some in
    let fits = row-fits o.ensures.parts (length c.args.items.now) (length c.args.items.now / o.result.depth) c.loop-row.row c.requires.full wide c.loop-row-test.true in
    let whole : (o.result.first + c.loop-row.row) * (length c.args.items.now / o.result.depth) + length c.args.items.now / o.result.depth ≤ length c.loop-row.items = omega (arith, fits, c.loop-row.invariant.long) in
    search rules

pub loop-row-preserved : goal.loop-row-preserved
loop-row-preserved g t c =
    let o = c.first_dimension-outer in
    let xs = c.args.items.now in
    let ys = c.args.values.now in
    let now_xs = c.loop-row.items in
    let now_ys = c.loop-row.values in
    let k = c.loop-row.row in
    let w = length xs / o.result.depth in
    let p = length ys / o.result.rows in
    let at = (o.result.first + k) * w in
    let from = k * p in
    let di = sizes o.result.dims.now in
    let si = sizes o.result.starts.now in
    let ci = sizes o.result.counts.now in
    let within = region-within o.result.dims.now o.result.starts.now o.result.counts.now o.ensures.region in
    let some : 0 < o.result.rows = omega arith in
    let wide = row-width o.ensures.parts (length xs) c.requires.full some in
    let parts = row-part o.ensures.parts (length ys) c.requires.all some in
    let items_fit = row-fits o.ensures.parts (length xs) w k c.requires.full wide c.loop-row-test.true in
    let values_fit = part-fits o.ensures.parts (length ys) p k c.requires.all parts c.loop-row-test.true in
    let row_part = part-of at w now_xs in
    let run_part = part-of from p now_ys in
    let width : (at + w) - at ≡ w = omega arith in
    let span : (from + p) - from ≡ p = omega arith in
    let row = c.swap_region.ensures.items ∙ (λ j. patched di si ci (row_part j) (run_part j)) in
    let run = c.swap_region.ensures.values ∙ (λ j. sliced di si ci (row_part j)) in
    swap-next (sliced di si ci) (patched di si ci) w p o.result.rows k o.result.first xs ys now_xs now_ys _ _ _ _ c.loop-row-test.true items_fit values_fit c.loop-row.invariant
    (length-patched di si ci) (λ r e. length-sliced di si ci r within (e ∙ wide) ∙ sym parts) (λ r vs zs e. patched-more di si ci r vs zs within (e ∙ parts))
    (λ j. put_mid at (width j) now_xs (row j)) (λ j. put_mid from (span j) now_ys (run j))

pub returns-clause-values : goal.returns-clause-values
returns-clause-values g t c =
    let o = c.first_dimension-outer in
    let xs = c.args.items.now in
    let ys = c.args.values.now in
    let k = c.loop-row.row in
    let p = length ys / o.result.rows in
    let some : 0 < o.result.rows = omega arith in
    let parts = row-part o.ensures.parts (length ys) c.requires.all some in
    let past = parts-end o.ensures.parts (length ys) p k c.requires.all parts (omega arith) in
    let none : o.result.rows - k ≡ 0 = omega arith in
    (swap-last _ _ _ _ _ _ _ xs ys c.loop-row.items c.loop-row.values _ _ none past c.loop-row.invariant).1
