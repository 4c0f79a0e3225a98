use Rattle.std.proofs.Common.{◌≡◌, ◌+◌, ◌-◌, ◌<◌, ◌*◌, ◌/◌, length, sym, ap, ◌∙◌, arith, rules, [], take, drop}
use Rattle.std.proofs.lemmas.Bool.Decides.{nat_tests}
use Rattle.std.proofs.lemmas.Grind.{common_steps}
use Rattle.etp_values.specs.Weight.{bytes_weight, capped, weigh}
use Rattle.array_store.specs.Shape.{sizes}
use Rattle.array_store.specs.Region.{sliced}
use Rattle.array_store.proofs.ExchangeLemmas.{capped-fits, none-before, weigh-last, weigh-next}
use Rattle.array_store.proofs.StepLemmas.{sizes-empty, part-of, region-within, sliced-run, sliced-none, read-first, row-width, row-fits}
use Rattle.array_store.proofs.region.+weigh_region.Goals as goal

pub returns-then-is_empty : goal.returns-then-is_empty
returns-then-is_empty t c =
    let o = c.first_dimension-outer in
    let within = region-within o.result.dims.now o.result.starts.now o.result.counts.now o.ensures.region in
    let last : length o.result.dims.now ≡ 0 = grind (arith, nat_tests) in
    let run = sliced-run o.ensures.parts within c.args.texts.now (sizes-empty o.result.dims.now last) c.requires.full in
    c.text_bytes.ensures ∙ ap (λ l. capped (weigh bytes_weight l)) (part-of o.result.first o.result.rows c.args.texts.now ∙ sym run)

pub returns-then-rows-eq0 : goal.returns-then-rows-eq0
returns-then-rows-eq0 t c =
    let o = c.first_dimension-outer in
    let within = region-within o.result.dims.now o.result.starts.now o.result.counts.now o.ensures.region in
    ap (λ l. capped (weigh bytes_weight l)) (sym (sliced-none o.ensures.parts within c.args.texts.now c.if-rows-eq0.true))

pub loop-row-init : goal.loop-row-init
loop-row-init t c =
    let o = c.first_dimension-outer in
    let xs = c.args.texts.now in
    let within = region-within o.result.dims.now o.result.starts.now o.result.counts.now o.ensures.region in
    let some : 0 < o.result.rows = omega arith in
    let wide = row-width o.ensures.parts (length xs) c.requires.full some in
    let left : o.result.rows - 0 ≡ o.result.rows = omega arith in
    let whole = read-first o.ensures.parts within [] xs (length xs / o.result.depth) (o.result.rows - 0) wide left in
    record { total = ap (λ l. capped (0 + weigh bytes_weight l)) whole ∙ ap capped (none-before (weigh bytes_weight (sliced (sizes c.args.dims.now) (sizes c.args.starts.now) (sizes c.args.counts.now) xs))); fits = omega arith }

pub overflow_add-at-in-loop-row : goal.overflow_add-at-in-loop-row
overflow_add-at-in-loop-row t c =
    let o = c.first_dimension-outer in
    let some : 0 < o.result.rows = omega arith in
    let wide = row-width o.ensures.parts (length c.args.texts.now) c.requires.full some in
    let fits = row-fits o.ensures.parts (length c.args.texts.now) (length c.args.texts.now / o.result.depth) c.loop-row.row c.requires.full wide c.loop-row-test.true in
    search rules

pub slice_bounds-weigh_region-end : goal.slice_bounds-weigh_region-end
slice_bounds-weigh_region-end t c =
    let o = c.first_dimension-outer in
    let some : 0 < o.result.rows = omega arith in
    let wide = row-width o.ensures.parts (length c.args.texts.now) c.requires.full some in
    let fits = row-fits o.ensures.parts (length c.args.texts.now) (length c.args.texts.now / o.result.depth) c.loop-row.row c.requires.full wide c.loop-row-test.true in
    search rules

pub loop-row-preserved : goal.loop-row-preserved
loop-row-preserved t c =
    let o = c.first_dimension-outer in
    let xs = c.args.texts.now in
    let w = length xs / o.result.depth in
    let at = (o.result.first + c.loop-row.row) * w in
    let f = sliced (sizes o.result.dims.now) (sizes o.result.starts.now) (sizes o.result.counts.now) in
    let part = c.weigh_region-part.ensures ∙ ap (λ l. capped (weigh bytes_weight (f l))) (part-of at w xs) in
    let added : c.saturating_add-sum.result ≡ capped (c.loop-row.sum + c.weigh_region-part.result) = grind (arith, common_steps) in
    let now : c.saturating_add-sum.result ≡ capped (c.loop-row.sum + capped (weigh bytes_weight (f (take w (drop at xs))))) = added ∙ ap (λ n. capped (c.loop-row.sum + n)) part in
    record {
      total = weigh-next bytes_weight f w o.result.rows c.loop-row.row o.result.first c.loop-row.sum c.saturating_add-sum.result (capped (weigh bytes_weight (sliced (sizes c.args.dims.now) (sizes c.args.starts.now) (sizes c.args.counts.now) xs))) xs
          c.loop-row-test.true c.loop-row.invariant.total now;
      fits = capped-fits c.saturating_add-sum.result (c.loop-row.sum + capped (weigh bytes_weight (f (take w (drop at xs))))) now;
    }

pub returns : goal.returns
returns t c =
    let o = c.first_dimension-outer in
    let xs = c.args.texts.now in
    let w = length xs / o.result.depth in
    let f = sliced (sizes o.result.dims.now) (sizes o.result.starts.now) (sizes o.result.counts.now) in
    let none : o.result.rows - c.loop-row.row ≡ 0 = omega arith in
    weigh-last bytes_weight f w (o.result.rows - c.loop-row.row) c.loop-row.sum _ (drop ((o.result.first + c.loop-row.row) * w) xs) none c.loop-row.invariant.fits c.loop-row.invariant.total
