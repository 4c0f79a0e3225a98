use Rattle.std.proofs.Common.{◌≡◌, ◌+◌, ◌++◌, ◌<◌, ◌*◌, ◌/◌, length, sym, ap, ◌∙◌, arith, rules}
use Rattle.std.proofs.lemmas.Bool.Decides.{nat_tests}
use Rattle.std.proofs.lemmas.List.{append-nil}
use Rattle.std.proofs.lemmas.Result.{on_ok_weaker}
use Rattle.array_store.specs.Shape.{sizes}
use Rattle.array_store.specs.Region.{sliced}
use Rattle.array_store.proofs.StepLemmas.{sizes-empty, part-of, region-within, sliced-run, sliced-none, read-first, read-next, row-width, row-fits}
use Rattle.array_store.proofs.region.+read_region.Goals as goal

pub returns-then-is_empty : goal.returns-then-is_empty
returns-then-is_empty g t c =
    let o = c.first_dimension-outer in
    let within = region-within o.result.dims.now o.result.starts.now o.result.counts.now o.ensures.region in
    let last : length o.result.dims.now ≡ 0 = grind (arith, nat_tests) in
    let run = sliced-run o.ensures.parts within c.args.items.now (sizes-empty o.result.dims.now last) c.requires.full in
    on_ok_weaker c.append.result (λ e. e ∙ ap (λ l. c.args.out.now.items ++ l) (part-of o.result.first o.result.rows c.args.items.now ∙ sym run)) c.append.ensures

pub returns-then-rows-eq0 : goal.returns-then-rows-eq0
returns-then-rows-eq0 g t c =
    let o = c.first_dimension-outer in
    let within = region-within o.result.dims.now o.result.starts.now o.result.counts.now o.ensures.region in
    sym (append-nil c.args.out.now.items) ∙ ap (λ l. c.args.out.now.items ++ l) (sym (sliced-none o.ensures.parts within c.args.items.now c.if-rows-eq0.true))

pub loop-row-init : goal.loop-row-init
loop-row-init g t c =
    let o = c.first_dimension-outer in
    let within = region-within o.result.dims.now o.result.starts.now o.result.counts.now o.ensures.region in
    let some : 0 < o.result.rows = omega arith in
    read-first o.ensures.parts within c.args.out.now.items c.args.items.now _ _ (row-width o.ensures.parts (length c.args.items.now) c.requires.full some) (omega arith)

pub overflow_add-at-in-loop-row : goal.overflow_add-at-in-loop-row
overflow_add-at-in-loop-row g t c =
    let o = c.first_dimension-outer in
    let some : 0 < o.result.rows = omega arith in
    let wide = row-width o.ensures.parts (length c.args.items.now) c.requires.full some in
    let fits = row-fits o.ensures.parts (length c.args.items.now) (length c.args.items.now / o.result.depth) c.loop-row.row c.requires.full wide c.loop-row-test.true in
    search rules

pub slice_bounds-read_region-end : goal.slice_bounds-read_region-end
slice_bounds-read_region-end g t c =
    let o = c.first_dimension-outer in
    let some : 0 < o.result.rows = omega arith in
    let wide = row-width o.ensures.parts (length c.args.items.now) c.requires.full some in
    let fits = row-fits o.ensures.parts (length c.args.items.now) (length c.args.items.now / o.result.depth) c.loop-row.row c.requires.full wide c.loop-row-test.true in
    search rules

pub loop-row-preserved : goal.loop-row-preserved
loop-row-preserved g t c =
    let o = c.first_dimension-outer in
    let xs = c.args.items.now in
    let w = length xs / o.result.depth in
    let f = sliced (sizes o.result.dims.now) (sizes o.result.starts.now) (sizes o.result.counts.now) in
    let row = c.in_ok-read_region.ensures ∙ ap (λ l. c.loop-row.out.items ++ f l) (part-of ((o.result.first + c.loop-row.row) * w) w xs) in
    read-next f w o.result.rows c.loop-row.row o.result.first c.loop-row.out.items c.read_region.new.out.items xs _ c.loop-row-test.true c.loop-row.invariant row
