use Rattle.std.proofs.Common.{◌≡◌, length, sym, ◌∙◌, arith}
use Rattle.std.proofs.lemmas.Bool.Decides.{nat_tests}
use Rattle.std.proofs.lemmas.List.{nil_from_length}
use Rattle.array_store.specs.Shape.{sizes}
use Rattle.array_store.proofs.RegionLemmas.{sliced-empty, patched-empty}
use Rattle.array_store.proofs.StepLemmas.{region-within}
use Rattle.array_store.proofs.window.swap_items.Goals as goal

pub returns-then-is_empty-clause-items : goal.returns-then-is_empty-clause-items
returns-then-is_empty-clause-items g c =
    let none : length c.args.values.now.items ≡ 0 = grind (arith, nat_tests) in
    sym (patched-empty (sizes c.args.dims.now) (sizes c.args.starts.now) (sizes c.args.counts.now) c.args.items.now.items c.args.values.now.items none)

pub returns-then-is_empty-clause-values : goal.returns-then-is_empty-clause-values
returns-then-is_empty-clause-values g c =
    let none : length c.args.values.now.items ≡ 0 = grind (arith, nat_tests) in
    let within = region-within c.args.dims.now c.args.starts.now c.args.counts.now c.requires.region in
    nil_from_length c.args.values.now.items none
    ∙ sym (sliced-empty (sizes c.args.dims.now) (sizes c.args.starts.now) (sizes c.args.counts.now) c.args.items.now.items within c.requires.full (sym c.requires.all ∙ none))
