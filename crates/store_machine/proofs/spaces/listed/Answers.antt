use Rattle.std.proofs.Common.{rules, ◌∙◌}
use Rattle.std.specs.Ordering.{nat_cmp, is_lt}
use Rattle.std.specs.Cmp.Lexicographic.{slice_cmp, nat_list_cmp_total}
use Rattle.std.specs.List.Sorted.{IsSortedBy}
use Rattle.std.proofs.lemmas.List.MinMax.{ranks_by}
use Rattle.std.proofs.lemmas.Fn.{always_returns_same}
use Rattle.object_store.specs.declared.records.SpaceRecord.{SpaceRecord}
use Rattle.store_machine.specs.Dataspaces.{is_newer}
use Rattle.store_machine.proofs.SortingLemmas.{sorted-listed}
use Rattle.store_machine.proofs.spaces.listed.Goals as goal

pub returns : goal.returns
returns c =
    let order : IsSortedBy (λ (x y : SpaceRecord). is_lt (slice_cmp nat_cmp x.path y.path)) c.sort_by.new.self.items =
    c.in_ok-sort_by.ensures.sorted (λ x y. is_lt (slice_cmp nat_cmp x.path y.path)) (ranks_by nat_list_cmp_total (λ (r : SpaceRecord). r.path)) (always_returns_same _ _ _ (λ a r f k. search rules)) in
    λ sofar h. c.from_vec.ensures
    ∙ sorted-listed (is_newer c.args.newer) c.args.contents.now sofar _ c.sort_by.new.self.items h c.spaces.ensures (rw c.in_ok-found.ensures at c.in_ok-sort_by.ensures.permutation) order
