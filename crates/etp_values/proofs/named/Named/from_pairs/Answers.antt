use Rattle.std.proofs.Common.{rules}
use Rattle.std.specs.Ordering.{nat_cmp, is_lt}
use Rattle.std.specs.Cmp.Lexicographic.{slice_cmp, nat_list_cmp_total}
use Rattle.std.specs.Map.{keys_of}
use Rattle.std.specs.List.Sorted.{IsSortedBy}
use Rattle.std.proofs.lemmas.List.MinMax.{ranks_by}
use Rattle.std.proofs.lemmas.Fn.{always_returns_same}
use Rattle.etp_values.specs.Named.{StandsStill}
use Rattle.etp_values.proofs.RepeatLemmas.{repeats}
use Rattle.etp_values.proofs.named.Named.from_pairs.Goals as goal

pub returns-else-rises : goal.returns-else-rises
returns-else-rises g c =
    let sorted : IsSortedBy (λ x y. is_lt (slice_cmp nat_cmp x.0 y.0)) c.sort_by.new.self.items =
    c.in_ok-sort_by.ensures.sorted (λ x y. is_lt (slice_cmp nat_cmp x.0 y.0)) (ranks_by nat_list_cmp_total (λ e. e.0)) (always_returns_same _ _ _ (λ a r f k. search rules)) in
    let still : StandsStill (keys_of c.sort_by.new.self.items) = search rules in
    repeats _ _ c.in_ok-sort_by.ensures.permutation sorted still
