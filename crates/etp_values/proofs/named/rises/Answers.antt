use Rattle.std.proofs.Common.{rules, arith, ◌≡◌, true, false}
use Rattle.std.specs.Ordering.{nat_cmp, is_lt}
use Rattle.std.specs.Cmp.Lexicographic.{slice_cmp}
use Rattle.etp_values.proofs.RisingLemmas.{rises_more, still_at, sorted_from_rising}
use Rattle.std.proofs.lemmas.List.{length-map}
use Rattle.etp_values.proofs.named.rises.Goals as goal

pub loop-i-preserved : goal.loop-i-preserved
loop-i-preserved g c =
    let less : is_lt (slice_cmp nat_cmp c.index-items-i.result.0 c.index-items-i-in-loop-i.result.0) ≡ true = search rules in
    record { low = omega arith; rising = rises_more _ _ _ _ c.loop-i.invariant.rising c.loop-i.invariant.low c.loop-i-test.true c.index-items-i.is c.index-items-i-in-loop-i.is less }

pub returns-then-not-is_below : goal.returns-then-not-is_below
returns-then-not-is_below g c =
    let still : is_lt (slice_cmp nat_cmp c.index-items-i.result.0 c.index-items-i-in-loop-i.result.0) ≡ false = search rules in
    record { cases = still_at _ _ _ _ c.loop-i.invariant.low c.loop-i-test.true c.index-items-i.is c.index-items-i-in-loop-i.is still }

pub returns : goal.returns
returns g c = record { cases = sorted_from_rising _ _ c.loop-i.invariant.rising (simp length-map c.loop-i-test.false) }
