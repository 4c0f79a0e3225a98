use Rattle.std.proofs.Common.{rules, ◌≡◌, ◌<◌, ◌+◌, ◌^◌, length, ap, sym, ◌∙◌, subst, arith}
use Rattle.server_forms.specs.Counts.{CountsSoFar}
use Rattle.server_forms.proofs.CountingLemmas.{back_whole, counts_next}
use Rattle.server_forms.proofs.report.counts.Goals as goal

pub loop-place-preserved : goal.loop-place-preserved
loop-place-preserved c =
    let journal = c.args.store.now.journal in
    let k = c.loop-place.place in
    let items = c.loop-place.counts.items in
    let old = c.as_mut_slice.result.now in
    let new = c.count_one.new.counts in
    let value : old ≡ items = c.as_mut_slice.ensures.value in
    let same : length old ≡ length items = ap length value in
    let long : length items ≡ c.loop-place.counts.len = omega (arith, same, c.as_mut_slice.ensures.len) in
    let fits : length journal < 2 ^ 64 = search rules in
    let next : CountsSoFar journal (k + 1) new =
    counts_next journal k c.entry.result.now old new fits c.entry.ensures c.count_one.ensures.long c.count_one.ensures.each (subst (CountsSoFar journal k) (sym value) c.loop-place.invariant) in
    subst (CountsSoFar journal (k + 1)) (sym (back_whole c.loop-place.counts.len new items (c.count_one.ensures.long ∙ same) long)) next
