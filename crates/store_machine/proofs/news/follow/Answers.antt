use Rattle.std.proofs.Common.{◌≡◌, ◌∙◌, ap, Some, slice_get, slice_set, rules, FitsSigned, w64}
use Rattle.std.proofs.lemmas.Int.{to_z-of_z}
use Rattle.store_machine.specs.Telling.{below, same_from}
use Rattle.store_machine.proofs.FollowingLemmas.{put_same}
use Rattle.store_machine.proofs.news.follow.Goals as goal

pub returns-in-Some : goal.returns-in-Some
returns-in-Some c =
    let fs = c.args.followed.now.items in
    let s = c.args.sub.now in
    let place = c.below-place.result in
    let fits : FitsSigned w64 s.channel = search rules in
    let at : place ≡ below fs s = c.below-place.ensures.count ∙ ap (λ l. below l s) c.as_slice.ensures.value in
    let is : Some c.in-Some.from ≡ same_from (slice_get fs place) s = c.in-Some.ensures ∙ ap (λ l. same_from (slice_get l place) s) c.as_slice-2.ensures.value in
    put_same fs _ place c.in-Some.from s at is (λ j. slice_set fs place (record { channel = to_z-of_z w64 s.channel fits j; from = c.min.ensures j }))
