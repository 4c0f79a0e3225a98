use Rattle.std.proofs.Common.{◌≡◌, sym, ◌∙◌, ap, Some, None}
use Rattle.std.specs.Prelude.{slice_get}
use Rattle.std.specs.Option.{option_copied}
use Rattle.channel_store.proofs.ChangeLemmas.{find-point, if_at, if_at-same, if_at-other}
use Rattle.channel_store.proofs.places.change_at.Goals as goal

pub returns-in_default : goal.returns-in_default
returns-in_default c =
    let place = c.args.place in
    let xs = c.args.changes.now.items in
    let n = c.count_before-count.result in
    let none : slice_get xs n ≡ None = sym c.get.ensures ∙ ap option_copied c.in_default.is in
    sym (find-point place xs n c.requires c.count_before-count.ensures.within c.count_before-count.ensures.point ∙ ap (if_at place) none)

pub returns-then-change-place : goal.returns-then-change-place
returns-then-change-place c =
    let place = c.args.place in
    let xs = c.args.changes.now.items in
    let n = c.count_before-count.result in
    let change = c.in-Some.change.now in
    let some : slice_get xs n ≡ Some change = sym c.get.ensures ∙ ap option_copied c.in-Some.is in
    sym (find-point place xs n c.requires c.count_before-count.ensures.within c.count_before-count.ensures.point ∙ ap (if_at place) some ∙ if_at-same place change c.if-change-place.true)

pub returns : goal.returns
returns c =
    let place = c.args.place in
    let xs = c.args.changes.now.items in
    let n = c.count_before-count.result in
    let change = c.in-Some.change.now in
    let some : slice_get xs n ≡ Some change = sym c.get.ensures ∙ ap option_copied c.in-Some.is in
    sym (find-point place xs n c.requires c.count_before-count.ensures.within c.count_before-count.ensures.point ∙ ap (if_at place) some ∙ if_at-other place change c.if-change-place.false)
