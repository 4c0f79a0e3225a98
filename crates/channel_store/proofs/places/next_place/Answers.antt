use Rattle.std.proofs.Common.{◌≡◌, sym, ◌∙◌, ap, Some, None, option_map}
use Rattle.std.specs.Prelude.{slice_get}
use Rattle.std.specs.Option.{option_copied}
use Rattle.channel_store.specs.declared.change.ChannelChange.{ChannelChange}
use Rattle.channel_store.proofs.ChangeLemmas.{find-next}
use Rattle.channel_store.proofs.places.next_place.Goals as goal

pub returns-in_default : goal.returns-in_default
returns-in_default c =
    let xs = c.args.changes.now.items in
    let n = c.count_before-count.result in
    let none : slice_get xs n ≡ None = sym c.get.ensures ∙ ap option_copied c.in_default.is in
    sym (ap (option_map (λ (x : ChannelChange). x.place)) (find-next c.args.place xs n c.count_before-count.ensures.point ∙ none))

pub returns : goal.returns
returns c =
    let xs = c.args.changes.now.items in
    let n = c.count_before-count.result in
    let some : slice_get xs n ≡ Some c.in-Some.change.now = sym c.get.ensures ∙ ap option_copied c.in-Some.is in
    sym (ap (option_map (λ (x : ChannelChange). x.place)) (find-next c.args.place xs n c.count_before-count.ensures.point ∙ some))
