use Rattle.std.proofs.Common.{◌≡◌, sym, ap, ◌∙◌, Some, None, w64, to_z, of_z}
use Rattle.std.proofs.lemmas.Int.{to_z-of_z}
use Rattle.std.specs.Option.{option_copied}
use Rattle.channel_store.specs.Marks.{marked}
use Rattle.channel_store.specs.Store.{changes_at}
use Rattle.channel_store.specs.Sweeps.{row_at}
use Rattle.channel_store.proofs.MarkLemmas.{marked-absent, marked-there}
use Rattle.channel_store.proofs.store.ChannelStore.mark_changes.Goals as goal

pub returns-in_default : goal.returns-in_default
returns-in_default c =
    let a = c.args in
    let rows = c.self.inside.tracks.items in
    let channel : to_z w64 (of_z w64 a.channel) ≡ a.channel = to_z-of_z w64 a.channel c.ranges.channel in
    let there : c.as_slice.result.now ≡ rows = c.as_slice.ensures.value in
    let row : row_at rows a.channel ≡ None = (λ j. row_at (sym there j) (sym channel j)) ∙ sym c.track_at.ensures ∙ ap option_copied c.in_default.is in
    marked-absent rows a.channel a.from a.first a.marks.now row
    ∙ ap (λ cs. marked a.from a.first (changes_at cs a.channel) a.marks.now) c.self.view_is

pub returns : goal.returns
returns c =
    let a = c.args in
    let rows = c.self.inside.tracks.items in
    let r = c.in-Some.track.now in
    let channel : to_z w64 (of_z w64 a.channel) ≡ a.channel = to_z-of_z w64 a.channel c.ranges.channel in
    let there : c.as_slice.result.now ≡ rows = c.as_slice.ensures.value in
    let row : row_at rows a.channel ≡ Some r = (λ j. row_at (sym there j) (sym channel j)) ∙ sym c.track_at.ensures ∙ ap option_copied c.in-Some.is in
    marked-there rows a.channel a.from a.first a.marks.now c.mark_changes.new.marks r row c.mark_changes.ensures
    ∙ ap (λ cs. marked a.from a.first (changes_at cs a.channel) a.marks.now) c.self.view_is
