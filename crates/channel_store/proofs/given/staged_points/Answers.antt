use Rattle.std.proofs.Common.{◌≡◌, sym, ap, subst, ◌∙◌, Some, None, w64, to_z, of_z}
use Rattle.std.specs.Prelude.{IfOk}
use Rattle.std.specs.Option.{option_copied}
use Rattle.std.proofs.lemmas.Int.{to_z-of_z}
use Rattle.channel_store.specs.Sweeps.{row_at, told_at}
use Rattle.channel_store.proofs.given.staged_points.Goals as goal

pub returns-in_default : goal.returns-in_default
returns-in_default c =
    let same : to_z w64 (of_z w64 c.args.channel) ≡ c.args.channel = to_z-of_z w64 c.args.channel c.ranges.channel in
    let row : row_at c.args.tracks.now c.args.channel ≡ None = (λ j. row_at c.args.tracks.now (sym same j)) ∙ sym c.track_at.ensures ∙ ap option_copied c.in_default.is in
    sym (ap told_at row)

pub returns : goal.returns
returns c =
    let same : to_z w64 (of_z w64 c.args.channel) ≡ c.args.channel = to_z-of_z w64 c.args.channel c.ranges.channel in
    let row : row_at c.args.tracks.now c.args.channel ≡ Some c.in-Some.track.now = (λ j. row_at c.args.tracks.now (sym same j)) ∙ sym c.track_at.ensures ∙ ap option_copied c.in-Some.is in
    subst (λ o. IfOk c.staged_points.result (λ r. r ≡ told_at o)) (sym row) c.staged_points.ensures
