use Rattle.std.proofs.Common.{◌≡◌, sym, subst, ◌∙◌, length, Some, None, w64, to_z, of_z}
use Rattle.std.proofs.lemmas.Int.{to_z-of_z}
use Rattle.channel_store.specs.Sweeps.{place_in}
use Rattle.channel_store.proofs.RowLemmas.{place-some, row-absent, row-there}
use Rattle.channel_store.proofs.checks.track_at.Goals as goal

pub returns-in_default : goal.returns-in_default
returns-in_default c =
    let same : to_z w64 (of_z w64 c.args.channel) ≡ c.args.channel = to_z-of_z w64 c.args.channel c.ranges.channel in
    let none : place_in (length c.args.tracks.now) (to_z w64 (of_z w64 c.args.channel)) ≡ None = sym c.place_of.ensures ∙ c.in_default.is in
    sym (row-absent c.args.tracks.now c.args.channel (subst (λ z. place_in (length c.args.tracks.now) z ≡ None) same none))

pub bounds-tracks-place : goal.bounds-tracks-place
bounds-tracks-place c = (place-some (length c.args.tracks.now) (to_z w64 (of_z w64 c.args.channel)) c.in-Some.place (sym c.place_of.ensures ∙ c.in-Some.is)).1

pub returns : goal.returns
returns c =
    let same : to_z w64 (of_z w64 c.args.channel) ≡ c.args.channel = to_z-of_z w64 c.args.channel c.ranges.channel in
    let some : place_in (length c.args.tracks.now) (to_z w64 (of_z w64 c.args.channel)) ≡ Some c.in-Some.place = sym c.place_of.ensures ∙ c.in-Some.is in
    sym (row-there c.args.tracks.now c.args.channel c.in-Some.place c.index-tracks-place.result (subst (λ z. place_in (length c.args.tracks.now) z ≡ Some c.in-Some.place) same some) c.index-tracks-place.is)
