use Rattle.std.proofs.Common.{◌≡◌, sym, ap, subst, ◌∙◌, arith, length, slice_set, Some, None, w64, to_z, of_z}
use Rattle.std.proofs.lemmas.Grind.{common_steps}
use Rattle.std.proofs.lemmas.Int.{to_z-of_z}
use Rattle.channel_store.specs.Rows.{done}
use Rattle.channel_store.specs.Sweeps.{place_in, modify_at, AllAppending, AllDue}
use Rattle.channel_store.proofs.RowLemmas.{place-some, modify-absent, modify-there, due-there, due-after, appending-there, appending-after}
use Rattle.channel_store.proofs.rows.commit.Goals as goal

pub returns-in_default-clause-done : goal.returns-in_default-clause-done
returns-in_default-clause-done c =
    let rows = c.args.tracks.now.items in
    let same : to_z w64 (of_z w64 c.args.channel) ≡ c.args.channel = to_z-of_z w64 c.args.channel c.ranges.channel in
    let size : c.len.result ≡ length rows = grind (arith, common_steps) in
    let none : place_in (length rows) c.args.channel ≡ None = (λ j. place_in (sym size j) (sym same j)) ∙ sym c.place_of.ensures ∙ c.in_default.is in
    sym (modify-absent rows c.args.channel (done c.args.place c.args.channel c.args.at) none)

pub index_mut-requires : goal.index_mut-requires
index_mut-requires c =
    let within = (place-some c.len.result (to_z w64 (of_z w64 c.args.channel)) c.in-Some.number (sym c.place_of.ensures ∙ c.in-Some.is)).1 in
    omega (arith, within)

pub commit-requires-clause-due : goal.commit-requires-clause-due
commit-requires-clause-due c =
    let rows = c.args.tracks.now.items in
    let same : to_z w64 (of_z w64 c.args.channel) ≡ c.args.channel = to_z-of_z w64 c.args.channel c.ranges.channel in
    let size : c.len.result ≡ length rows = grind (arith, common_steps) in
    let some : place_in (length rows) c.args.channel ≡ Some c.in-Some.number = (λ j. place_in (sym size j) (sym same j)) ∙ sym c.place_of.ensures ∙ c.in-Some.is in
    due-there c.args.place rows c.args.channel c.in-Some.number c.index_mut.result.now some c.index_mut.ensures.value c.requires.due

pub commit-requires-clause-appending : goal.commit-requires-clause-appending
commit-requires-clause-appending c =
    let rows = c.args.tracks.now.items in
    let same : to_z w64 (of_z w64 c.args.channel) ≡ c.args.channel = to_z-of_z w64 c.args.channel c.ranges.channel in
    let size : c.len.result ≡ length rows = grind (arith, common_steps) in
    let some : place_in (length rows) c.args.channel ≡ Some c.in-Some.number = (λ j. place_in (sym size j) (sym same j)) ∙ sym c.place_of.ensures ∙ c.in-Some.is in
    appending-there rows c.args.channel c.in-Some.number c.index_mut.result.now some c.index_mut.ensures.value c.requires.appending

pub returns-clause-done : goal.returns-clause-done
returns-clause-done c =
    let rows = c.args.tracks.now.items in
    let same : to_z w64 (of_z w64 c.args.channel) ≡ c.args.channel = to_z-of_z w64 c.args.channel c.ranges.channel in
    let moment : to_z w64 (of_z w64 c.args.at) ≡ c.args.at = to_z-of_z w64 c.args.at c.ranges.at in
    let size : c.len.result ≡ length rows = grind (arith, common_steps) in
    let some : place_in (length rows) c.args.channel ≡ Some c.in-Some.number = (λ j. place_in (sym size j) (sym same j)) ∙ sym c.place_of.ensures ∙ c.in-Some.is in
    ap (slice_set rows c.in-Some.number) (c.commit.ensures ∙ (λ j. done c.args.place (same j) (moment j) c.index_mut.result.now))
    ∙ modify-there rows c.args.channel c.in-Some.number (done c.args.place c.args.channel c.args.at) c.index_mut.result.now some c.index_mut.ensures.value

pub returns-clause-due : goal.returns-clause-due
returns-clause-due c =
    let rows = c.args.tracks.now.items in
    let same : to_z w64 (of_z w64 c.args.channel) ≡ c.args.channel = to_z-of_z w64 c.args.channel c.ranges.channel in
    let moment : to_z w64 (of_z w64 c.args.at) ≡ c.args.at = to_z-of_z w64 c.args.at c.ranges.at in
    let size : c.len.result ≡ length rows = grind (arith, common_steps) in
    let some : place_in (length rows) c.args.channel ≡ Some c.in-Some.number = (λ j. place_in (sym size j) (sym same j)) ∙ sym c.place_of.ensures ∙ c.in-Some.is in
    let is : slice_set rows c.in-Some.number c.commit.new.self ≡ modify_at c.args.channel (done c.args.place c.args.channel c.args.at) rows =
    ap (slice_set rows c.in-Some.number) (c.commit.ensures ∙ (λ j. done c.args.place (same j) (moment j) c.index_mut.result.now))
    ∙ modify-there rows c.args.channel c.in-Some.number (done c.args.place c.args.channel c.args.at) c.index_mut.result.now some c.index_mut.ensures.value in
    subst (AllDue c.args.place) (sym is) (due-after c.args.place c.args.at c.args.channel rows c.requires.due)

pub returns-clause-appending : goal.returns-clause-appending
returns-clause-appending c =
    let rows = c.args.tracks.now.items in
    let same : to_z w64 (of_z w64 c.args.channel) ≡ c.args.channel = to_z-of_z w64 c.args.channel c.ranges.channel in
    let moment : to_z w64 (of_z w64 c.args.at) ≡ c.args.at = to_z-of_z w64 c.args.at c.ranges.at in
    let size : c.len.result ≡ length rows = grind (arith, common_steps) in
    let some : place_in (length rows) c.args.channel ≡ Some c.in-Some.number = (λ j. place_in (sym size j) (sym same j)) ∙ sym c.place_of.ensures ∙ c.in-Some.is in
    let is : slice_set rows c.in-Some.number c.commit.new.self ≡ modify_at c.args.channel (done c.args.place c.args.channel c.args.at) rows =
    ap (slice_set rows c.in-Some.number) (c.commit.ensures ∙ (λ j. done c.args.place (same j) (moment j) c.index_mut.result.now))
    ∙ modify-there rows c.args.channel c.in-Some.number (done c.args.place c.args.channel c.args.at) c.index_mut.result.now some c.index_mut.ensures.value in
    subst AllAppending (sym is) (appending-after c.args.place c.args.at c.args.channel rows c.requires.appending)
