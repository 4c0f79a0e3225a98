use Rattle.std.proofs.Common.{◌≡◌, sym, ap, subst, ◌∙◌, arith, length, Some, None, Err, w64, to_z, of_z}
use Rattle.std.proofs.lemmas.Grind.{common_steps}
use Rattle.std.proofs.lemmas.Int.{to_z-of_z}
use Rattle.channel_store.specs.declared.error.ChannelError.TheVariants.{NoChannel}
use Rattle.channel_store.specs.Rows.{Becomes}
use Rattle.channel_store.specs.Sweeps.{place_in, opened}
use Rattle.channel_store.proofs.RowLemmas.{place-some, step-absent, becomes-there, shown-there}
use Rattle.channel_store.proofs.rows.open_channel.Goals as goal

pub returns-in_default-clause-answer : goal.returns-in_default-clause-answer
returns-in_default-clause-answer c =
    let rows = c.args.tracks.now.items in
    let same : to_z w64 (of_z w64 c.args.channel) ≡ c.args.channel = to_z-of_z w64 c.args.channel c.ranges.channel in
    let size : c.len.result ≡ length rows = grind (arith, common_steps) in
    let none : place_in (length rows) c.args.channel ≡ None = (λ j. place_in (sym size j) (sym same j)) ∙ sym c.place_of.ensures ∙ c.in_default.is in
    λ m. step-absent rows c.args.channel (opened c.args.channel c.args.way) none ∙ ap (λ i. Err (NoChannel i)) (sym same)

pub index_mut-requires : goal.index_mut-requires
index_mut-requires c =
    let within = (place-some c.len.result (to_z w64 (of_z w64 c.args.channel)) c.in-Some.place (sym c.place_of.ensures ∙ c.in-Some.is)).1 in
    omega (arith, within)

pub returns-clause-answer : goal.returns-clause-answer
returns-clause-answer c =
    let rows = c.args.tracks.now.items in
    let same : to_z w64 (of_z w64 c.args.channel) ≡ c.args.channel = to_z-of_z w64 c.args.channel c.ranges.channel in
    let size : c.len.result ≡ length rows = grind (arith, common_steps) in
    let some : place_in (length rows) c.args.channel ≡ Some c.in-Some.place = (λ j. place_in (sym size j) (sym same j)) ∙ sym c.place_of.ensures ∙ c.in-Some.is in
    becomes-there c.open.result rows c.args.channel c.in-Some.place (opened c.args.channel c.args.way) c.index_mut.result.now c.open.new.track some c.index_mut.ensures.value
    (subst (λ i. Becomes c.open.result c.open.new.track (opened i c.args.way c.index_mut.result.now)) same c.open.ensures.answer)

pub returns-clause-kept : goal.returns-clause-kept
returns-clause-kept c =
    let rows = c.args.tracks.now.items in
    let same : to_z w64 (of_z w64 c.args.channel) ≡ c.args.channel = to_z-of_z w64 c.args.channel c.ranges.channel in
    let size : c.len.result ≡ length rows = grind (arith, common_steps) in
    let some : place_in (length rows) c.args.channel ≡ Some c.in-Some.place = (λ j. place_in (sym size j) (sym same j)) ∙ sym c.place_of.ensures ∙ c.in-Some.is in
    shown-there rows c.args.channel c.in-Some.place c.index_mut.result.now c.open.new.track some c.index_mut.ensures.value c.open.ensures.kept
