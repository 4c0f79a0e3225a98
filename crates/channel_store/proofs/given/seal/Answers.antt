use Rattle.std.proofs.Common.{◌≡◌, sym, ◌∙◌, arith, length, Some, w64, to_z, of_z}
use Rattle.std.proofs.lemmas.Grind.{common_steps}
use Rattle.std.proofs.lemmas.Int.{to_z-of_z}
use Rattle.std.proofs.lemmas.Result.{on_ok_weaker}
use Rattle.channel_store.specs.Sweeps.{place_in}
use Rattle.channel_store.proofs.GivenLemmas.{set-same}
use Rattle.channel_store.proofs.RowLemmas.{place-some, shown-there}
use Rattle.channel_store.proofs.given.seal.Goals as goal

pub index_mut-requires : goal.index_mut-requires
index_mut-requires c =
    let within = (place-some c.len.result (to_z w64 (of_z w64 c.args.channel)) c.in-Some.place (sym c.place_of.ensures ∙ c.in-Some.is)).1 in
    omega (arith, within)

pub returns-clause-ok : goal.returns-clause-ok
returns-clause-ok c =
    let rows = c.args.tracks.now.items in
    let size : c.len.result ≡ length rows = grind (arith, common_steps) in
    let within = (place-some c.len.result (to_z w64 (of_z w64 c.args.channel)) c.in-Some.place (sym c.place_of.ensures ∙ c.in-Some.is)).1 in
    on_ok_weaker c.seal.result (set-same rows c.in-Some.place c.index_mut.result.now c.seal.new.self (omega (arith, within)) c.index_mut.ensures.value) c.seal.ensures.ok

pub returns-clause-kept : goal.returns-clause-kept
returns-clause-kept c =
    let rows = c.args.tracks.now.items in
    let same : to_z w64 (of_z w64 c.args.channel) ≡ c.args.channel = to_z-of_z w64 c.args.channel c.ranges.channel in
    let size : c.len.result ≡ length rows = grind (arith, common_steps) in
    let some : place_in (length rows) c.args.channel ≡ Some c.in-Some.place = (λ j. place_in (sym size j) (sym same j)) ∙ sym c.place_of.ensures ∙ c.in-Some.is in
    shown-there rows c.args.channel c.in-Some.place c.index_mut.result.now c.seal.new.self some c.index_mut.ensures.value c.seal.ensures.kept
