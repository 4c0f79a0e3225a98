use Rattle.std.proofs.Common.{◌≡◌, sym, ap, subst, ◌∙◌, arith, length, Some, None, Err, w64, to_z, of_z}
use Rattle.std.proofs.lemmas.Grind.{common_steps}
use Rattle.std.proofs.lemmas.Int.{to_z-of_z}
use Rattle.channel_store.specs.declared.error.ChannelError.TheVariants.{NoChannel, Index}
use Rattle.channel_store.specs.Rows.{Becomes}
use Rattle.channel_store.specs.Sweeps.{place_in, opened}
use Rattle.std.proofs.Common.{cond, true, false}
use Rattle.channel_store.specs.declared.draft.Way.TheVariants.{UpTo}
use Rattle.channel_store.specs.Refusals.{in_range}
use Rattle.channel_store.proofs.RowLemmas.{step-fails-some}
use Rattle.channel_store.proofs.RowLemmas.{place-some, step-absent, becomes-there, shown-there}
use Rattle.channel_store.proofs.rows.open_cut.Goals as goal

pub returns-in_default-clause-answer : goal.returns-in_default-clause-answer
returns-in_default-clause-answer c =
    let rows = c.args.tracks.now.items in
    let same : to_z w64 (of_z w64 c.args.channel) ≡ c.args.channel = to_z-of_z w64 c.args.channel c.ranges.channel in
    let size : c.len.result ≡ length rows = grind (arith, common_steps) in
    let none : place_in (length rows) c.args.channel ≡ None = (λ j. place_in (sym size j) (sym same j)) ∙ sym c.place_of.ensures ∙ c.in_default.is in
    λ m. step-absent rows c.args.channel (λ r. cond (in_range c.args.end) (opened c.args.channel (UpTo c.args.end) r) (Err (Index c.args.channel))) none ∙ ap (λ i. Err (NoChannel i)) (sym same)

pub index_mut-requires : goal.index_mut-requires
index_mut-requires c =
    let within = (place-some c.len.result (to_z w64 (of_z w64 c.args.channel)) c.in-Some.place (sym c.place_of.ensures ∙ c.in-Some.is)).1 in
    omega (arith, within)

pub returns-clause-answer : goal.returns-clause-answer
returns-clause-answer c =
    let rows = c.args.tracks.now.items in
    let same : to_z w64 (of_z w64 c.args.channel) ≡ c.args.channel = to_z-of_z w64 c.args.channel c.ranges.channel in
    let size : c.len.result ≡ length rows = grind (arith, common_steps) in
    let some : place_in (length rows) c.args.channel ≡ Some c.in-Some.place = (λ j. place_in (sym size j) (sym same j)) ∙ sym c.place_of.ensures ∙ c.in-Some.is in
    becomes-there c.open.result rows c.args.channel c.in-Some.place (λ r. cond (in_range c.args.end) (opened c.args.channel (UpTo c.args.end) r) (Err (Index c.args.channel))) c.index_mut.result.now c.open.new.track some c.index_mut.ensures.value
    (let last : to_z w64 (of_z w64 c.args.end) ≡ c.args.end = to_z-of_z w64 c.args.end c.ranges.end in
    let ranged : in_range c.args.end ≡ true = grind (arith, common_steps, to_z-of_z) in
    subst (Becomes c.open.result c.open.new.track)
    ((λ j. opened (same j) (UpTo (last j)) c.index_mut.result.now) ∙ sym (ap (λ b. cond b (opened c.args.channel (UpTo c.args.end) c.index_mut.result.now) (Err (Index c.args.channel))) ranged))
    c.open.ensures.answer)

pub returns-clause-kept : goal.returns-clause-kept
returns-clause-kept c =
    let rows = c.args.tracks.now.items in
    let same : to_z w64 (of_z w64 c.args.channel) ≡ c.args.channel = to_z-of_z w64 c.args.channel c.ranges.channel in
    let size : c.len.result ≡ length rows = grind (arith, common_steps) in
    let some : place_in (length rows) c.args.channel ≡ Some c.in-Some.place = (λ j. place_in (sym size j) (sym same j)) ∙ sym c.place_of.ensures ∙ c.in-Some.is in
    shown-there rows c.args.channel c.in-Some.place c.index_mut.result.now c.open.new.track some c.index_mut.ensures.value c.open.ensures.kept

pub returns-then-not-in_range-clause-answer : goal.returns-then-not-in_range-clause-answer
returns-then-not-in_range-clause-answer c =
    let rows = c.args.tracks.now.items in
    let same : to_z w64 (of_z w64 c.args.channel) ≡ c.args.channel = to_z-of_z w64 c.args.channel c.ranges.channel in
    let size : c.len.result ≡ length rows = grind (arith, common_steps) in
    let some : place_in (length rows) c.args.channel ≡ Some c.in-Some.place = (λ j. place_in (sym size j) (sym same j)) ∙ sym c.place_of.ensures ∙ c.in-Some.is in
    let not_ranged : in_range c.args.end ≡ false = grind (arith, common_steps, to_z-of_z) in
    λ m. step-fails-some rows c.args.channel c.in-Some.place (λ r. cond (in_range c.args.end) (opened c.args.channel (UpTo c.args.end) r) (Err (Index c.args.channel))) (Index c.args.channel) some (λ r. ap (λ b. cond b (opened c.args.channel (UpTo c.args.end) r) (Err (Index c.args.channel))) not_ranged) ∙ ap (λ i. Err (Index i)) (sym same)
