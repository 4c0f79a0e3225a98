use Rattle.std.proofs.Common.{◌≡◌, ap, ◌∙◌, arith, true, false, Some, w64, to_z, of_z}
use Rattle.std.proofs.lemmas.Int.{to_z-of_z, ints}
use Rattle.std.proofs.Math.IntN.{nat_abs}
use Rattle.std.specs.Prelude.{int_lt, pos}
use Rattle.channel_rows.proofs.FlagLemmas.{its_place, no_place}
use Rattle.channel_rows.proofs.ids.place_of.Goals as goal

pub returns-then-channel-lt0 : goal.returns-then-channel-lt0
returns-then-channel-lt0 c =
    let low : int_lt c.args.channel (pos 0) ≡ true = grind (arith, ints) in
    no_place c.args.channel low

pub returns : goal.returns
returns c =
    let same : to_z w64 (of_z w64 c.args.channel) ≡ c.args.channel = to_z-of_z w64 c.args.channel c.ranges.channel in
    let there : int_lt c.args.channel (pos 0) ≡ false = grind (arith, ints) in
    ap (λ z. Some (nat_abs z)) same ∙ its_place c.args.channel there
