use Rattle.std.proofs.Common.{◌≡◌, ◌<◌, ◌≤◌, ap, subst, ◌∙◌, arith, Some, w64, to_z, of_z}
use Rattle.std.proofs.lemmas.Int.{to_z-of_z, ints}
use Rattle.std.specs.Prelude.{int_lt, pos}
use Rattle.std.proofs.Common.{true, false}
use Rattle.std.proofs.Math.IntN.{nat_abs}
use Rattle.channel_store.proofs.RowLemmas.{place-neg, place-below, place-past}
use Rattle.channel_store.proofs.checks.place_of.Goals as goal

pub returns-then-channel-lt0 : goal.returns-then-channel-lt0
returns-then-channel-lt0 c =
    let neg : int_lt c.args.channel (pos 0) ≡ true = grind (arith, ints) in
    place-neg c.args.len c.args.channel neg

pub returns-then-place-len : goal.returns-then-place-len
returns-then-place-len c =
    let same : to_z w64 (of_z w64 c.args.channel) ≡ c.args.channel = to_z-of_z w64 c.args.channel c.ranges.channel in
    let there : int_lt c.args.channel (pos 0) ≡ false = grind (arith, ints) in
    ap (λ z. Some (nat_abs z)) same ∙ place-below c.args.len c.args.channel there (subst (λ z. nat_abs z < c.args.len) same c.if-place-len.true)

pub returns : goal.returns
returns c =
    let same : to_z w64 (of_z w64 c.args.channel) ≡ c.args.channel = to_z-of_z w64 c.args.channel c.ranges.channel in
    let there : int_lt c.args.channel (pos 0) ≡ false = grind (arith, ints) in
    place-past c.args.len c.args.channel there (subst (λ z. c.args.len ≤ nat_abs z) same c.if-place-len.false)
