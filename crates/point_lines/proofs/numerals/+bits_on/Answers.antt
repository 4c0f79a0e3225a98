use Rattle.std.proofs.Common.{◌≡◌, ◌≤◌, ◌+◌, ◌-◌, ◌*◌, ◌^◌, length, take, drop, le_refl, arith, rules}
use Rattle.point_lines.proofs.BitLemmas.{bits_room, bits_step, tail_length, some_below}
use Rattle.point_lines.proofs.numerals.+bits_on.Goals as goal

pub overflow_mul-bits : goal.overflow_mul-bits
overflow_mul-bits t c =
    let d = c.args.digits.now in
    let room : c.args.bits * 16 + 16 ≤ 2 ^ 64 = bits_room c.args.bits (length d) (length (take (length d - 1) (drop 1 d))) (tail_length d c.in-len1-up.len_at_least) c.requires in
    omega (arith, room)

pub overflow_add-bits : goal.overflow_add-bits
overflow_add-bits t c =
    let d = c.args.digits.now in
    let room : c.args.bits * 16 + 16 ≤ 2 ^ 64 = bits_room c.args.bits (length d) (length (take (length d - 1) (drop 1 d))) (tail_length d c.in-len1-up.len_at_least) c.requires in
    omega (arith, room, c.capital_value.ensures.small)

pub bits_on-requires : goal.bits_on-requires
bits_on-requires t c =
    let d = c.args.digits.now in
    let k = length (take (length d - 1) (drop 1 d)) in
    let one : length d ≡ length (take (length d - 1) (drop 1 d)) + 1 = tail_length d c.in-len1-up.len_at_least in
    (first_of (search rules, omega (arith, one), grind (arith, one)), bits_step c.args.bits c.capital_value.result (length d) k (2 ^ 64) c.capital_value.ensures.small one c.requires)

pub returns-else-not-is_capital_digit-clause-within : goal.returns-else-not-is_capital_digit-clause-within
returns-else-not-is_capital_digit-clause-within t c =
    let d = c.args.digits.now in
    let k = length (take (length d - 1) (drop 1 d)) in
    let one : length d ≡ length (take (length d - 1) (drop 1 d)) + 1 = tail_length d c.in-len1-up.len_at_least in
    let most = (c.args.bits + 1) * 16 ^ length d in
    some_below c.bits_on.result ((c.args.bits * 16 + c.capital_value.result + 1) * 16 ^ k) most (bits_step c.args.bits c.capital_value.result (length d) k most c.capital_value.ensures.small one (le_refl most)) c.bits_on.ensures.within
