-- The room of a journal shrinks as it grows.
use Rattle.std.specs.Prelude.{ℕ, ◌≡◌, false, List, [], ◌∷◌, ◌++◌, ◌+◌, ◌≤◌, ◌&&◌, nat_lt, nat_le, length}
use Rattle.std.proofs.Common.{arith}
use Rattle.std.proofs.lemmas.Grind.{common_steps}
use Rattle.server_config.specs.declared.config.Config.{Config}
use Rattle.store_machine.specs.declared.journal.Act.TheVariants.{Enter}
use Rattle.store_machine.specs.declared.journal.Entry.{Entry}
use Rattle.store_machine.specs.Counted.{counted, counted_act}
use Rattle.store_machine.specs.Answers.{has_room_for}

counted-append : (history later : List Entry) → counted (history ++ later) ≡ counted history + counted later
counted-append [] later = omega arith
counted-append (e ∷ es) later = let rest = counted-append es later in omega (arith, rest)

-- if both sides grow, what is too much stays so
still_none : (n n' limit b b' most : ℕ) → n ≤ n' → b ≤ b' → (nat_lt n limit && nat_le b most) ≡ false → (nat_lt n' limit && nat_le b' most) ≡ false
still_none n n' limit b b' most longer more none = grind (arith, longer, more, none)

pub full-stays : (config : Config) (history later : List Entry)
    → has_room_for config history Enter ≡ false → has_room_for config (history ++ later) Enter ≡ false
full-stays config history later none =
    let longer : length history ≤ length (history ++ later) = grind (arith, common_steps) in
    let sum = counted-append history later in
    let more : counted history + counted_act Enter ≤ counted (history ++ later) + counted_act Enter = omega (arith, sum) in
    still_none (length history) (length (history ++ later)) config.journal (counted history + counted_act Enter) (counted (history ++ later) + counted_act Enter) 536870912 longer more none
