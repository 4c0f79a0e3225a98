use Rattle.std.proofs.Common.{◌≡◌, ◌*◌, ◌++◌, List, ℕ, drop}
use Rattle.std.specs.Option.{option_map}
use Rattle.point_lines.specs.Numerals.{bytes_in}
use Rattle.point_lines.proofs.numerals.bytes_in.Given as goal

-- what was read, and what the rest denotes
abbrev pub invariant-loop-i : goal.invariant-loop-i
invariant-loop-i l = option_map (λ (bs : List ℕ). l.bytes.items ++ bs) (bytes_in (drop (2 * l.i) l.text)) ≡ bytes_in l.text
