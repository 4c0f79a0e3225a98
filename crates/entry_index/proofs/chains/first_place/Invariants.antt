use Rattle.std.proofs.Common.{◌≡◌, ◌≤◌, length}
use Rattle.std.specs.Prelude.{find, nat_le}
use Rattle.std.specs.Option.{option_or}
use Rattle.entry_index.specs.Chains.{chain}
use Rattle.entry_index.specs.Steps.{chains_of}
use Rattle.entry_index.proofs.chains.first_place.Given as goal

abbrev pub invariant-loop-last : goal.invariant-loop-last
invariant-loop-last l =
    (l.last ≤ length l.steps)
    × (find (nat_le l.from) (chain (chains_of l.steps) l.number) ≡ option_or (find (nat_le l.from) (chain (chains_of l.steps) l.last)) l.found)

abbrev pub decreases-loop-last : goal.decreases-loop-last
decreases-loop-last l = l.last
