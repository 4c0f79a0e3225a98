use Rattle.std.proofs.Common.{◌≡◌, ◌≤◌, length}
use Rattle.entry_index.specs.Chains.{chain}
use Rattle.entry_index.specs.Marks.{marked_places}
use Rattle.entry_index.specs.Steps.{chains_of}
use Rattle.entry_index.proofs.chains.mark_places.Given as goal

abbrev pub invariant-loop-last : goal.invariant-loop-last
invariant-loop-last l = record {
  known : l.last ≤ length l.steps;
  marks : marked_places l.from l.first (chain (chains_of l.steps) l.last) l.marks ≡ marked_places l.from l.first (chain (chains_of l.steps) l.number) l.fn.marks;
}

abbrev pub decreases-loop-last : goal.decreases-loop-last
decreases-loop-last l = l.last
