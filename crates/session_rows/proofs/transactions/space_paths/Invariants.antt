-- The paths so far, and what comes of the texts that are left, make what comes of all.
use Rattle.std.proofs.Common.{◌≡◌}
use Rattle.std.specs.Vec.Iter.{into_iter_items}
use Rattle.session_rows.specs.Transactions.{space_paths}
use Rattle.session_rows.proofs.PathLemmas.{paths_behind}
use Rattle.session_rows.proofs.transactions.space_paths.Given as goal

abbrev pub invariant-loop-text : goal.invariant-loop-text
invariant-loop-text l = paths_behind l.paths.items (space_paths (into_iter_items l.text-iterator)) ≡ space_paths l.fn.texts
