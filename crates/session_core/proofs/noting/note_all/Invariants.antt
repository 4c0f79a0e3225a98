-- What was found so far, and what is found under the keys that are left, is what is found under all; so is what is noted.
use Rattle.std.proofs.Common.{◌≡◌, ◌++◌}
use Rattle.std.specs.Vec.Iter.{into_iter_items}
use Rattle.session_core.specs.Noting.{found_noted, note_all}
use Rattle.session_core.proofs.noting.note_all.Given as goal

abbrev pub invariant-loop-key : goal.invariant-loop-key
invariant-loop-key l = record {
  found : l.noted.items ++ found_noted l.mark l.stage (into_iter_items l.key-iterator) l.left.items ≡ found_noted l.mark l.fn.stage l.fn.keys l.fn.found;
  stage : note_all l.mark l.stage (into_iter_items l.key-iterator) ≡ note_all l.mark l.fn.stage l.fn.keys;
}
