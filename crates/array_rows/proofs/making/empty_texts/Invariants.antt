use Rattle.std.proofs.Common.{◌≡◌}
use Rattle.std.specs.Prelude.{[], replicate}
use Rattle.array_rows.proofs.making.empty_texts.Given as goal

abbrev pub invariant-loop-i : goal.invariant-loop-i
invariant-loop-i l = l.texts.items ≡ replicate l._i []
