use Rattle.std.proofs.Common.{◌≡◌, ◌++◌, drop}
use Rattle.std.specs.Io.{StartsWith}
use Rattle.std.specs.List.{flat_map}
use Rattle.watch_views.specs.Lines.{spaced}
use Rattle.watch_views.proofs.lines.put_numbers.Given as goal

abbrev pub invariant-loop-n : goal.invariant-loop-n
invariant-loop-n l = record {
  written : l.into.items ++ flat_map spaced (drop l.n-index l.numbers) ≡ l.fn.into.items ++ flat_map spaced l.numbers;
  kept : StartsWith l.into.items l.fn.into.items;
}
