use Rattle.std.proofs.Common.{◌≡◌, ◌≤◌, drop}
use Rattle.channel_store.specs.Marks.{marked}
use Rattle.channel_store.proofs.places.mark_changes.Given as goal

abbrev pub invariant-loop-number : goal.invariant-loop-number
invariant-loop-number l = record {
  marks : marked l.from l.first (drop l.number l.changes.items) l.marks ≡ marked l.from l.first l.changes.items l.fn.marks;
  behind : l.start ≤ l.number;
}
