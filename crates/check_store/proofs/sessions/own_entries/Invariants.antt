use Rattle.std.proofs.Common.{◌≡◌, ◌≤◌, ◌+◌, drop, length}
use Rattle.store_machine.specs.Legal.{own}
use Rattle.check_store.proofs.sessions.own_entries.Given as goal

-- what was counted, and what is left
abbrev pub invariant-loop-place : goal.invariant-loop-place
invariant-loop-place l = record {
  ends : l.place-end ≡ length l.store.journal;
  small : l.count ≤ l.place;
  rest : l.count + length (own l.by (drop l.place l.store.journal)) ≡ length (own l.by l.store.journal);
}
