use Rattle.std.proofs.Common.{◌≡◌, ◌+◌, ◌≤◌, drop}
use Rattle.store_machine.specs.Telling.{below}
use Rattle.store_machine.proofs.news.below.Given as goal

abbrev pub invariant-loop-each : goal.invariant-loop-each
invariant-loop-each l = record {
  count : l.count + below (drop l.each-index l.followed) l.sub ≡ below l.followed l.sub;
  within : l.count ≤ l.each-index;
}
