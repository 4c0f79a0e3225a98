use Rattle.std.proofs.Common.{◌≡◌, drop, fold}
use Rattle.store_machine.specs.Telling.{followed_by, followed_with}
use Rattle.store_machine.proofs.news.followed_by.Given as goal

abbrev pub invariant-loop-sub : goal.invariant-loop-sub
invariant-loop-sub l = fold followed_with l.followed.items (drop l.sub-index l.sub-items) ≡ followed_by l.subs
