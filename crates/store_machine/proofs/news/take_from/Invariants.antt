use Rattle.std.proofs.Common.{◌≡◌, ◌-◌, ◌≤◌}
use Rattle.channel_store.specs.Told.{change_bytes}
use Rattle.etp_values.specs.Weight.{capped, weigh}
use Rattle.store_machine.specs.Telling.{TakesOn, dues_at}
use Rattle.store_machine.specs.Watching.{Looks}
use Rattle.store_machine.proofs.news.take_from.Given as goal

abbrev pub invariant-loop-from : goal.invariant-loop-from
invariant-loop-from l = record {
  takes : TakesOn (dues_at l.channels l.followed l.place (l.mark - l.place)) l.place l.from l.taken.changes.items (dues_at l.channels l.followed l.from (l.mark - l.from));
  begun : l.window.first ≤ l.from;
  looks : Looks l.channels l.followed l.window;
  within : l.from ≤ l.mark;
  bytes : l.taken.bytes ≡ capped (weigh change_bytes l.taken.changes.items);
}

abbrev pub decreases-loop-from : goal.decreases-loop-from
decreases-loop-from l = l.mark - l.from
