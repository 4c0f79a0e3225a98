use Rattle.std.proofs.Common.{◌≡◌, ◌+◌, ◌≤◌, drop}
use Rattle.etp_frame.specs.Kept.{awaiting}
use Rattle.etp_frame.proofs.awaiting.count_awaiting.Given as goal

abbrev pub invariant-loop-object : goal.invariant-loop-object
invariant-loop-object l = record {
  rest : l.count + awaiting (drop l.object-index l.objects) ≡ awaiting l.objects;
  few : l.count ≤ l.object-index;
}
