use Rattle.std.proofs.Common.{◌≡◌, ◌+◌, ◌≤◌, drop}
use Rattle.etp_frame.specs.Joining.{data_size, data_limit}
use Rattle.etp_frame.proofs.awaiting.sum_data.Given as goal

abbrev pub invariant-loop-object : goal.invariant-loop-object
invariant-loop-object l = record {
  rest : l.size + data_size (drop l.object-index l.objects) ≡ data_size l.objects;
  small : l.size ≤ data_limit;
}
