use Rattle.std.proofs.Common.{◌≡◌, ◌+◌, ◌≤◌, drop}
use Rattle.etp_frame.specs.Chunking.{long_objects}
use Rattle.etp_frame.proofs.sending.long_objects.Given as goal

abbrev pub invariant-loop-object : goal.invariant-loop-object
invariant-loop-object l = record {
  rest : l.count + long_objects l.limit (drop l.object-index l.objects) ≡ long_objects l.limit l.objects;
  few : l.count ≤ l.object-index;
}
