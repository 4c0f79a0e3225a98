use Rattle.std.proofs.Common.{◌≡◌, drop}
use Rattle.std.specs.List.{list_any}
use Rattle.etp_frame.specs.Joining.{is_double}
use Rattle.etp_frame.proofs.awaiting.has_double.Given as goal

abbrev pub invariant-loop-object : goal.invariant-loop-object
invariant-loop-object l = list_any is_double (drop l.object-index l.objects) ≡ list_any is_double l.objects
