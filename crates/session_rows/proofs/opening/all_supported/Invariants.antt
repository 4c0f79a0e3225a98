use Rattle.std.proofs.Common.{◌≡◌, ◌++◌, drop, map}
use Rattle.session_rows.specs.Opening.{supported}
use Rattle.session_rows.proofs.opening.all_supported.Given as goal

abbrev pub invariant-loop-protocol : goal.invariant-loop-protocol
invariant-loop-protocol l = l.all.items ++ map supported (drop l.protocol-index l.protocols) ≡ map supported l.protocols
