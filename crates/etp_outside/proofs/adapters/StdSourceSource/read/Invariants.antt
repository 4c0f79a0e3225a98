use Rattle.std.proofs.Common.{◌≡◌}
use Rattle.std.specs.Io.KnownBytes.{Keeps}
use Rattle.etp_outside.proofs.adapters.StdSourceSource.read.Given as goal

-- a call that a signal interrupted took nothing
abbrev pub invariant-loop : goal.invariant-loop
invariant-loop g l = record {
  left : Keeps (g.R.Read.remaining l.fn.self.reader) (g.R.Read.remaining l.self.reader);
  faults : l.self.faults ≡ l.fn.self.faults;
}
