use Rattle.std.proofs.Common.{◌≡◌}
use Rattle.std.specs.Io.KnownBytes.{Keeps}
use Rattle.etp_outside.proofs.adapters.StdSinkSink.write.Given as goal

-- a call that a signal interrupted took nothing
abbrev pub invariant-loop : goal.invariant-loop
invariant-loop g l = record {
  held : Keeps (g.W.Write.contents l.fn.self.writer) (g.W.Write.contents l.self.writer);
  faults : l.self.faults ≡ l.fn.self.faults;
}
