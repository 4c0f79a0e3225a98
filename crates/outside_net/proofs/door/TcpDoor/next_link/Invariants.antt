use Rattle.std.proofs.Common.{◌≡◌}
use Rattle.outside_net.proofs.door.TcpDoor.next_link.Given as goal

-- a connection that is not a link counts no fault and no link
abbrev pub invariant-loop : goal.invariant-loop
invariant-loop g l = (l.self.faults ≡ l.fn.self.faults) × (l.self.given ≡ l.fn.self.given) × (l.self.stopped ≡ l.fn.self.stopped)
