use Rattle.std.proofs.Common.{◌≡◌}
use Rattle.outside_net.proofs.link.WsLink.say_goodbye.Given as goal

-- the reads for the goodbye count no fault and no end
abbrev pub invariant-loop : goal.invariant-loop
invariant-loop g l = (l.self.faults ≡ l.fn.self.faults) × (l.self.ended ≡ l.fn.self.ended) × (l.self.closed ≡ l.fn.self.closed)
