use Rattle.std.proofs.Common.{◌≡◌, false}
use Rattle.check_dialer.proofs.client.item.Given as goal

abbrev pub invariant-loop : goal.invariant-loop
invariant-loop g l = g.L.Link.closed l.link ≡ false
