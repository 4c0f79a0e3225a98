use Rattle.std.proofs.Common.{◌≡◌, false}
use Rattle.test_sockets.proofs.sockets.go_through.Given as goal

abbrev pub invariant-loop-step : goal.invariant-loop-step
invariant-loop-step g l = g.L.Link.closed l.link ≡ false
