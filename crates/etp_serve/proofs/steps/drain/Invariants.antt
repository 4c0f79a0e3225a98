use Rattle.std.proofs.Common.{◌≡◌, ◌≤◌, false, length}
use Rattle.etp_serve.proofs.DrainedLemmas.{Draining}
use Rattle.etp_serve.proofs.steps.drain.Given as goal

abbrev pub invariant-loop-message : goal.invariant-loop-message
invariant-loop-message g l = record {
  talk : Draining l.fn.session l.session (g.L.Link.talk l.fn.link) (g.L.Link.talk l.link);
  usable : g.L.Link.closed l.link ≡ false;
  kept : g.L.Link.faults l.fn.link ≤ g.L.Link.faults l.link;
  ended : g.L.Link.ended l.link ≡ g.L.Link.ended l.fn.link;
}

abbrev pub decreases-loop-message : goal.decreases-loop-message
decreases-loop-message g l = length l.session.out
