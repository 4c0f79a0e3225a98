use Rattle.std.proofs.Common.{◌≡◌, ◌≤◌, false, length}
use Rattle.client_forms.specs.Sending.{Sending}
use Rattle.client_forms.proofs.talk.send_all.Given as goal

-- what was sent so far, and what is left
abbrev pub invariant-loop-message : goal.invariant-loop-message
invariant-loop-message g l = record {
  sending : Sending l.fn.client l.client (g.L.Link.talk l.fn.link) (g.L.Link.talk l.link);
  usable : g.L.Link.closed l.link ≡ false;
  kept : g.L.Link.faults l.fn.link ≤ g.L.Link.faults l.link;
  ended : g.L.Link.ended l.link ≡ g.L.Link.ended l.fn.link;
}

abbrev pub decreases-loop-message : goal.decreases-loop-message
decreases-loop-message g l = length l.client.out
