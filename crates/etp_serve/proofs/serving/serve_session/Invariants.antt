use Rattle.std.proofs.Common.{◌≡◌, ◌≤◌, false}
use Rattle.store_hub.specs.Passes.{known, config_of, IsPassOf}
use Rattle.etp_serve.specs.Served.{IsBeforeTurn}
use Rattle.etp_serve.proofs.serving.serve_session.Given as goal

abbrev pub invariant-loop : goal.invariant-loop
invariant-loop g l = record {
  own : IsPassOf l.hub l.pass;
  number : l.pass.number ≡ l.fn.pass.number;
  met : (known l.pass).met ≡ (known l.fn.pass).met;
  run : IsBeforeTurn (config_of l.hub) l.fn.pass.number (g.L.Link.talk l.fn.link) (g.C.Clock.told l.fn.clock) (known l.pass) l.session (g.L.Link.talk l.link) (g.C.Clock.told l.clock);
  usable : g.L.Link.closed l.link ≡ false;
  kept : g.L.Link.faults l.fn.link ≤ g.L.Link.faults l.link;
  test : g.C.Clock.passes l.clock ≡ g.C.Clock.passes l.fn.clock;
}
