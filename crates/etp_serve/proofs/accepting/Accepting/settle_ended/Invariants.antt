use Rattle.std.proofs.Common.{◌≡◌, ◌≤◌, length}
use Rattle.std.specs.VecDeque.{deque_capacity, deque_len}
use Rattle.std.specs.List.{AllByRecursion}
use Rattle.store_hub.specs.Passes.{known, config_of, IsPassOf}
use Rattle.etp_serve.specs.Accepted.{Accepts, IsBegun}
use Rattle.etp_serve.specs.declared.served.Served.TheVariants.{Stopped}
use Rattle.etp_serve.proofs.accepting.Accepting.settle_ended.Given as goal

abbrev pub invariant-loop : goal.invariant-loop
invariant-loop g l = record {
  own : IsPassOf l.self.hub.now l.pass;
  number : l.pass.number ≡ l.fn.pass.number;
  all : AllByRecursion (λ k. IsBegun g.A.Link.Link.talk g.A.Link.Link.faults g.A.Link.Link.ended g.C.Clock.passes l.self.hub.now (g.C.Clock.passes l.self.clock.now) (length (known l.self.first.value).seen) (g.A.Listener.backs l.self.opened.value) k.handle.promise) l.children.items;
  way : Accepts Stopped (g.C.Clock.passes l.self.clock.now) (config_of l.self.hub.now) (known l.self.first.value) (known l.pass) (g.A.Listener.given l.self.opened.value) (g.A.Listener.given l.door) (length l.children.items) (g.A.Listener.backs l.self.opened.value) (g.A.Listener.backs l.door);
  fewer : deque_len l.children ≤ deque_len l.fn.children;
  capacity : deque_capacity l.children ≡ deque_capacity l.fn.children;
  given : g.A.Listener.given l.door ≡ g.A.Listener.given l.fn.door;
  stopped : g.A.Listener.stopped l.door ≡ g.A.Listener.stopped l.fn.door;
  at : g.A.Listener.at l.door ≡ g.A.Listener.at l.fn.door;
  kept : g.A.Listener.faults l.fn.door ≤ g.A.Listener.faults l.door;
}
