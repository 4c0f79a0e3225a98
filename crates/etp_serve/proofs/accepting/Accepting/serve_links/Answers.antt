use Rattle.std.proofs.Common.{ℕ, ◌+◌, Some, refl, ap, ◌∙◌, inl, inr, arith}
use Rattle.etp_outside.proofs.FaultLemmas.{rose_later}
use Rattle.etp_serve.proofs.AcceptLemmas.{left_most, left_next, left_over, left_start}
use Rattle.etp_serve.proofs.accepting.Accepting.serve_links.Goals as goal

pub loop-init : goal.loop-init
loop-init g c = record {
  own = c.requires.holds.0;
  number = refl;
  all = c.requires.holds.1;
  way = c.requires.way;
  few = c.requires.few;
  room = c.requires.room;
  left = left_start c.args.most (g.A.Listener.given c.args.door.now);
  at = refl;
  kept = omega arith;
}

pub returns-in_default-clause-most : goal.returns-in_default-clause-most
returns-in_default-clause-most g c = (left_over c.args.most c.loop.left (g.A.Listener.given c.args.door.now) (g.A.Listener.given c.loop.door) c.loop.invariant.left c.in_default.ensures.none).1

pub returns-in_default-clause-stop : goal.returns-in_default-clause-stop
returns-in_default-clause-stop g c = λ is. inr (left_over c.args.most c.loop.left (g.A.Listener.given c.args.door.now) (g.A.Listener.given c.loop.door) c.loop.invariant.left c.in_default.ensures.none).0

pub returns-in_default-clause-stops : goal.returns-in_default-clause-stops
returns-in_default-clause-stops g c = c.loop.invariant.way

pub returns-in_default-clause-holds : goal.returns-in_default-clause-holds
returns-in_default-clause-holds g c = (c.loop.invariant.own, c.loop.invariant.all)

pub returns-in_default-clause-number : goal.returns-in_default-clause-number
returns-in_default-clause-number g c = c.loop.invariant.number

pub returns-in_default-clause-at : goal.returns-in_default-clause-at
returns-in_default-clause-at g c = c.loop.invariant.at

pub returns-in_default-clause-kept : goal.returns-in_default-clause-kept
returns-in_default-clause-kept g c = c.loop.invariant.kept

pub make_room-requires-clause-holds : goal.make_room-requires-clause-holds
make_room-requires-clause-holds g c = λ κs w. (c.loop.invariant.own, c.loop.invariant.all)

pub make_room-requires-clause-way : goal.make_room-requires-clause-way
make_room-requires-clause-way g c = λ κs w. c.loop.invariant.way

pub make_room-requires-clause-few : goal.make_room-requires-clause-few
make_room-requires-clause-few g c = λ κs w. c.loop.invariant.few

pub welcome-requires-clause-room : goal.welcome-requires-clause-room
welcome-requires-clause-room g c = λ κs w. omega (arith, c.make_room.ensures.room, c.make_room.ensures.keeps.2, c.loop.invariant.room)

pub returns-in-Some-welcome-clause-number : goal.returns-in-Some-welcome-clause-number
returns-in-Some-welcome-clause-number g c = c.welcome.ensures.number ∙ (c.make_room.ensures.keeps.0 ∙ c.loop.invariant.number)

pub returns-in-Some-welcome-clause-most : goal.returns-in-Some-welcome-clause-most
returns-in-Some-welcome-clause-most g c =
    left_most c.args.most c.loop.left c.in-Some-one_less.after (g.A.Listener.given c.args.door.now) (g.A.Listener.given c.loop.door) (g.A.Listener.given c.welcome.new.door) c.loop.invariant.left c.in-Some-one_less.ensures.some
    (omega (arith, c.make_room.ensures.keeps.3, c.welcome.ensures.given))

pub returns-in-Some-welcome-clause-stop : goal.returns-in-Some-welcome-clause-stop
returns-in-Some-welcome-clause-stop g c = λ is. inl (c.in-Some-welcome.ensures.stopped (ap Some is))

pub returns-in-Some-welcome-clause-at : goal.returns-in-Some-welcome-clause-at
returns-in-Some-welcome-clause-at g c = c.welcome.ensures.at ∙ (c.make_room.ensures.keeps.6 ∙ c.loop.invariant.at)

pub returns-in-Some-welcome-clause-kept : goal.returns-in-Some-welcome-clause-kept
returns-in-Some-welcome-clause-kept g c = omega (arith, c.loop.invariant.kept, c.make_room.ensures.keeps.5, c.welcome.ensures.kept)

pub returns-in-Some-welcome-clause-cause : goal.returns-in-Some-welcome-clause-cause
returns-in-Some-welcome-clause-cause g c = λ is.
    rose_later (g.A.Listener.faults c.args.door.now) (g.A.Listener.faults c.make_room.new.door) (g.A.Listener.faults c.welcome.new.door) (omega (arith, c.loop.invariant.kept, c.make_room.ensures.keeps.5)) (c.in-Some-welcome.ensures.cause (ap Some is))

pub loop-preserved : goal.loop-preserved
loop-preserved g c = record {
  own = c.welcome.ensures.holds.0;
  number = c.welcome.ensures.number ∙ (c.make_room.ensures.keeps.0 ∙ c.loop.invariant.number);
  all = c.welcome.ensures.holds.1;
  way = c.in_default-welcome.ensures.goes;
  few = omega (arith, c.make_room.ensures.room, c.welcome.ensures.more);
  room = omega (arith, c.make_room.ensures.keeps.2, c.welcome.ensures.capacity, c.loop.invariant.room);
  left = left_next c.args.most c.loop.left c.in-Some-one_less.after (g.A.Listener.given c.args.door.now) (g.A.Listener.given c.loop.door) (g.A.Listener.given c.welcome.new.door) c.loop.invariant.left c.in-Some-one_less.ensures.some
      (c.in_default-welcome.ensures.one ∙ ap (λ (k : ℕ). k + 1) c.make_room.ensures.keeps.3);
  at = c.welcome.ensures.at ∙ (c.make_room.ensures.keeps.6 ∙ c.loop.invariant.at);
  kept = omega (arith, c.loop.invariant.kept, c.make_room.ensures.keeps.5, c.welcome.ensures.kept);
}
