use Rattle.std.proofs.Common.{◌≡◌, ℕ, pos, arith, ap, sym, ◌∙◌, subst, refl}
use Rattle.server_config.specs.declared.config.Config.{Config}
use Rattle.session_core.specs.State.{State, first_state}
use Rattle.session_core.specs.Streams.{HasIds}
use Rattle.store_hub.specs.Passes.{known, config_of}
use Rattle.etp_serve.specs.Served.{Serves, IsBeforeTurn, IsWithinTurn}
use Rattle.etp_serve.specs.declared.ended.Ended.TheVariants.{NoMemory}
use Rattle.etp_outside.proofs.ToldLemmas.{told_self}
use Rattle.etp_serve.proofs.CauseLemmas.{cause_by}
use Rattle.etp_serve.proofs.RunLemmas.{each_has_one}
use Rattle.etp_serve.proofs.TurnLemmas.{run_start, run_stops}
use Rattle.etp_serve.proofs.serving.serve_session.Goals as goal

pub returns-in_default-clause-serves : goal.returns-in_default-clause-serves
returns-in_default-clause-serves g c =
    let config = config_of c.args.hub.now in
    let pass = c.args.pass.now in
    let entered = c.pass_laws.ensures.fresh pass c.requires.fresh in
    let a = g.L.Link.talk c.args.link.now in
    let told = g.C.Clock.told c.args.clock.now in
    let ids = subst HasIds c.requires.conf (each_has_one c.args.conf.now c.get.result.now c.as_slice.result.now c.get.ensures c.as_slice.ensures c.each_has_id.ensures) in
    run_stops c.laws.ensures config pass.number a told (known pass) (first_state config pass.number (pos 1)) a a told NoMemory
    (run_start c.laws.ensures config pass.number ids (known pass) entered.0 a told c.requires.fresh.0 c.requires.fresh.1 entered.1 entered.2)
    (told_self a (λ x y. y ≡ x) (λ x. refl)) (λ made said reach. tt)

pub loop-init : goal.loop-init
loop-init g c =
    let config = config_of c.args.hub.now in
    let pass = c.args.pass.now in
    let entered = c.pass_laws.ensures.fresh pass c.requires.fresh in
    let a = g.L.Link.talk c.args.link.now in
    let told = g.C.Clock.told c.args.clock.now in
    let ids = subst HasIds c.requires.conf (each_has_one c.args.conf.now c.get.result.now c.as_slice.result.now c.get.ensures c.as_slice.ensures c.each_has_id.ensures) in
    let new : c.in-Ok.session ≡ first_state config pass.number (pos 1) =
    c.in-Ok.ensures ∙ (ap (λ (k : Config). first_state k c.number.result (pos 1)) c.requires.conf ∙ ap (λ (k : ℕ). first_state config k (pos 1)) c.number.ensures) in
    record {
      own = c.requires.own;
      number = refl;
      met = refl;
      run = subst (λ (s : State). IsBeforeTurn config pass.number a told (known pass) s a told) (sym new)
          (run_start c.laws.ensures config pass.number ids (known pass) entered.0 a told c.requires.fresh.0 c.requires.fresh.1 entered.1 entered.2);
      usable = c.requires.usable;
      kept = omega arith;
      test = refl;
    }

pub returns-in-Some-receive-clause-serves : goal.returns-in-Some-receive-clause-serves
returns-in-Some-receive-clause-serves g c =
    let config = config_of c.args.hub.now in
    let n : c.loop.pass.number ≡ c.args.pass.now.number = c.loop.invariant.number in
    let a = g.L.Link.talk c.args.link.now in
    let told = g.C.Clock.told c.args.clock.now in
    subst (λ (k : ℕ). Serves c.in-Some-receive.end config k (known c.receive.new.pass) a (g.L.Link.talk c.receive.new.link) told (g.C.Clock.told c.receive.new.clock)) n
    (c.in-Some-receive.ensures.stops a told
    (subst (λ (k : ℕ). IsBeforeTurn config k a told (known c.loop.pass) c.loop.session (g.L.Link.talk c.loop.link) (g.C.Clock.told c.loop.clock)) (sym n) c.loop.invariant.run))

pub returns-in-Some-poll-clause-serves : goal.returns-in-Some-poll-clause-serves
returns-in-Some-poll-clause-serves g c =
    let config = config_of c.args.hub.now in
    let n : c.loop.pass.number ≡ c.args.pass.now.number = c.loop.invariant.number in
    let m : c.receive.new.pass.number ≡ c.loop.pass.number = c.receive.ensures.own.1 in
    let a = g.L.Link.talk c.args.link.now in
    let told = g.C.Clock.told c.args.clock.now in
    subst (λ (k : ℕ). Serves c.in-Some-poll.end config k (known c.poll.new.pass) a (g.L.Link.talk c.poll.new.link) told (g.C.Clock.told c.receive.new.clock)) (m ∙ n)
    (c.in-Some-poll.ensures.stops a told (g.C.Clock.told c.receive.new.clock)
    (subst (λ (k : ℕ). IsWithinTurn config k a told (known c.receive.new.pass) c.receive.new.session (g.L.Link.talk c.receive.new.link) (g.C.Clock.told c.receive.new.clock)) (sym m)
    (c.in_default-receive.ensures.goes a told
    (subst (λ (k : ℕ). IsBeforeTurn config k a told (known c.loop.pass) c.loop.session (g.L.Link.talk c.loop.link) (g.C.Clock.told c.loop.clock)) (sym n) c.loop.invariant.run))))

pub returns-in-Some-receive-clause-cause : goal.returns-in-Some-receive-clause-cause
returns-in-Some-receive-clause-cause g c =
    cause_by c.in-Some-receive.end (g.L.Link.faults c.args.link.now) (g.L.Link.faults c.loop.link) (g.L.Link.faults c.receive.new.link) (g.L.Link.ended c.receive.new.link)
    c.loop.invariant.kept c.in-Some-receive.ensures.cause c.in-Some-receive.ensures.ended

pub returns-in-Some-receive-clause-own : goal.returns-in-Some-receive-clause-own
returns-in-Some-receive-clause-own g c = (c.receive.ensures.own.0, c.receive.ensures.own.1 ∙ c.loop.invariant.number)

pub returns-in-Some-receive-clause-kept : goal.returns-in-Some-receive-clause-kept
returns-in-Some-receive-clause-kept g c = omega (arith, c.loop.invariant.kept, c.receive.ensures.kept)

pub returns-in-Some-receive-clause-test : goal.returns-in-Some-receive-clause-test
returns-in-Some-receive-clause-test g c = c.receive.ensures.test ∙ c.loop.invariant.test

pub returns-in-Some-poll-clause-cause : goal.returns-in-Some-poll-clause-cause
returns-in-Some-poll-clause-cause g c =
    cause_by c.in-Some-poll.end (g.L.Link.faults c.args.link.now) (g.L.Link.faults c.receive.new.link) (g.L.Link.faults c.poll.new.link) (g.L.Link.ended c.poll.new.link)
    (omega (arith, c.loop.invariant.kept, c.receive.ensures.kept)) c.in-Some-poll.ensures.cause (λ is. absurd (c.in-Some-poll.ensures.ended is))

pub returns-in-Some-poll-clause-own : goal.returns-in-Some-poll-clause-own
returns-in-Some-poll-clause-own g c = (c.poll.ensures.own.0, c.poll.ensures.own.1 ∙ (c.receive.ensures.own.1 ∙ c.loop.invariant.number))

pub returns-in-Some-poll-clause-kept : goal.returns-in-Some-poll-clause-kept
returns-in-Some-poll-clause-kept g c = omega (arith, c.loop.invariant.kept, c.receive.ensures.kept, c.poll.ensures.kept)

pub returns-in-Some-poll-clause-test : goal.returns-in-Some-poll-clause-test
returns-in-Some-poll-clause-test g c = c.receive.ensures.test ∙ c.loop.invariant.test

pub loop-preserved : goal.loop-preserved
loop-preserved g c =
    let config = config_of c.args.hub.now in
    let n : c.loop.pass.number ≡ c.args.pass.now.number = c.loop.invariant.number in
    let m : c.receive.new.pass.number ≡ c.loop.pass.number = c.receive.ensures.own.1 in
    let a = g.L.Link.talk c.args.link.now in
    let told = g.C.Clock.told c.args.clock.now in
    record {
      own = c.poll.ensures.own.0;
      number = c.poll.ensures.own.1 ∙ (m ∙ n);
      met = c.poll.ensures.met ∙ (c.receive.ensures.met ∙ c.loop.invariant.met);
      run = subst (λ (k : ℕ). IsBeforeTurn config k a told (known c.poll.new.pass) c.poll.new.session (g.L.Link.talk c.poll.new.link) (g.C.Clock.told c.receive.new.clock)) (m ∙ n)
          (c.in_default-poll.ensures.goes a told (g.C.Clock.told c.receive.new.clock)
          (subst (λ (k : ℕ). IsWithinTurn config k a told (known c.receive.new.pass) c.receive.new.session (g.L.Link.talk c.receive.new.link) (g.C.Clock.told c.receive.new.clock)) (sym m)
          (c.in_default-receive.ensures.goes a told
          (subst (λ (k : ℕ). IsBeforeTurn config k a told (known c.loop.pass) c.loop.session (g.L.Link.talk c.loop.link) (g.C.Clock.told c.loop.clock)) (sym n) c.loop.invariant.run))));
      usable = c.poll.ensures.usable;
      kept = omega (arith, c.loop.invariant.kept, c.receive.ensures.kept, c.poll.ensures.kept);
      test = c.receive.ensures.test ∙ c.loop.invariant.test;
    }

pub returns-in-Some-receive-clause-met : goal.returns-in-Some-receive-clause-met
returns-in-Some-receive-clause-met g c = c.receive.ensures.met ∙ c.loop.invariant.met

pub returns-in-Some-poll-clause-met : goal.returns-in-Some-poll-clause-met
returns-in-Some-poll-clause-met g c = c.poll.ensures.met ∙ (c.receive.ensures.met ∙ c.loop.invariant.met)
