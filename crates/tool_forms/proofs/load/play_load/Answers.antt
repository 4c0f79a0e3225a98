use Rattle.std.proofs.Common.{◌≡◌, ◌<◌, ◌^◌, ◌+◌, ◌∷◌, [], Bool, not, length, ap, arith, rules, subst}
use Rattle.generator.specs.Generator.{frames}
use Rattle.generator.proofs.GivenLemmas.{none_given, two_given}
use Rattle.tool_forms.specs.Loads.{IsAt}
use Rattle.tool_forms.specs.Play.{play_from}
use Rattle.tool_forms.proofs.LoadingLemmas.{left_more, left_none, left_refused, room_first, room_less, room_two}
use Rattle.tool_forms.proofs.load.play_load.Goals as goal

pub loop-two-init : goal.loop-two-init
loop-two-init c =
    let small : c.args.size < 2 ^ 32 = search rules in
    record {
      left = λ p at. (p, at, ap (play_from p) c.new-generator.ensures);
      sound = c.requires;
      room = room_first c.args.size c.new-generator.result small c.new-generator.ensures;
    }

pub play_two-requires-clause-room : goal.play_two-requires-clause-room
play_two-requires-clause-room c =
    let given = two_given c.in_ok-two.field-0 c.in-Some.two c.loop-two.generator c.next.new.self c.in-Some.is c.in_ok-two.ensures in
    let room = room_two c.loop-two.counted c.in-Some.two.0 c.in-Some.two.1 c.loop-two.generator c.next.new.self given c.loop-two.invariant.room in
    room_less c.loop-two.counted (length c.next.new.self + 1 + 1) 2 (omega arith) room

pub returns-then-played : goal.returns-then-played
returns-then-played c = λ p at.
    let a = c.in-Some.two.0 in
    let b = c.in-Some.two.1 in
    let played = c.in_ok-played.played in
    let given = two_given c.in_ok-two.field-0 c.in-Some.two c.loop-two.generator c.next.new.self c.in-Some.is c.in_ok-two.ensures in
    left_refused c.loop-two.player c.play_two.new.player c.loop-two.counted played.tally a b c.loop-two.generator c.next.new.self (play_from p (frames c.args.size)) p given
    (λ q at_q. subst (λ (r : Bool). IsAt (play_from q (a ∷ b ∷ [])) (not r) c.play_two.new.player played.tally) c.if-played.true (c.in_ok-played.ensures.counts q at_q))
    (c.loop-two.invariant.left p at)

pub loop-two-smaller : goal.loop-two-smaller
loop-two-smaller c =
    let given = two_given c.in_ok-two.field-0 c.in-Some.two c.loop-two.generator c.next.new.self c.in-Some.is c.in_ok-two.ensures in
    let longer : length c.loop-two.generator ≡ length (c.in-Some.two.0 ∷ c.in-Some.two.1 ∷ c.next.new.self) = ap length given in
    omega (arith, longer)

pub loop-two-preserved : goal.loop-two-preserved
loop-two-preserved c =
    let a = c.in-Some.two.0 in
    let b = c.in-Some.two.1 in
    let played = c.in_ok-played.played in
    let given = two_given c.in_ok-two.field-0 c.in-Some.two c.loop-two.generator c.next.new.self c.in-Some.is c.in_ok-two.ensures in
    let room = room_two c.loop-two.counted a b c.loop-two.generator c.next.new.self given c.loop-two.invariant.room in
    record {
      left = λ p at.
          left_more c.loop-two.player c.play_two.new.player c.loop-two.counted played.tally a b c.loop-two.generator c.next.new.self (play_from p (frames c.args.size)) p given
          (λ q at_q. subst (λ (r : Bool). IsAt (play_from q (a ∷ b ∷ [])) (not r) c.play_two.new.player played.tally) c.if-played.false (c.in_ok-played.ensures.counts q at_q))
          (c.loop-two.invariant.left p at);
      sound = c.in_ok-played.ensures.sound;
      room = c.in_ok-played.ensures.room (length c.next.new.self) room;
    }

pub returns : goal.returns
returns c = λ p at.
    let none = none_given c.in_ok-two.field-0 c.loop-two.generator c.next.new.self c.in_default.is c.in_ok-two.ensures in
    left_none c.loop-two.player c.loop-two.counted c.loop-two.generator (play_from p (frames c.args.size)) p none (c.loop-two.invariant.left p at)
