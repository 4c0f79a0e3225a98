use Rattle.std.proofs.Common.{◌+◌, Bool, not, arith, subst}
use Rattle.tool_forms.specs.Loads.{IsAt}
use Rattle.tool_forms.specs.Play.{happens}
use Rattle.tool_forms.specs.declared.load.Counted.{Counted}
use Rattle.tool_forms.proofs.LoadingLemmas.{room_less, second_counted, second_room, stays_refused}
use Rattle.tool_forms.proofs.load.play_two.Goals as goal

pub play_one-requires-clause-room : goal.play_one-requires-clause-room
play_one-requires-clause-room c = room_less c.args.counted 2 1 (omega arith) c.requires.room

pub returns-then-played-clause-counts : goal.returns-then-played-clause-counts
returns-then-played-clause-counts c = λ p at.
    let played = c.in_ok-played.played in
    stays_refused p c.args.two.0 c.args.two.1 c.play_one.new.player played.tally played.refused c.if-played.true (c.in_ok-played.ensures.counts p at)

pub returns-then-played-clause-room : goal.returns-then-played-clause-room
returns-then-played-clause-room c = λ n room. room_less c.in_ok-played.played.tally (n + 1) n (omega arith) (c.in_ok-played.ensures.room (n + 1) room)

pub play_one-requires-2-clause-room : goal.play_one-requires-2-clause-room
play_one-requires-2-clause-room c = c.in_ok-played.ensures.room 1 c.requires.room

pub returns-clause-counts : goal.returns-clause-counts
returns-clause-counts c =
    let played = c.in_ok-played.played in
    second_counted (λ (a : Counted). a.refused) (λ (a : Counted). a.tally) c.play_one-2.result c.args.two.0 c.args.two.1 c.args.player.now c.play_one.new.player c.play_one-2.new.player c.args.counted played.tally
    (λ p at. subst (λ (b : Bool). IsAt (happens p c.args.two.0) (not b) c.play_one.new.player played.tally) c.if-played.false (c.in_ok-played.ensures.counts p at))
    c.play_one-2.ensures.counts

pub returns-clause-room : goal.returns-clause-room
returns-clause-room c =
    second_room (λ (a : Counted). a.tally) c.play_one-2.result c.args.counted c.in_ok-played.played.tally c.in_ok-played.ensures.room c.play_one-2.ensures.room
