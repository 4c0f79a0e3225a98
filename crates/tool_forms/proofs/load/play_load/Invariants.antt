-- What was played and counted, and what is left of the load.
use Rattle.std.proofs.Common.{length, true}
use Rattle.generator.specs.Generator.{frames}
use Rattle.load_forms.specs.Tally.{nothing_sent, HasRoom}
use Rattle.tool_forms.specs.Play.{Played, play_from}
use Rattle.tool_forms.specs.Sound.{IsSound}
use Rattle.tool_forms.specs.Loads.{IsAt}
use Rattle.tool_forms.proofs.LoadingLemmas.{Left}
use Rattle.tool_forms.proofs.load.play_load.Given as goal

abbrev pub invariant-loop-two : goal.invariant-loop-two
invariant-loop-two l = record {
  left : (p : Played) → IsAt p true l.fn.player nothing_sent → Left p l.player l.counted l.generator (play_from p (frames l.fn.size));
  sound : IsSound l.player;
  room : HasRoom (length l.generator) l.counted;
}

abbrev pub decreases-loop-two : goal.decreases-loop-two
decreases-loop-two l = length l.generator
