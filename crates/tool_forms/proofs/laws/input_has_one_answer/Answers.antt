use Rattle.std.proofs.Common.{refl}
use Rattle.tool_forms.specs.Replay.{replay_plan}
use Rattle.capture_listing.specs.Listing.{show_plan, check_plan}
use Rattle.tool_forms.proofs.ReplayingLemmas.{replay_forward}
use Rattle.tool_forms.proofs.laws.input_has_one_answer.Goals as goal

pub returns : goal.returns
returns c = record {
  replay = λ config. c.run_stops_once.ensures (replay_plan config) (replay_forward config);
  show = c.run_stops_once.ensures show_plan (λ fs f gs later. refl);
  check = c.run_stops_once.ensures check_plan (λ fs f gs later. refl);
}
