-- What a replay makes of frames.
use Rattle.std.specs.Prelude.{◌≡◌, ◌++◌, ℕ, Bool, true, false, List, [], Option, None, Some}
use Rattle.etp_capture.specs.Capture.{frames_bytes}
use Rattle.etp_capture.specs.Frames.{magic}
use Rattle.etp_capture.specs.declared.frame.Frame.{Frame}
use Rattle.server_config.specs.declared.config.Config.{Config}
use Rattle.capture_run.specs.Form.{Plan}
use Rattle.tool_forms.specs.Play.{World, play}

abbrev pub is_none : Option ℕ → Bool
is_none None = true
is_none (Some offset) = false

-- the frames are played, and the frames that answer them are written; nothing follows at the end
abbrev pub replay_plan : Config → Plan
replay_plan config = record {
  accepts = λ fs. is_none (play config fs).refused;
  written = λ fs. magic ++ frames_bytes (play config fs).answers;
  last = λ fs. [];
  refused = λ fs. 0;
}

-- these frames are played without a refusal, and leave this world
pub record Leads (fs : List Frame) (world : World) : Type 0 where
  pub world_is : (play world.config fs).world ≡ world
  pub accepted : (play world.config fs).refused ≡ None
