-- What the top call answers, by all that it was given and left.
use Rattle.std.specs.Prelude.{◌≡◌, ◌⊎◌, ◌++◌, ℕ, List, Option, None, Some, IfSome, Ok}
use Rattle.std.specs.Io.KnownBytes.{Keeps}
use Rattle.etp_outside.specs.declared.status.Status.{Status}
use Rattle.etp_outside.specs.declared.status.Status.TheVariants.{Done, Usage, WriteFault, NoMemory}
use Rattle.chan_defs.specs.Config.{defs}
use Rattle.server_config.specs.declared.config.Config.{Config as Settings}
use Rattle.tool_forms.specs.Words.{Command, Replay, Show, Check, Capture, Generate}
use Rattle.config_file.specs.Settings.{IsNoConfig}
use Rattle.etp_capture.specs.Capture.{frames_bytes}
use Rattle.etp_capture.specs.Frames.{magic}
use Rattle.generator.specs.Generator.{frames}
use Rattle.gathered_text.specs.Writing.{Writes}
use Rattle.gathered_text.specs.declared.writing.Wrote.{Wrote}
use Rattle.gathered_text.specs.declared.writing.Wrote.TheVariants as wrote
use Rattle.tool_forms.specs.Summary.{summary}
use Rattle.capture_run.specs.Running.{Stream, Ran}
use Rattle.tool_forms.specs.Replay.{replay_plan}
use Rattle.capture_listing.specs.Listing.{show_plan, check_plan}

-- nothing was read and nothing was written
abbrev pub Untouched : Stream → Stream → Type 0
Untouched input output = Keeps input.before input.after × Keeps output.before output.after

-- the configuration was read, and the input was replayed with it
pub record Started (status : Status) (content : Option (List ℕ)) (input output : Stream) : Type 0 where
  pub config : Settings
  pub is_read : IfSome content (λ bytes. defs bytes ≡ Ok config)
  pub replayed : Ran (replay_plan config) status input output

-- what a status says about a replay: about the configuration's file, if the host reveals it, the input and what was written
abbrev pub ReplaysWith : Status → Option (List ℕ) → Stream → Stream → Type 0
ReplaysWith status content input output = (IsNoConfig status content × Untouched input output) ⊎ Started status content input output

-- the status of what came of a text
abbrev pub status_of : Wrote → Status
status_of wrote.Whole = Done
status_of wrote.WriteFault = WriteFault
status_of wrote.NoMemory = NoMemory

-- a text was written, all of it or a prefix, as the status says, and no input was read
pub record Tells (text : List ℕ) (status : Status) (input output : Stream) : Type 0 where
  pub end : Wrote
  pub status_is : status ≡ status_of end
  pub written : Writes end text output.before output.after
  pub unread : Keeps input.before input.after

-- what a status says about a command, the files of the host, the input and what was written
abbrev pub Fulfils : Status → Command → (List ℕ → Option (List ℕ)) → Stream → Stream → Type 0
Fulfils status (Replay name) files input output = ReplaysWith status (files name) input output
Fulfils status Show files input output = Ran show_plan status input output
Fulfils status Check files input output = Ran check_plan status input output
Fulfils status (Capture size) files input output = Tells (magic ++ frames_bytes (frames size)) status input output
Fulfils status (Generate size) files input output = Tells (summary size) status input output

-- the same for words, which may be malformed
abbrev pub Answers : Status → Option Command → (List ℕ → Option (List ℕ)) → Stream → Stream → Type 0
Answers status None files input output = ((status ≡ Usage) ⊎ (status ≡ NoMemory)) × Untouched input output
Answers status (Some command) files input output = Fulfils status command files input output ⊎ ((status ≡ NoMemory) × Untouched input output)
