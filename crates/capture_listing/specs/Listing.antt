-- What showing and checking a capture make of frames: a line for each, and for a check the counts at the end.
use Rattle.std.specs.Prelude.{ℕ, ◌+◌, ◌≤◌, Bool, true, false, List, [], ◌∷◌, ◌++◌, length, filter}
use Rattle.etp_capture.specs.declared.frame.Frame.{Frame}
use Rattle.capture_text.specs.Lines.{shown_line, checked_line, checked_of, counts_line}
use Rattle.capture_text.specs.declared.counting.Counts.{Counts}
use Rattle.capture_text.specs.declared.checking.Checked.{Checked}
use Rattle.capture_text.specs.declared.checking.Checked.TheVariants as checked
use Rattle.capture_run.specs.Form.{Plan}

-- the lines of frames of which the first is at an offset
abbrev pub lines : (ℕ → Frame → List ℕ) → ℕ → List Frame → List ℕ
lines line at [] = []
lines line at (f ∷ fs) = line at f ++ lines line (at + (17 + length f.bytes)) fs

abbrev pub is_message : Checked → Bool
is_message checked.NoMessage = false
is_message checked.Taken = true
is_message checked.Refused = true

abbrev pub is_refused : Checked → Bool
is_refused checked.NoMessage = false
is_refused checked.Taken = false
is_refused checked.Refused = true

-- how many frames there are, how many of them are messages, and how many of those are refused
abbrev pub counts_of : List Frame → Counts
counts_of fs = record {
  frames = length fs;
  messages = length (filter (λ f. is_message (checked_of f)) fs);
  refused = length (filter (λ f. is_refused (checked_of f)) fs);
}

-- each frame is shown
abbrev pub show_plan : Plan
show_plan = record {
  accepts = λ fs. true;
  written = λ fs. lines shown_line 8 fs;
  last = λ fs. [];
  refused = λ fs. 0;
}

-- each message that is refused has a line, and the counts follow at the end
abbrev pub check_plan : Plan
check_plan = record {
  accepts = λ fs. true;
  written = λ fs. lines checked_line 8 fs;
  last = λ fs. counts_line (counts_of fs);
  refused = λ fs. (counts_of fs).refused;
}

-- ---- counting one by one

abbrev pub one_if : Bool → ℕ
one_if true = 1
one_if false = 0

-- the counts with one more frame, which was found to be this
abbrev pub with_one : Counts → Checked → Counts
with_one c found = record { frames = c.frames + 1; messages = c.messages + one_if (is_message found); refused = c.refused + one_if (is_refused found) }

-- counts of frames before an offset
pub record IsSmall (c : Counts) (at : ℕ) : Type 0 where
  pub frames : c.frames + 8 ≤ at
  pub messages : c.messages ≤ c.frames
  pub refused : c.refused ≤ c.messages
