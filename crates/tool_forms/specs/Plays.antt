-- What playing a frame leaves.
use Rattle.std.specs.Prelude.{◌≡◌, Bool, true, false, List, ◌++◌}
use Rattle.etp_capture.specs.declared.frame.Frame.{Frame}
use Rattle.store_machine.specs.declared.journal.Entry.{Entry}
use Rattle.tool_forms.specs.Turns.{Effect}
use Rattle.tool_forms.specs.Play.{World, effect, world_after, is_refused}
use Rattle.tool_forms.specs.declared.tag.TagState.{TagState}

-- a refused frame leaves everything as it was; any other changes the world and adds the frames that answer it
abbrev pub Plays : Bool → World → Frame → World → List Frame → List Frame → Type 0
Plays true old f new before after = (is_refused old f ≡ true) × (new ≡ old) × (after ≡ before)
Plays false old f new before after = (is_refused old f ≡ false) × (new ≡ world_after old f) × (after ≡ before ++ (effect old f).answers)

-- the journal, a tag's state and the answers are those of an effect
pub record Meets (e : Effect) (state : TagState) (journal : List Entry) (before after : List Frame) : Type 0 where
  pub journal_is : journal ≡ e.journal
  pub tag_is : state ≡ e.tag
  pub answers_are : after ≡ before ++ e.answers
