-- What a form of the tool makes of the frames of a capture.
use Rattle.std.specs.Prelude.{◌≡◌, ℕ, Bool, true, false, List, [], ◌∷◌, ◌++◌}
use Rattle.etp_capture.specs.declared.frame.Frame.{Frame}

-- what a form promises about whole lists of frames
pub record Plan : Type 0 where
  -- whether all of them are taken, one after another
  pub accepts : List Frame → Bool
  -- what is written for frames that are taken
  pub written : List Frame → List ℕ
  -- what is written after that if the capture ends
  pub last : List Frame → List ℕ
  -- how many of their messages are refused
  pub refused : List Frame → ℕ

-- one more frame after others, which is refused or leaves the state of the frames including it
abbrev pub Takes : Bool → Plan → List Frame → Frame → (List Frame → Type 0) → List ℕ → List ℕ → Type 0
Takes true plan fs f Stands before after = (plan.accepts (fs ++ f ∷ []) ≡ false) × (after ≡ before)
Takes false plan fs f Stands before after =
    (plan.accepts (fs ++ f ∷ []) ≡ true) × Stands (fs ++ f ∷ [])
    × ((more : List ℕ) × (after ≡ before ++ more) × (plan.written (fs ++ f ∷ []) ≡ plan.written fs ++ more))

-- what is appended at the capture's end, and how many messages were refused
pub record Closes (plan : Plan) (fs : List Frame) (refused : ℕ) (before after : List ℕ) : Type 0 where
  pub count : refused ≡ plan.refused fs
  pub bytes : after ≡ before ++ plan.last fs
