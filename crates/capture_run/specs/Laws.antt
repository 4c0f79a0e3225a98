-- The law of runs.
use Rattle.std.specs.Prelude.{◌≡◌, ℕ, true, List, [], ◌∷◌, ◌++◌}
use Rattle.etp_capture.specs.declared.frame.Frame.{Frame}
use Rattle.capture_run.specs.Form.{Plan}
use Rattle.capture_run.specs.Running.{Gives}
use Rattle.capture_run.specs.declared.form.Stop.{Stop}

-- frames that are taken before others are taken without those too
abbrev pub IsForward : Plan → Type 0
IsForward plan = (fs : List Frame) (f : Frame) (gs : List Frame) → plan.accepts (fs ++ f ∷ gs) ≡ true → plan.accepts (fs ++ f ∷ []) ≡ true

-- an input makes a run stop in at most one way, after one list of frames
abbrev pub StopsOnce : Plan → Type 0
StopsOnce plan = (bytes : List ℕ) (a b : Stop) (fs gs : List Frame) → Gives plan a fs bytes → Gives plan b gs bytes → (fs ≡ gs) × (a ≡ b)
