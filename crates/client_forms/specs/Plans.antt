-- What a command wants done with an answer, and what it does after that before it waits again.
use Rattle.std.specs.Prelude.{◌≡◌, ◌≢◌, ℕ, ℤ, Bool, true, false, List, [], ◌++◌, Option, Result, Ok, Err, None, Some}
use Rattle.client_core.specs.State.{State}
use Rattle.etp_outside.specs.Faults.{Rose}
use Rattle.etp_outside.specs.declared.status.Status.{Status}
use Rattle.etp_outside.specs.declared.status.Status.TheVariants as status
use Rattle.client_forms.specs.Ctl.{Course, Place, Stage, asks, closes, ends, writes}
use Rattle.client_forms.specs.Work.{Comes, Did, Fronts, IsAt, IsOwn, Outside, IsCause, Stops, moved, place}
use Rattle.client_forms.specs.declared.action.Action.{Action}
use Rattle.client_forms.specs.declared.action.Action.TheVariants as action
use Rattle.client_forms.specs.declared.stop.Cause.TheVariants as cause
use Rattle.client_forms.specs.declared.stop.Stop.{Stop}
use Rattle.client_forms.specs.declared.stop.Stop.TheVariants as stop

-- the step of a course that an action is
abbrev pub acts : Action → Course → Course
acts action.Wait c = c
acts (action.Ask a) c = asks a c
acts (action.Write bytes) c = writes bytes c
acts (action.Report bytes) c = closes status.Done (writes bytes c)

abbrev pub is_wait : Action → Bool
is_wait action.Wait = true
is_wait (action.Ask a) = false
is_wait (action.Write bytes) = false
is_wait (action.Report bytes) = false

-- a course of a command that is here and continues
abbrev pub standing : Place → Course → Course
standing p c = record c { at = p; status = None }

-- what a command does after an action: it changes nothing of a course that has ended, and otherwise only adds
pub record Rests (g : Course → Course) : Type 0 where
  pub same : (st : Status) (c : Course) → g (ends st c) ≡ ends st c
  pub kept : (st : Status) (c : Course) → c.status ≡ Some st → (g c).status ≡ Some st
  pub fronts : (c : Course) → Fronts c [] [] (g c)

-- the command comes to a stage, an action is its next step, and this is the rest of what it does before it waits again
pub record Plan (owes : Stage → (Course → Course) → Type 0) (stands : Stage → Type 0) (read : Type 0) (f : Course → Course) (before : Stage) (a : Action) : Type 0 where
  pub stage : Stage
  pub rest : Course → Course
  pub there : owes stage rest
  pub rests : Rests rest
  -- if it waits, nothing is left to do
  pub waits : a ≡ action.Wait → stands stage × ((c : Course) → rest c ≡ c)
  -- if it is done, it has read what it was to read
  pub reads : (bytes : List ℕ) → a ≡ action.Report bytes → read
  pub same : (s : State) (c : Course) → f (standing (place s before) c) ≡ rest (acts a (standing (place s stage) c))

-- the command ends here, or it is cut off by something outside
abbrev pub PlanStops : Stop → (Course → Course) → Stage → Outside → Outside → Type 0
PlanStops (stop.Over st) f before x y = (st ≢ status.Done) × ((s : State) (c : Course) → f (standing (place s before) c) ≡ ends st (standing (place s before) c))
PlanStops (stop.Short st) f before x y = ⊥
PlanStops (stop.Cut e) f before x y = ((c : Course) → Fronts c [] [] (f c)) × IsCause e x y
PlanStops stop.Left f before x y = ⊥

abbrev pub Plans : Result Action Stop → (Stage → (Course → Course) → Type 0) → (Stage → Type 0) → Type 0 → (Course → Course) → Stage → Outside → Outside → Type 0
Plans (Ok a) owes stands read f before x y = Plan owes stands read f before a
Plans (Err e) owes stands read f before x y = PlanStops e f before x y

-- why a command stops that has touched nothing but its input
abbrev pub GivesUp : Stop → ℕ → ℕ → Type 0
GivesUp (stop.Over st) before now = IsOwn st
GivesUp (stop.Short st) before now = ⊥
GivesUp (stop.Cut cause.Link) before now = ⊥
GivesUp (stop.Cut cause.Output) before now = ⊥
GivesUp (stop.Cut cause.Input) before now = Rose before now
GivesUp (stop.Cut cause.Memory) before now = Unit {0}
GivesUp stop.Left before now = ⊥

-- a command that only waits does nothing by itself
abbrev pub Waits : (Course → Course) → Type 0
Waits rest = rest ≡ (λ c. c)

-- the action that is wanted, or running out of memory
abbrev pub GivesAction : Result Action Stop → Action → Type 0
GivesAction (Ok a) wanted = a ≡ wanted
GivesAction (Err e) wanted = e ≡ stop.Cut cause.Memory

-- a command that does what it wants done: how far it has come, and what is left
pub record Doing (owes : Stage → (Course → Course) → Type 0) (stands : Stage → Type 0) (read : Type 0) (f : Course → Course) (p : Place) (s : State) (a : Action) (x y : Outside) : Type 0 where
  pub stage : Stage
  pub rest : Course → Course
  pub there : owes stage rest
  pub rests : Rests rest
  pub waits : a ≡ action.Wait → stands stage × ((c : Course) → rest c ≡ c)
  pub reads : (bytes : List ℕ) → a ≡ action.Report bytes → read
  pub moments : List ℤ
  pub messages : List (List ℕ)
  pub bytes : List ℕ
  pub did : Did moments messages bytes x y
  pub course : (c : Course) (later : List ℤ) → IsAt p c → f (record c { moments = moments ++ later }) ≡ rest (acts a (moved c (place s stage) later messages bytes))

-- what doing an action results in: the command waits, or wants something further, or has stopped
abbrev pub ActsOn : Result (Option Action) Stop → (Stage → (Course → Course) → Type 0) → (Stage → Type 0) → Type 0 → (Course → Course) → Place → State → Outside → Outside → Type 0
ActsOn (Ok None) owes stands read f p s x y = Comes stands f p s x y
ActsOn (Ok (Some a)) owes stands read f p s x y = Doing owes stands read f p s a x y
ActsOn (Err e) owes stands read f p s x y = Stops e f p x y

abbrev pub wanted : Result Action Stop → Result (Option Action) Stop
wanted (Ok a) = Ok (Some a)
wanted (Err e) = Err e
