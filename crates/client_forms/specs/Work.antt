-- What a step of a command does outside, and to the command's course.
use Rattle.std.specs.Prelude.{◌≡◌, ◌≤◌, ◌⊎◌, ℕ, ℤ, Bool, List, ◌++◌, Option, None, Some, Result, Ok, Err}
use Rattle.std.specs.Io.KnownBytes.{Appends}
use mathlib.Core.List.{IsPrefix}
use Rattle.etp_outside.specs.Faults.{Rose}
use Rattle.etp_outside.specs.Talk.{Talk}
use Rattle.etp_outside.specs.Told.{Told}
use Rattle.etp_outside.specs.declared.status.Status.{Status}
use Rattle.etp_outside.specs.declared.status.Status.TheVariants as status
use Rattle.client_core.specs.State.{State}
use Rattle.client_core.specs.declared.got.ClientError.{ClientError}
use Rattle.client_core.specs.declared.got.ClientError.TheVariants as error
use Rattle.client_forms.specs.Ctl.{Course, Place, Stage, ends}
use Rattle.client_forms.specs.declared.stop.Cause.{Cause}
use Rattle.client_forms.specs.declared.stop.Cause.TheVariants as cause
use Rattle.client_forms.specs.declared.stop.Stop.{Stop}
use Rattle.client_forms.specs.declared.stop.Stop.TheVariants as stop

-- what a link reveals, how often it failed, and whether its peer has ended it
pub record Line : Type 0 where
  pub talk : Option Talk
  pub faults : ℕ
  pub ended : Bool

-- what an output holds, and how often it failed
pub record Output : Type 0 where
  pub held : Option (List ℕ)
  pub faults : ℕ

-- what an input has left, and how often it failed
pub record Input : Type 0 where
  pub left : Option (List ℕ)
  pub faults : ℕ

-- all that a command works on
pub record Outside : Type 0 where
  pub line : Line
  pub told : Option (List ℤ)
  pub output : Output
  pub input : Input

-- a link that reveals this
abbrev pub line : Option Talk → ℕ → Bool → Line
line talk faults ended = record { talk = talk; faults = faults; ended = ended }

-- an output that holds this, and failed this often
abbrev pub output : Option (List ℕ) → ℕ → Output
output held faults = record { held = held; faults = faults }

-- an input that has this left, and failed this often
abbrev pub input : Option (List ℕ) → ℕ → Input
input left faults = record { left = left; faults = faults }

-- these as all that a command works on
abbrev pub outside : Line → Option (List ℤ) → Output → Input → Outside
outside l told o i = record { line = l; told = told; output = o; input = i }

-- a command whose client is this, at this stage
abbrev pub place : State → Stage → Place
place s stage = record { client = s; stage = stage }

-- these messages were sent whole
pub record Says (messages : List (List ℕ)) (a b : Talk) : Type 0 where
  pub coming : b.coming ≡ a.coming
  pub taken : b.taken ≡ a.taken
  pub sent : b.sent ≡ a.sent ++ messages
  pub to : b.to ≡ a.to

-- the peer has ended the link no more than before, and no count of faults fell
pub record Kept (x y : Outside) : Type 0 where
  pub line : x.line.faults ≤ y.line.faults
  pub output : x.output.faults ≤ y.output.faults
  pub input : x.input.faults ≤ y.input.faults
  pub ended : y.line.ended ≡ x.line.ended

-- these moments were returned, these messages sent, and these bytes written
pub record Did (moments : List ℤ) (messages : List (List ℕ)) (bytes : List ℕ) (x y : Outside) : Type 0 where
  pub told : Told x.told y.told (λ xs ys. ys ≡ xs ++ moments)
  pub said : Told x.line.talk y.line.talk (Says messages)
  pub written : Appends x.output.held y.output.held bytes
  pub kept : Kept x y

-- a course that continued: where it is now, the moments that are left, and what was sent and written in addition
abbrev pub moved : Course → Place → List ℤ → List (List ℕ) → List ℕ → Course
moved c q later messages bytes = record c { at = q; moments = later; sent = c.sent ++ messages; written = c.written ++ bytes }

-- a course of a command that is here and continues
pub record IsAt (p : Place) (c : Course) : Type 0 where
  pub here : c.at ≡ p
  pub going : c.status ≡ None

-- any course that is at p makes this step, by the moments that were returned, and continues at q
pub record Goes (f : Course → Course) (p q : Place) (x y : Outside) : Type 0 where
  pub moments : List ℤ
  pub messages : List (List ℕ)
  pub bytes : List ℕ
  pub did : Did moments messages bytes x y
  pub course : (c : Course) (later : List ℤ) → IsAt p c → f (record c { moments = moments ++ later }) ≡ moved c q later messages bytes

-- the same, and the step ends it with this status
pub record Ends (f : Course → Course) (st : Status) (p : Place) (x y : Outside) : Type 0 where
  pub moments : List ℤ
  pub messages : List (List ℕ)
  pub bytes : List ℕ
  pub left : Place
  pub did : Did moments messages bytes x y
  pub course : (c : Course) (later : List ℤ) → IsAt p c → f (record c { moments = moments ++ later }) ≡ ends st (moved c left later messages bytes)

-- what was sent and written by a step that was cut off: a prefix of what the course has then
pub record Fronts (c : Course) (messages : List (List ℕ)) (bytes : List ℕ) (r : Course) : Type 0 where
  pub sent : IsPrefix (c.sent ++ messages) r.sent
  pub written : IsPrefix (c.written ++ bytes) r.written

pub record Breaks (f : Course → Course) (p : Place) (x y : Outside) : Type 0 where
  pub moments : List ℤ
  pub messages : List (List ℕ)
  pub bytes : List ℕ
  pub did : Did moments messages bytes x y
  pub course : (c : Course) → IsAt p c → Fronts c messages bytes (f (record c { moments = moments }))

-- with this status a command ends by itself: none is a fault, and none is that of a malformed command line
abbrev pub IsOwn : Status → Type 0
IsOwn status.Done = Unit {0}
IsOwn status.Limit = Unit {0}
IsOwn (status.Refused code) = Unit {0}
IsOwn status.Peer = Unit {0}
IsOwn (status.Input n) = Unit {0}
IsOwn status.Stopped = Unit {0}
IsOwn st = ⊥

-- a command may end this way although its last words did not get through: an earlier cause takes precedence
abbrev pub IsLate : Status → Type 0
IsLate (status.Refused code) = Unit {0}
IsLate status.Stopped = Unit {0}
IsLate st = ⊥

-- with this status a command closes its session
abbrev pub MayClose : Status → Type 0
MayClose status.Done = Unit {0}
MayClose st = IsLate st

-- the same for a step that ends the course with this status
pub record Cuts (f : Course → Course) (st : Status) (p : Place) (x y : Outside) : Type 0 where
  pub moments : List ℤ
  pub messages : List (List ℕ)
  pub bytes : List ℕ
  pub did : Did moments messages bytes x y
  pub course : (c : Course) → IsAt p c → Fronts c messages bytes (f (record c { moments = moments }))
  pub end : (c : Course) → IsAt p c → (f (record c { moments = moments })).status ≡ Some st
  pub late : IsLate st

-- what failed, or that memory ran out
abbrev pub IsCause : Cause → Outside → Outside → Type 0
IsCause cause.Link x y = Rose x.line.faults y.line.faults
IsCause cause.Output x y = Rose x.output.faults y.output.faults
IsCause cause.Input x y = Rose x.input.faults y.input.faults
IsCause cause.Memory x y = Unit {0}

-- no count of faults fell
pub record NoLess (x y : Outside) : Type 0 where
  pub line : x.line.faults ≤ y.line.faults
  pub output : x.output.faults ≤ y.output.faults
  pub input : x.input.faults ≤ y.input.faults

-- why a command stopped, whatever its link, its clock and its input reveal
abbrev pub IsWhy : Stop → Outside → Outside → Type 0
IsWhy (stop.Over st) x y = IsOwn st
IsWhy (stop.Short st) x y = IsLate st
IsWhy (stop.Cut e) x y = IsCause e x y
IsWhy stop.Left x y = Unit {0}

abbrev pub Why : {A : Type 0} → Result A Stop → Outside → Outside → Type 0
Why (Ok a) x y = NoLess x y
Why (Err e) x y = NoLess x y × IsWhy e x y

-- the link or the output failed
abbrev pub HasFailed : Outside → Outside → Type 0
HasFailed x y = Rose x.line.faults y.line.faults ⊎ Rose x.output.faults y.output.faults

-- a step that ended the command: as the course ends, or in the same way but without all that was to be sent and written, or because of
-- something outside
abbrev pub Stops : Stop → (Course → Course) → Place → Outside → Outside → Type 0
Stops (stop.Over st) f p x y = Ends f st p x y
Stops (stop.Short st) f p x y = Cuts f st p x y × HasFailed x y
Stops (stop.Cut e) f p x y = Breaks f p x y × IsCause e x y
Stops stop.Left f p x y = ⊥

abbrev pub Works : Result (Unit {0}) Stop → (Course → Course) → Place → Place → Outside → Outside → Type 0
Works (Ok u) f p q x y = Goes f p q x y
Works (Err e) f p q x y = Stops e f p x y

-- what a step leaves of a command that it does not end: the stage that it reaches, and what holds for the command there
pub record Comes (stands : Stage → Type 0) (f : Course → Course) (p : Place) (s : State) (x y : Outside) : Type 0 where
  pub stage : Stage
  pub there : stands stage
  pub goes : Goes f p (place s stage) x y

abbrev pub Steps : Result (Unit {0}) Stop → (Stage → Type 0) → (Course → Course) → Place → State → Outside → Outside → Type 0
Steps (Ok u) stands f p s x y = Comes stands f p s x y
Steps (Err e) stands f p s x y = Stops e f p x y

-- how a command stops on a refusal from its client: if memory ran out it is not known which
abbrev pub FailsOn : ClientError → Stop → (ClientError → Course → Course) → Place → Outside → Outside → Type 0
FailsOn error.NoMemory e on p x y = (e ≡ stop.Cut cause.Memory) × (y ≡ x)
FailsOn other e on p x y = Stops e (on other) p x y
