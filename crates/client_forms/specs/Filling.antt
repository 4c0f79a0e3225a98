-- What the code of `load` knows about what it has read and what is left to do.
use Rattle.std.specs.Prelude.{◌≡◌, ◌≢◌, ◌≤◌, ◌+◌, ◌||◌, ℕ, ℤ, Bool, true, false, List, [], ◌∷◌, ◌++◌, length, Option, None, Some, Result, Ok, Err}
use Rattle.std.specs.Io.KnownBytes.{IsAtEnd}
use Rattle.channel_points.specs.Bytes.{point_bytes}
use Rattle.client_core.specs.declared.ask.Ask.TheVariants as asked
use Rattle.etp_outside.specs.Faults.{Rose}
use Rattle.etp_outside.specs.declared.status.Status.TheVariants.{Done, Input}
use Rattle.etp_values.specs.Weight.{capped, weigh}
use Rattle.etp_values.specs.declared.point.Point.{Point}
use Rattle.etp_values.specs.declared.uri.StoreUri.{StoreUri}
use Rattle.point_lines.specs.Lines.{HasGiven, lines_in}
use Rattle.point_lines.specs.Points.{point_in}
use Rattle.client_forms.specs.Ctl.{Course, Job, Loading, Stage, Opening, Asked, Loaded, asks, ends_first, loads_from, loads_last, pings}
use Rattle.client_forms.specs.Loading.{fits, is_none, of_channel}
use Rattle.client_forms.specs.Plans.{Waits}
use Rattle.client_forms.specs.declared.action.Action.{Action}
use Rattle.client_forms.specs.declared.action.Action.TheVariants as action
use Rattle.client_forms.specs.declared.batch.Batch.{Batch}
use Rattle.client_forms.specs.declared.loading.LoadStage.{LoadStage}
use Rattle.client_forms.specs.declared.loading.LoadStage.TheVariants as at
use Rattle.client_forms.specs.declared.loading.Reader.{Reader}
use Rattle.client_forms.specs.declared.loading.Turn.{Turn}
use Rattle.client_forms.specs.declared.loading.Turn.TheVariants as turn
use Rattle.client_forms.specs.declared.stop.Cause.{Cause}
use Rattle.client_forms.specs.declared.stop.Cause.TheVariants as cause
use Rattle.client_forms.specs.declared.stop.Stop.{Stop}
use Rattle.client_forms.specs.declared.stop.Stop.TheVariants as stop

-- ---- the message that is not sent yet

-- it has these points
pub record Holds (b : Batch) (held : List Point) : Type 0 where
  pub points : b.points.items ≡ of_channel b.channel held
  pub bytes : b.bytes ≡ capped (weigh point_bytes held)

-- whether a message with these points takes one more
abbrev pub takes : List Point → Point → Bool
takes held p = is_none held || fits (held ++ p ∷ [])

-- what adding a point results in: the message takes it, or is returned, and the point begins the next one
abbrev pub Adds : {E : Type 0} → Result (Option Batch) E → Batch → Batch → List Point → Point → Type 0
Adds (Ok None) a b held p = (takes held p ≡ true) × (b.channel ≡ a.channel) × Holds b (held ++ p ∷ [])
Adds (Ok (Some full)) a b held p = (takes held p ≡ false) × (b.channel ≡ a.channel) × Holds b (p ∷ []) × (full.points.items ≡ of_channel a.channel held)
Adds (Err e) a b held p = Unit {0}

-- ---- the lines

-- of an input with these bytes the reader has given all lines but these; the open message has these points
pub record HasReadTo (bytes : List ℕ) (left : Option (List ℕ)) (r : Reader) (held : List Point) (later : List (List ℕ)) : Type 0 where
  pub given : List (List ℕ)
  pub gave : HasGiven (Some bytes) left r.lines given
  pub all : lines_in bytes ≡ given ++ later
  pub count : length given ≡ r.count
  pub holds : Holds r.batch held

-- it reads on for a course of which this is left to do
pub record ReadsFor (bytes : List ℕ) (left : Option (List ℕ)) (r : Reader) (f : Course → Course) : Type 0 where
  pub held : List Point
  pub later : List (List ℕ)
  pub read : HasReadTo bytes left r held later
  pub same : (c : Course) → f c ≡ loads_from r.batch.channel r.kind (r.count + 1) held later c

-- it is at the next line
pub record IsAtLine (bytes : List ℕ) (left : Option (List ℕ)) (r : Reader) (f : Course → Course) : Type 0 where
  pub held : List Point
  pub later : List (List ℕ)
  pub given : List (List ℕ)
  pub gave : HasGiven (Some bytes) left r.lines (given ++ r.lines.line ∷ [])
  pub all : lines_in bytes ≡ given ++ r.lines.line ∷ later
  pub count : length given ≡ r.count
  pub holds : Holds r.batch held
  pub short : length r.lines.line ≤ 65536
  pub same : (c : Course) → f c ≡ loads_from r.batch.channel r.kind (r.count + 1) held (r.lines.line ∷ later) c

-- the point of a line, or why there is none
abbrev pub GivesPoint : Result Point Stop → ℕ → ℕ → List ℕ → Type 0
GivesPoint (Ok p) kind n line = point_in kind line ≡ Some p
GivesPoint (Err (stop.Over st)) kind n line = (point_in kind line ≡ None) × (st ≡ Input n)
GivesPoint (Err (stop.Short st)) kind n line = ⊥
GivesPoint (Err (stop.Cut e)) kind n line = e ≡ cause.Memory
GivesPoint (Err stop.Left) kind n line = ⊥

abbrev pub turned : {E : Type 0} → Result (Option Batch) E → Result Turn Stop
turned (Ok (Some full)) = Ok (turn.Full full)
turned (Ok None) = Ok turn.More
turned (Err e) = Err (stop.Cut cause.Memory)

-- all lines are read, and what is left to do is to send these points and a Ping
pub record HasReadAll (bytes : List ℕ) (left : Option (List ℕ)) (r : Reader) (f : Course → Course) : Type 0 where
  pub held : List Point
  pub holds : Holds r.batch held
  pub end : IsAtEnd left
  pub count : length (lines_in bytes) ≡ r.count
  pub same : (c : Course) → f c ≡ pings (loads_last r.batch.channel held c)

-- a message is full, and this is left to do after it
pub record IsFull (bytes : List ℕ) (left : Option (List ℕ)) (r : Reader) (full : Batch) (f : Course → Course) : Type 0 where
  pub rest : Course → Course
  pub reads : ReadsFor bytes left r rest
  pub same : (c : Course) → f c ≡ rest (asks (asked.Load full.points.items) c)

-- why reading was cut off
abbrev pub CutsRead : Cause → ℕ → ℕ → Type 0
CutsRead cause.Link before after = ⊥
CutsRead cause.Output before after = ⊥
CutsRead cause.Input before after = Rose before after
CutsRead cause.Memory before after = Unit {0}

-- how reading stops
abbrev pub StopsRead : Stop → (Course → Course) → ℕ → ℕ → Type 0
StopsRead (stop.Over st) f before after = (st ≢ Done) × ((c : Course) → f c ≡ ends_first st c)
StopsRead (stop.Short st) f before after = ⊥
StopsRead (stop.Cut e) f before after = CutsRead e before after
StopsRead stop.Left f before after = ⊥

-- what reading a line results in
abbrev pub Turns : Result Turn Stop → List ℕ → Option (List ℕ) → ℕ → ℕ → Reader → (Course → Course) → Type 0
Turns (Ok turn.More) bytes left before after r f = ReadsFor bytes left r f
Turns (Ok (turn.Full full)) bytes left before after r f = IsFull bytes left r full f
Turns (Ok turn.NoMore) bytes left before after r f = HasReadAll bytes left r f
Turns (Err e) bytes left before after r f = StopsRead e f before after

-- what filling a message results in
abbrev pub Fills : Result (Option Batch) Stop → List ℕ → Option (List ℕ) → ℕ → ℕ → Reader → (Course → Course) → Type 0
Fills (Ok (Some full)) bytes left before after r f = IsFull bytes left r full f
Fills (Ok None) bytes left before after r f = HasReadAll bytes left r f
Fills (Err e) bytes left before after r f = StopsRead e f before after

-- what is wanted after the last line: a message with the points that are left, or the Ping
abbrev pub WantsLast : Action → LoadStage → ℤ → List Point → Type 0
WantsLast a now channel [] = (a ≡ action.Ask asked.Ping) × (now ≡ at.Loaded)
WantsLast a now channel (p ∷ ps) = (a ≡ action.Ask (asked.Load (of_channel channel (p ∷ ps)))) × (now ≡ at.Read)

-- ---- the command

-- nothing was read
pub record IsFresh (r : Reader) : Type 0 where
  pub lines : r.lines ≡ record { line = []; ahead = []; over = false }
  pub count : r.count ≡ 0
  pub holds : Holds r.batch []

-- it is to load the lines of its input, of which nothing was read
pub record IsReady (u : StoreUri) (r : Reader) (job : Job) (left : Option (List ℕ)) : Type 0 where
  pub bytes : List ℕ
  pub left_is : left ≡ Some bytes
  pub job_is : job ≡ Loading u (lines_in bytes)
  pub fresh : IsFresh r

-- it has sent all lines
pub record HasLoaded (u : StoreUri) (r : Reader) (job : Job) (left : Option (List ℕ)) : Type 0 where
  pub lines : List (List ℕ)
  pub job_is : job ≡ Loading u lines
  pub count : length lines ≡ r.count
  pub end : IsAtEnd left

-- it loads, and this is left to do
pub record IsLoading (u : StoreUri) (r : Reader) (job : Job) (left : Option (List ℕ)) (rest : Course → Course) : Type 0 where
  pub bytes : List ℕ
  pub job_is : job ≡ Loading u (lines_in bytes)
  pub reads : ReadsFor bytes left r rest

-- a command to load that waits
abbrev pub IsLoad : StoreUri → LoadStage → Reader → Job → Option (List ℕ) → Stage → Type 0
IsLoad u at.Opening r job left stage = IsReady u r job left × (stage ≡ Opening)
IsLoad u at.Asked r job left stage = IsReady u r job left × (stage ≡ Asked)
IsLoad u at.Reading r job left stage = ⊥
IsLoad u at.Read r job left stage = ⊥
IsLoad u at.Loaded r job left stage = HasLoaded u r job left × (stage ≡ Loaded)

-- and one that has something left to do
abbrev pub OwesLoad : StoreUri → LoadStage → Reader → Job → Option (List ℕ) → Stage → (Course → Course) → Type 0
OwesLoad u at.Reading r job left stage rest = IsLoading u r job left rest × (stage ≡ Asked)
OwesLoad u at.Read r job left stage rest = HasLoaded u r job left × (stage ≡ Asked) × (rest ≡ pings)
OwesLoad u other r job left stage rest = IsLoad u other r job left stage × Waits rest
