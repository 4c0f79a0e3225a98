-- A command from its first message to its last: how far it has come, and how it ended.
use Rattle.std.specs.Prelude.{◌≡◌, ◌≤◌, ◌<◌, ℕ, ℤ, true, List, ◌++◌, length, Option, None, Some, IfSome, Result, Ok, Err}
use Rattle.std.specs.Io.KnownBytes.{Appends}
use Rattle.channel_store.specs.declared.copy.ChangeMsg.{ChangeMsg}
use Rattle.client_core.specs.State.{State}
use Rattle.etp_outside.specs.Talk.{Talk}
use Rattle.etp_outside.specs.Told.{Told}
use Rattle.etp_outside.specs.declared.link.Item.{Item}
use Rattle.client_forms.specs.Ctl.{Course, Job, Stage, ctl}
use Rattle.etp_outside.specs.declared.whole.Unread.{Unread}
use Rattle.etp_outside.specs.declared.whole.Unread.TheVariants as unread
use Rattle.client_forms.specs.Top.{Front, Whole, max_file}
use Rattle.client_forms.specs.Work.{HasFailed, IsCause, IsLate, Outside, place}
use Rattle.etp_outside.specs.declared.status.Status.{Status}
use Rattle.etp_outside.specs.declared.status.Status.TheVariants as status
use Rattle.client_forms.specs.declared.stop.Cause.TheVariants as cause
use Rattle.client_forms.specs.declared.stop.Stop.{Stop}
use Rattle.client_forms.specs.declared.stop.Stop.TheVariants as stop

-- these items were taken, and these messages sent
pub record Talks (taken : List Item) (sent : List (List ℕ)) (a b : Talk) : Type 0 where
  pub took : b.taken ≡ a.taken ++ taken
  pub said : b.sent ≡ a.sent ++ sent
  pub to : b.to ≡ a.to

-- these moments were returned, items taken, messages sent, and bytes written
pub record Came (moments : List ℤ) (taken : List Item) (sent : List (List ℕ)) (written : List ℕ) (x y : Outside) : Type 0 where
  pub told : Told x.told y.told (λ xs ys. ys ≡ xs ++ moments)
  pub talked : Told x.line.talk y.line.talk (Talks taken sent)
  pub wrote : Appends x.output.held y.output.held written
  pub line : x.line.faults ≤ y.line.faults
  pub output : x.output.faults ≤ y.output.faults
  pub input : x.input.faults ≤ y.input.faults

-- a course that waits here
abbrev pub waiting : State → Stage → List ℤ → List (List ℕ) → List ℕ → Course
waiting s stage later sent written = record { at = place s stage; moments = later; sent = sent; written = written; status = None }

-- a command that waits
pub record Going (stands : Stage → Type 0) (shown : ℤ → List ChangeMsg → List ℕ) (job : Job) (s : State) (x y : Outside) : Type 0 where
  pub stage : Stage
  pub there : stands stage
  pub moments : List ℤ
  pub taken : List Item
  pub sent : List (List ℕ)
  pub written : List ℕ
  pub came : Came moments taken sent written x y
  pub course : (later : List ℤ) → ctl shown job (moments ++ later) taken ≡ waiting s stage later sent written

-- how a command stopped after these moments were returned, by its course: if it ended or waits, it does so whatever moments were to follow
abbrev pub EndsBy : Stop → List (List ℕ) → List ℕ → List ℤ → (List ℤ → Course) → Outside → Outside → Type 0
EndsBy (stop.Over st) sent written moments r x y = (later : List ℤ) → Whole later sent written (r (moments ++ later)) × ((r (moments ++ later)).status ≡ Some st)
EndsBy (stop.Short st) sent written moments r x y = Front sent written (r moments) × ((r moments).status ≡ Some st) × HasFailed x y × IsLate st
EndsBy (stop.Cut e) sent written moments r x y = Front sent written (r moments) × IsCause e x y
EndsBy stop.Left sent written moments r x y = ((later : List ℤ) → Whole later sent written (r (moments ++ later)) × ((r (moments ++ later)).status ≡ None)) × (y.line.ended ≡ true)

-- the status of a command that stopped
abbrev pub status_of : Stop → Status
status_of (stop.Over st) = st
status_of (stop.Short st) = st
status_of (stop.Cut cause.Link) = status.LinkFault
status_of (stop.Cut cause.Output) = status.WriteFault
status_of (stop.Cut cause.Input) = status.ReadFault
status_of (stop.Cut cause.Memory) = status.NoMemory
status_of stop.Left = status.Peer

-- a command that has stopped
pub record Ended (e : Stop) (shown : ℤ → List ChangeMsg → List ℕ) (job : Job) (x y : Outside) : Type 0 where
  pub moments : List ℤ
  pub taken : List Item
  pub sent : List (List ℕ)
  pub written : List ℕ
  pub came : Came moments taken sent written x y
  pub end : EndsBy e sent written moments (λ ms. ctl shown job ms taken) x y

-- what a turn results in
abbrev pub Turns : Result (Unit {0}) Stop → (Stage → Type 0) → (ℤ → List ChangeMsg → List ℕ) → Job → State → Outside → Outside → Type 0
Turns (Ok u) stands shown job s x y = Going stands shown job s x y
Turns (Err e) stands shown job s x y = Ended e shown job x y

-- why a file was not read
abbrev pub unread_status : Unread → Status
unread_status unread.TooLong = status.Limit
unread_status unread.Failed = status.ReadFault
unread_status unread.NoMemory = status.NoMemory

abbrev pub IsUnread : Status → Option (List ℕ) → Type 0
IsUnread status.Limit file = IfSome file (λ bytes. max_file < length bytes)
IsUnread status.ReadFault file = Unit {0}
IsUnread status.NoMemory file = Unit {0}
IsUnread st file = ⊥

-- the file of a name was read, or why not
abbrev pub ReadsFile : Result (List ℕ) Status → Option (List ℕ) → Type 0
ReadsFile (Ok payload) file = IfSome file (λ bytes. payload ≡ bytes) × (length payload ≤ max_file)
ReadsFile (Err st) file = IsUnread st file
