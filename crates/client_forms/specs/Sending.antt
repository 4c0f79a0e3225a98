-- What sending leaves.
use Rattle.std.specs.Prelude.{◌≡◌, ℕ, List, ◌++◌, Option, Result, Ok, Err}
use Rattle.client_core.specs.State.{State}
use Rattle.client_core.specs.declared.got.ClientError.{ClientError}
use Rattle.client_core.specs.declared.got.ClientError.TheVariants as error
use Rattle.etp_outside.specs.Faults.{Rose}
use Rattle.etp_outside.specs.Talk.{Talk}
use Rattle.etp_outside.specs.Told.{Told}
use Rattle.etp_outside.specs.declared.status.Status.{Status}
use Rattle.etp_outside.specs.declared.status.Status.TheVariants as status
use Rattle.etp_outside.specs.declared.whole.Written.{Written}
use Rattle.etp_outside.specs.declared.whole.Written.TheVariants as written
use Rattle.client_forms.specs.Ctl.{drained, unclosed}
use Rattle.client_forms.specs.Work.{Says}
use Rattle.client_forms.specs.declared.stop.Cause.{Cause}
use Rattle.client_forms.specs.declared.stop.Cause.TheVariants as cause
use Rattle.client_forms.specs.declared.stop.Stop.{Stop}
use Rattle.client_forms.specs.declared.stop.Stop.TheVariants as stop

-- a front of the messages was sent
pub record SendsFront (messages : List (List ℕ)) (x y : Option Talk) : Type 0 where
  pub front : List (List ℕ)
  pub rest : List (List ℕ)
  pub whole : front ++ rest ≡ messages
  pub said : Told x y (Says front)

-- of the messages of a client a front was sent, and it has the others left
pub record Sending (s t : State) (x y : Option Talk) : Type 0 where
  pub front : List (List ℕ)
  pub whole : front ++ t.out ≡ s.out
  pub same : drained t ≡ drained s
  pub said : Told x y (Says front)

-- the client's messages were sent, or a front of them
abbrev pub SendsAll : Result (Unit {0}) Cause → State → State → Option Talk → Option Talk → Type 0
SendsAll (Ok u) s t x y = (t ≡ drained s) × Told x y (Says s.out)
SendsAll (Err e) s t x y = SendsFront s.out x y

-- a link that did not take a message has failed, or memory ran out
abbrev pub SendCause : Result (Unit {0}) Cause → ℕ → ℕ → Type 0
SendCause (Ok u) before now = Unit {0}
SendCause (Err cause.Link) before now = Rose before now
SendCause (Err cause.Output) before now = ⊥
SendCause (Err cause.Input) before now = ⊥
SendCause (Err cause.Memory) before now = Unit {0}

-- what becomes of an ask that the client did
abbrev pub sent_by : Result (Unit {0}) Cause → Result (Unit {0}) Stop
sent_by (Ok u) = Ok u
sent_by (Err e) = Err (stop.Cut e)

-- what becomes of bytes that the command writes
abbrev pub written_by : Written → Result (Unit {0}) Stop
written_by written.Done = Ok tt
written_by written.Failed = Err (stop.Cut cause.Output)

-- why a command stops whose ask the client refuses
abbrev pub refused_by : ClientError → Stop
refused_by error.NoMemory = stop.Cut cause.Memory
refused_by e = stop.Over status.Limit

-- how a command stops that is to end with a status, if its last message was not sent: an earlier cause takes precedence
abbrev pub short_by : Status → Cause → Stop
short_by st cause.Memory = stop.Cut cause.Memory
short_by st e = stop.Short st

abbrev pub unsent_by : Status → Cause → Stop
unsent_by status.Done e = stop.Cut e
unsent_by st e = short_by st e

-- how it stops, by what came of its last message
abbrev pub closed_by : Status → Result (Unit {0}) Cause → Stop
closed_by st (Ok u) = stop.Over st
closed_by st (Err e) = unsent_by st e

-- the same if the client could not close the session
abbrev pub unclosed_by : Status → ClientError → Stop
unclosed_by st error.NoMemory = stop.Cut cause.Memory
unclosed_by st e = stop.Over (unclosed st)

-- how a command stops that could not write everything that it was to show
abbrev pub shortened : Stop → Stop
shortened (stop.Over st) = stop.Short st
shortened e = e
