-- The laws of the crates below that the proofs of this one rely on.
use Rattle.session_core.specs.Run.{RunIsSame, RunGoesOn}
use Rattle.session_core.specs.Serial.{RunIsSerial}
use Rattle.session_core.specs.Streams.{FrontIsStreamed, RunIsStreamed, RunIsToldAtIdle}
use Rattle.store_machine.specs.Laws.{EntriesAreTheSessions, CallsAddOne, CallsStay}

pub record Laws : Type 0 where
  -- runs
  pub same : RunIsSame
  pub next : RunGoesOn
  pub serial : RunIsSerial
  pub streams : RunIsStreamed
  pub idle : RunIsToldAtIdle
  pub fronts : FrontIsStreamed
  -- the entries of a session's calls
  pub mine : EntriesAreTheSessions
  pub one : CallsAddOne
  pub stay : CallsStay
