-- What one event does, to what its pass knows, to the session, and over the link.
use Rattle.std.specs.Prelude.{◌≡◌, ◌⊎◌, ℕ, ℤ, List, [], ◌++◌, map, Option, None, Some}
use Rattle.server_config.specs.declared.config.Config.{Config}
use Rattle.store_machine.specs.declared.call.StoreCall.{StoreCall}
use Rattle.store_machine.specs.declared.call.Answer.{Answer}
use Rattle.etp_outside.specs.Told.{Told}
use Rattle.etp_outside.specs.Talk.{Talk}
use Rattle.etp_outside.specs.declared.link.Sent.{Sent}
use Rattle.etp_outside.specs.declared.link.Sent.TheVariants as send
use Rattle.session_core.specs.Run.{hears, drained}
use Rattle.session_core.specs.Session.{bytes_of, end_of}
use Rattle.session_core.specs.State.{State}
use Rattle.session_core.specs.declared.state.Outgoing.{Outgoing}
use Rattle.session_core.specs.declared.state.End.{End}
use Rattle.session_core.specs.declared.state.End.TheVariants as ending
use Rattle.store_hub.specs.Words.{Known}
use Rattle.store_hub.specs.Notes.{Answers, Refuses}
use Rattle.etp_serve.specs.Talks.{Talked}
use Rattle.etp_serve.specs.declared.ended.Ended.{Ended}
use Rattle.etp_serve.specs.declared.ended.Ended.TheVariants.{Closed, Refused, IdsSpent, PeerEnd, LinkFault, NoMemory}
use Rattle.etp_serve.specs.declared.steps.Asked.{Asked}

-- ---- the call

module _ (config : Config) (n nth : ℕ) (at : ℤ) where
  -- the session took the answer to its call, if it has one
  abbrev pub Settles : Option StoreCall → Known → Known → State → State → Type 0
  Settles None v w s t = (w ≡ v) × (t ≡ s)
  Settles (Some call) v w s t = (a : Answer) × Answers config n nth at call v a w × (t ≡ hears s a)

  -- there was no memory for the answer, or none for the session to take it
  abbrev pub Breaks : Option StoreCall → Known → Known → Type 0
  Breaks None v w = ⊥
  Breaks (Some call) v w = Refuses n v w ⊎ ((a : Answer) × Answers config n nth at call v a w)

-- ---- sending

-- some of the first messages were sent
pub record SendsFront (out : List Outgoing) (a b : Option Talk) : Type 0 where
  pub front : List Outgoing
  pub rest : List Outgoing
  pub whole : front ++ rest ≡ out
  pub talk : Told a b (Talked [] (map bytes_of front))

-- what draining the session does, by how it ended
abbrev pub Drains : Sent → State → State → Option Talk → Option Talk → Type 0
Drains send.Done s t a b = (t ≡ drained s) × Told a b (Talked [] (map bytes_of s.out))
Drains send.Failed s t a b = SendsFront s.out a b
Drains send.NoMemory s t a b = SendsFront s.out a b

-- ---- a whole event

module _ (config : Config) (n nth : ℕ) (asked : Asked) (v w : Known) (s t : State) (a b : Option Talk) where
  -- the call was answered, and all that the session had to send was sent
  pub record Does : Type 0 where
    pub mid : State
    pub settles : Settles config n nth asked.at asked.call v w s mid
    pub state : t ≡ drained mid
    pub talk : Told a b (Talked [] (map bytes_of mid.out))

module _ (config : Config) (n nth : ℕ) (asked : Asked) (v w : Known) (s : State) (a b : Option Talk) where
  -- the call was answered, and a part of what the session had to send was sent
  pub record Cuts : Type 0 where
    pub mid : State
    pub settles : Settles config n nth asked.at asked.call v w s mid
    pub talk : SendsFront mid.out a b

  -- the event was done, and the session has ended this way
  pub record Finishes (end : End) : Type 0 where
    pub after : State
    pub does : Does config n nth asked v w s after a b
    pub ends : end_of after.phase ≡ Some end

  -- the session was served no further
  abbrev pub Stops : Ended → Type 0
  Stops Closed = Finishes ending.Closed
  Stops (Refused code) = Finishes (ending.Refused code)
  Stops IdsSpent = Finishes ending.IdsSpent
  Stops PeerEnd = ⊥
  Stops LinkFault = Cuts
  Stops NoMemory = (Breaks config n nth asked.at asked.call v w × Told a b (Talked [] [])) ⊎ Cuts
