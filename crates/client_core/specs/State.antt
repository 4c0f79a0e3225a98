-- The state of a client.
use Rattle.std.specs.Prelude.{ℕ, ℤ, pos, Bool, true, false, List, [], Option, None, Result}
use Rattle.etp_frame.specs.Joining.{Awaited}
use Rattle.client_core.specs.declared.got.ClientError.{ClientError}
use Rattle.client_core.specs.declared.state.Asked.{Asked}
use Rattle.client_core.specs.declared.state.Channel.{Channel}
use Rattle.client_core.specs.declared.state.Kept.{Kept}
use Rattle.client_core.specs.declared.state.Phase.{Phase}
use Rattle.client_core.specs.declared.state.Phase.TheVariants as phase

-- what a client is between two messages that it takes
pub record Heard : Type 0 where
  pub phase : Phase
  -- the server's last message id, 0 before the first
  pub last : ℤ
  -- the asks that wait for their answers, by their ids
  pub asks : List Asked
  -- the channels that were subscribed to, each with its copy
  pub channels : List Channel
  -- the objects that await their chunks, if any
  pub joiner : Option Awaited
  -- the parts so far of a message of which the last has not come, if any, put together
  pub kept : Option Kept

-- what a client is between two calls
pub record State : Type 0 where
  pub heard : Heard
  -- the next own message id
  pub next : ℕ
  -- how many blobs were sent
  pub blobs : ℕ
  -- the messages that are left to send, first message first
  pub out : List (List ℕ)

-- what a call leaves, and what it answers
pub record Step (S A : Type 0) : Type 0 where
  pub state : S
  pub result : Result A ClientError

abbrev pub first_heard : Heard
first_heard = record { phase = phase.Waiting; last = pos 0; asks = []; channels = []; joiner = None; kept = None }

-- the state in which nothing was sent yet
abbrev pub first_state : State
first_state = record { heard = first_heard; next = 2; blobs = 0; out = [] }

-- the session is open
abbrev pub is_open : Phase → Bool
is_open phase.Waiting = false
is_open phase.Open = true
is_open phase.Ended = false

-- the client has ended
abbrev pub is_ended : Phase → Bool
is_ended phase.Waiting = false
is_ended phase.Open = false
is_ended phase.Ended = true

-- the state of a client that has ended
abbrev pub ended : State → State
ended s = record s { heard = record s.heard { phase = phase.Ended } }
