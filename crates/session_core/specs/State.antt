-- The state of a session.
use Rattle.std.specs.Prelude.{ℕ, ℤ, pos, Bool, List, [], Option, Some, None}
use Rattle.server_config.specs.declared.config.Config.{Config}
use Rattle.etp_frame.specs.Joining.{Awaited}
use Rattle.session_rows.specs.declared.formats.Format.{Format}
use Rattle.store_machine.specs.Starts.{natural}
use Rattle.subscribe_core.specs.Subscriptions.{Subbed, nothing}
use Rattle.tx_stage.specs.Staging.{Transaction}
use Rattle.session_core.specs.declared.state.Phase.{Phase}
use Rattle.session_core.specs.declared.state.Phase.TheVariants as phase
use Rattle.session_core.specs.declared.state.Live.TheVariants as live
use Rattle.session_core.specs.declared.state.Pending.{Pending}
use Rattle.session_core.specs.declared.state.Outgoing.{Outgoing}

-- what a session is between two calls
pub record State : Type 0 where
  -- the server's configuration, and the session's number: both stay
  pub config : Config
  pub number : ℕ
  pub phase : Phase
  -- the client's last accepted message id, 0 before the first
  pub last_id : ℤ
  -- the next own message id
  pub next_id : ℕ
  -- the protocols that were accepted, and the formats of objects
  pub accepted : List ℤ
  pub formats : List Format
  -- the maximum size of a part that is sent, in bytes, and how many blobs were sent
  pub limit : ℕ
  pub blobs : ℕ
  -- the open transaction, if any
  pub stage : Option Transaction
  -- how many transactions were started
  pub starts : ℕ
  -- the put that awaits chunks, if any
  pub joiner : Option Awaited
  -- the channels that are open, each by a flag
  pub opens : List Bool
  -- the subscriptions
  pub subs : Subbed
  -- the request that awaits the store's answer
  pub pending : Option Pending
  -- what is left to send, first message first
  pub out : List Outgoing

-- the state in which a session begins, with its first own message id
abbrev pub first_state : Config → ℕ → ℤ → State
first_state config number first_id = record {
  config = config;
  number = number;
  phase = phase.Live live.Waiting;
  last_id = pos 0;
  next_id = natural first_id;
  accepted = [];
  formats = [];
  limit = 16777216;
  blobs = 0;
  stage = None;
  starts = 0;
  joiner = None;
  opens = [];
  subs = nothing;
  pending = None;
  out = [];
}

-- the subscriptions of a session that has none yet
abbrev pub subbed : Option Subbed → Subbed
subbed None = nothing
subbed (Some v) = v
