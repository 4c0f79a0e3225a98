-- What a session sends of changes, and what its client returns.
use Rattle.std.specs.Prelude.{◌≡◌, ℕ, pos, true, false, List, [], ◌∷◌, ◌++◌, None, Result, Ok, Err, map}
use Rattle.std.specs.List.{AllByRecursion}
use Rattle.channel_rows.specs.Notices.{notice}
use Rattle.channel_store.specs.declared.change.ChannelChange.{ChannelChange}
use Rattle.channel_store.specs.declared.copy.ChangeMsg.{ChangeMsg}
use Rattle.client_core.specs.Notices.{follow_all, is_live}
use Rattle.client_core.specs.State.{Heard}
use Rattle.client_core.specs.Taking.{is_fresh}
use Rattle.client_core.specs.declared.got.ClientError.{ClientError}
use Rattle.client_core.specs.declared.got.Got.{Got}
use Rattle.client_core.specs.declared.got.Got.TheVariants as got
use Rattle.client_core.specs.declared.state.Phase.TheVariants as phase
use Rattle.client_laws.specs.Parts.{Given, Sent, given_by, left_by}
use Rattle.etp_frame.specs.declared.message.Message.TheVariants as message
use Rattle.session_core.specs.Granting.{HasNews}
use Rattle.session_core.specs.Replies.{sayings_of}
use Rattle.session_core.specs.Sending.{cut_all, is_spent, numbered}
use Rattle.session_core.specs.declared.state.Outgoing.{Outgoing}
use Rattle.session_core.specs.declared.state.Part.{Part}
use Rattle.session_core.specs.declared.state.Request.{Request}
use Rattle.both_ends.specs.Notices.{change_msg}

-- the parts of the notices of changes
abbrev pub news_parts : ℕ → ℕ → ℕ → List ChannelChange → List Part
news_parts limit number blobs changes = cut_all limit number blobs (sayings_of message.ChannelSubscribe (map notice changes))

-- these as a session sends them, with its next own id
abbrev pub news_sent : Request → ℕ → ℕ → ℕ → ℕ → List ChannelChange → List Sent
news_sent r limit number blobs id changes = map (λ (o : Outgoing). (o.header, o.message)) (numbered r id (news_parts limit number blobs changes))

-- after what was returned before
abbrev pub behind : List Got → Result (List Got) ClientError → Result (List Got) ClientError
behind gots (Ok more) = Ok (gots ++ more)
behind gots (Err e) = Err e

abbrev pub with_more : Given → Result (List Got) ClientError → Result (List Got) ClientError
with_more (Ok gots) more = behind gots more
with_more (Err e) more = Err e

-- all that messages return, or the first refusal
abbrev pub all_given : List Given → Result (List Got) ClientError
all_given [] = Ok []
all_given (g ∷ gs) = with_more g (all_given gs)

abbrev pub msg_of : ChannelChange → ChangeMsg
msg_of c = change_msg c.channel c.what

-- a session has ids for the notices of these changes, and a client's session is open, it keeps no part of a message, the next id is a fresh
-- one, and its subscription of each of the channels is active
pub record IsTold (limit number blobs id : ℕ) (changes : List ChannelChange) (s : Heard) : Type 0 where
  pub reach : is_spent id (news_parts limit number blobs changes) ≡ false
  pub fresh : is_fresh s.last (pos id) ≡ true
  pub begun : s.phase ≡ phase.Open
  pub free : s.kept ≡ None
  pub stand : AllByRecursion (λ (c : ChannelChange). HasNews c.what × (is_live c.channel s.channels ≡ true)) changes

-- then it returns exactly these changes in their order, and takes them into its copies; nothing else of it changes, except for the last id
abbrev pub NewsAreHandedOn : Type 0
NewsAreHandedOn = (r : Request) (limit number blobs id : ℕ) (changes : List ChannelChange) (s : Heard) → IsTold limit number blobs id changes s
    → let sent = news_sent r limit number blobs id changes in
    (all_given (given_by s sent) ≡ Ok (map got.Change (map msg_of changes)))
    × (left_by s sent ≡ record s { last = (left_by s sent).last; channels = follow_all s.channels (map msg_of changes) })
