-- What a command sends, writes and answers, by the items that its link took and the moments that its clock returned.
use Rattle.std.specs.Prelude.{ℕ, ℤ, negsuc, ◌-◌, ◌^◌, ◌==◌, Bool, true, false, List, [], ◌∷◌, ◌++◌, length, fold, if◌then◌else◌, Option, None, Some, Result, Ok, Err}
use Rattle.channel_store.specs.declared.copy.ChangeMsg.{ChangeMsg}
use Rattle.client_core.specs.Asking.{asked, begun}
use Rattle.client_core.specs.State.{State, first_state}
use Rattle.client_core.specs.Taking.{takes}
use Rattle.client_core.specs.declared.ask.Ask.{Ask}
use Rattle.client_core.specs.declared.ask.Ask.TheVariants as ask
use Rattle.client_core.specs.declared.got.ClientError.{ClientError}
use Rattle.client_core.specs.declared.got.ClientError.TheVariants as error
use Rattle.client_core.specs.declared.got.Got.{Got}
use Rattle.client_core.specs.declared.got.Got.TheVariants as got
use Rattle.etp_outside.specs.declared.link.Item.{Item}
use Rattle.etp_outside.specs.declared.link.Item.TheVariants.{Message, Idle}
use Rattle.etp_outside.specs.declared.status.Status.{Status}
use Rattle.etp_outside.specs.declared.status.Status.TheVariants as status
use Rattle.etp_values.specs.declared.point.Point.{Point}
use Rattle.etp_values.specs.declared.uri.StoreUri.{StoreUri}
use Rattle.point_lines.specs.Spelling.{lines_of}
use Rattle.client_forms.specs.Loading.{Filled, read_lines, filled, of_channel}
use Rattle.client_forms.specs.Texts.{change_lines, deleted_line, loaded_line, pong_line, put_line, space_lines}

-- a command with what it works on: an object's data, the lines of an input, a number of changes, an interval of indexes, a first index
pub data Job : Type 0 where
  Putting : (uri : StoreUri) → (payload : List ℕ) → Job
  Getting : (uri : StoreUri) → Job
  Loading : (uri : StoreUri) → (lines : List (List ℕ)) → Job
  Watching : (uri : StoreUri) → (count : ℕ) → Job
  Pinging : Job
  Listing : Job
  Ranging : (uri : StoreUri) → (from to : ℤ) → Job
  Deleting : (uri : StoreUri) → Job
  Following : (uri : StoreUri) → (start : ℤ) → Job

-- what a command waits for
pub data Stage : Type 0 where
  -- the session to be open
  Opening : Stage
  -- the answer to the first ask after that
  Asked : Stage
  -- the Pong after all points
  Loaded : Stage
  -- further changes of this channel; these were fed to the views
  Watched : (channel : ℤ) → (fed : List ChangeMsg) → Stage
  -- the points of a channel of this kind
  Ranged : (kind : ℕ) → Stage
  -- further changes, which are written
  Followed : Stage

-- where a command is
pub record Place : Type 0 where
  pub client : State
  pub stage : Stage

-- how far a command has come
pub record Course : Type 0 where
  pub at : Place
  -- the moments that are left for further asks
  pub moments : List ℤ
  -- the messages that were sent, and the bytes that were written
  pub sent : List (List ℕ)
  pub written : List ℕ
  -- how it ended, if it has
  pub status : Option Status

-- ---- what a command does

abbrev pub ends : Status → Course → Course
ends st c = record c { status = Some st }

abbrev pub writes : List ℕ → Course → Course
writes bytes c = record c { written = c.written ++ bytes }

abbrev pub comes_to : Stage → Course → Course
comes_to stage c = record c { at = record c.at { stage = stage } }

abbrev pub with_client : State → Course → Course
with_client s c = record c { at = record c.at { client = s } }

-- nothing is left to send
abbrev pub drained : State → State
drained s = record s { out = [] }

-- all that the client has to send is sent
abbrev pub sends : State → Course → Course
sends s c = record (with_client (drained s) c) { sent = c.sent ++ s.out }

-- an ask that the client refuses ends the command
abbrev pub by_ask : Result ℤ ClientError → State → Course → Course
by_ask (Ok id) s c = sends s c
by_ask (Err e) s c = ends status.Limit (with_client s c)

-- an ask takes a moment; if none is left nothing happens
abbrev pub asks_at : Ask → List ℤ → Course → Course
asks_at a [] c = c
asks_at a (t ∷ ts) c = let s = asked c.at.client a t in by_ask s.result s.state (record c { moments = ts })

-- a command that has ended asks no more
abbrev pub asks_if : Option Status → Ask → Course → Course
asks_if None a c = asks_at a c.moments c
asks_if (Some st) a c = c

abbrev pub asks : Ask → Course → Course
asks a c = asks_if c.status a c

-- how a command ends whose client can't close the session: what was done well has met a limit, and an earlier cause takes precedence
abbrev pub unclosed : Status → Status
unclosed status.Done = status.Limit
unclosed st = st

abbrev pub by_close : Status → Result ℤ ClientError → State → Course → Course
by_close st (Ok id) s c = ends st (sends s c)
by_close st (Err e) s c = ends (unclosed st) (with_client s c)

abbrev pub closes_at : Status → List ℤ → Course → Course
closes_at st [] c = c
closes_at st (t ∷ ts) c = let s = asked c.at.client ask.Close t in by_close st s.result s.state (record c { moments = ts })

-- the session is closed, and the command ends with this status
abbrev pub closes : Status → Course → Course
closes st c = closes_at st c.moments c

-- whether the session is still to be opened
abbrev pub is_opening : Stage → Bool
is_opening Opening = true
is_opening Asked = false
is_opening Loaded = false
is_opening (Watched channel fed) = false
is_opening (Ranged kind) = false
is_opening Followed = false

-- the same for a session that may not be open yet: then there is none to close
abbrev pub breaks : Status → Course → Course
breaks st c = if is_opening c.at.stage then ends st c else closes st c

-- ---- loading

abbrev pub loads_one : ℤ → Course → List Point → Course
loads_one channel c ps = asks (ask.Load (of_channel channel ps)) c

abbrev pub loads_all : ℤ → List (List Point) → Course → Course
loads_all channel messages c = fold (loads_one channel) c messages

abbrev pub loads_last : ℤ → List Point → Course → Course
loads_last channel [] c = c
loads_last channel (p ∷ ps) c = loads_one channel c (p ∷ ps)

-- an earlier status is kept
abbrev pub ends_if : Option Status → Status → Course → Course
ends_if None st c = ends st c
ends_if (Some other) st c = c

abbrev pub ends_first : Status → Course → Course
ends_first st c = ends_if c.status st c

-- a Ping is sent, unless the command has ended
abbrev pub pings_if : Option Status → Course → Course
pings_if None c = asks ask.Ping (comes_to Loaded c)
pings_if (Some st) c = c

abbrev pub pings : Course → Course
pings c = pings_if c.status c

-- all points are sent, and then a Ping; if a line was refused, the message that is still open is not sent
abbrev pub loads : ℤ → Option Status → Filled → Course → Course
loads channel None f c = pings (loads_last channel f.last (loads_all channel f.closed c))
loads channel (Some st) f c = ends_first st (loads_all channel f.closed c)

-- lines are loaded from the one of this number on, if the open message has these points
abbrev pub loads_from : ℤ → ℕ → ℕ → List Point → List (List ℕ) → Course → Course
loads_from channel kind n held lines c = let r = read_lines kind n lines in loads channel r.refused (filled held r.points) c

-- ---- the beginning

-- a command before its first moment
abbrev pub fresh : List ℤ → Course
fresh moments = record { at = record { client = first_state; stage = Opening }; moments = moments; sent = []; written = []; status = None }

-- the session is asked for at the first moment
abbrev pub starts : List ℤ → Course
starts [] = fresh []
starts (t ∷ ts) = sends (begun t) (fresh ts)

-- ---- what happens

-- the lowest index
abbrev pub from_first : ℤ
from_first = negsuc (2 ^ 62 - 1)

-- what a command asks first once the session is open
abbrev pub first_ask : Job → Ask
first_ask (Putting u bytes) = ask.Put u bytes
first_ask (Getting u) = ask.Get u
first_ask (Loading u lines) = ask.OpenChannel u
first_ask (Watching u count) = ask.Meta u
first_ask Pinging = ask.Ping
first_ask Listing = ask.Spaces
first_ask (Ranging u from to) = ask.Meta u
first_ask (Deleting u) = ask.Delete u
first_ask (Following u start) = ask.Meta u

-- lines are written and the session is closed; without them the command meets a limit: no line can denote one of the points
abbrev pub shows_all : Option (List ℕ) → Course → Course
shows_all None c = ends status.Limit c
shows_all (Some text) c = closes status.Done (writes text c)

-- `shown` are the lines of the views of a channel that were fed these changes
module _ (shown : ℤ → List ChangeMsg → List ℕ) where
  -- one more change was fed; after the last one the views are shown
  abbrev pub feeds : ℕ → ℤ → List ChangeMsg → Course → Course
  feeds count channel fed c =
      if length fed == count then closes status.Done (writes (shown channel fed) (comes_to (Watched channel fed) c)) else comes_to (Watched channel fed) c

  -- what a command does with an answer that it waits for; with any other it does nothing
  abbrev pub goes_by : Job → Stage → Got → Course → Course
  goes_by job Opening (got.Opened x) c = asks (first_ask job) (comes_to Asked c)
  goes_by (Putting u bytes) Asked (got.Done id) c = closes status.Done (writes (put_line u) c)
  goes_by (Getting u) Asked (got.Object id bytes) c = closes status.Done (writes bytes c)
  goes_by (Loading u lines) Asked (got.Meta id channel kind) c = loads_from channel kind 1 [] lines c
  goes_by (Loading u lines) Loaded (got.Pong t) c = closes status.Done (writes (loaded_line (length lines)) c)
  goes_by (Watching u count) Asked (got.Meta id channel kind) c = asks (ask.Subscribe channel from_first) (comes_to (Watched channel []) c)
  goes_by (Watching u count) (Watched channel fed) (got.Change x) c = feeds count channel (fed ++ x ∷ []) c
  goes_by Pinging Asked (got.Pong t) c = closes status.Done (writes (pong_line t) c)
  goes_by Listing Asked (got.Spaces id spaces) c = closes status.Done (writes (space_lines spaces) c)
  goes_by (Deleting u) Asked (got.Done id) c = closes status.Done (writes (deleted_line u) c)
  goes_by (Ranging u from to) Asked (got.Meta id channel kind) c = asks (ask.Range channel from to) (comes_to (Ranged kind) c)
  goes_by (Ranging u from to) (Ranged kind) (got.Points id points) c = shows_all (lines_of kind points) c
  goes_by (Following u start) Asked (got.Meta id channel kind) c = asks (ask.Subscribe channel start) (comes_to Followed c)
  goes_by (Following u start) Followed (got.Change x) c = writes (change_lines x.what) c
  goes_by job stage g c = c

  -- the lines of the views, if there are any
  abbrev pub showing : Stage → List ℕ
  showing (Watched channel fed) = shown channel fed
  showing stage = []

module _ (shown : ℤ → List ChangeMsg → List ℕ) (job : Job) where
  -- answers that come once the command has ended change nothing
  abbrev pub goes_if : Option Status → Got → Course → Course
  goes_if None g c = goes_by shown job c.at.stage g c
  goes_if (Some st) g c = c

  abbrev pub goes_on : Course → Got → Course
  goes_on c g = goes_if c.status g c

  abbrev pub hears : Result (List Got) ClientError → Course → Course
  hears (Ok gots) c = fold goes_on c gots
  hears (Err (error.Refused id code)) c = breaks (status.Refused code) c
  hears (Err (error.Stopped reason)) c = breaks status.Stopped (writes (showing shown c.at.stage) c)
  hears (Err e) c = ends status.Peer c

  abbrev pub takes_message : List ℕ → Course → Course
  takes_message bytes c = let s = takes c.at.client bytes in hears s.result (with_client s.state c)

  abbrev pub happens_if : Option Status → Item → Course → Course
  happens_if (Some st) item c = c
  happens_if None (Message bytes) c = takes_message bytes c
  happens_if None Idle c = c

  abbrev pub happens : Course → Item → Course
  happens c item = happens_if c.status item c

  -- the whole course
  abbrev pub ctl : List ℤ → List Item → Course
  ctl moments items = fold happens (starts moments) items
