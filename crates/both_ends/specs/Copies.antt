-- A client that received what a session sent of a channel, and the channel's points.
use Rattle.std.specs.Prelude.{◌≡◌, ℕ, ℤ, true, false, List, ◌∷◌, ◌++◌, Some, None, fold, length, max, take}
use Rattle.server_config.specs.declared.config.Config.{Config}
use Rattle.channel_store.specs.Points.{past}
use Rattle.channel_store.specs.declared.subscription.Sub.{Sub}
use Rattle.client_core.specs.Asking.{begun}
use Rattle.client_core.specs.Laws.{since, stepped}
use Rattle.client_core.specs.Laws.{Event as ClientEvent}
use Rattle.client_core.specs.Notices.{copy_of}
use Rattle.session_core.specs.Arriving.{Event, Polls}
use Rattle.session_core.specs.Run.{Course, Heeds, run, takes}
use Rattle.etp_values.specs.Rising.{Rises}
use Rattle.session_core.specs.Streams.{HasIds, heard, is_spent_course}
use Rattle.session_core.specs.declared.state.Live.{Live}
use Rattle.session_core.specs.declared.state.Phase.TheVariants as phase
use Rattle.store_machine.specs.Channels.{channel_points}
use Rattle.store_machine.specs.Legal.{Legal}
use Rattle.store_machine.specs.declared.journal.Entry.{Entry}
use Rattle.subscribe_core.specs.Views.{sub_of}

-- A session, of which this is the course, has the subscription of the channel with all changes; and since a client, to which these events
-- happened from its beginning on, had its subscription of the channel last accepted, it received what the session has sent of the channel
-- since its last stop.
pub record IsHanded (r : Course) (moment : ℤ) (events : List ClientEvent) (channel : ℤ) (s : Sub) : Type 0 where
  pub stands : sub_of channel r.state.subs.subs ≡ Some s
  pub all : s.all ≡ true
  pub handed : since channel (begun moment) None events ≡ Some (heard channel r.sent).told

-- then the client's copy is the channel's points from the subscription's start on, at the session's cursor
abbrev pub HandedHasPoints : Type 0
HandedHasPoints = (config : Config) (n : ℕ) (h : List Entry) (places : List ℕ) (es : List Event) (moment : ℤ) (events : List ClientEvent) (channel : ℤ) (s : Sub)
    → Legal config h → HasIds config → Rises 0 places (length h)
    → let r = run config n h places es in
    is_spent_course r ≡ false → IsHanded r moment events channel s
    → copy_of channel (fold stepped (begun moment) events) ≡ Some (past s.start (channel_points channel (take (max s.from r.state.subs.cursor) h)))

-- if a poll then asks nothing, at the front that it reports
abbrev pub IdleHasPoints : Type 0
IdleHasPoints = (config : Config) (n : ℕ) (h : List Entry) (places : List ℕ) (before later : List Event) (front : ℕ) (moment : ℤ) (events : List ClientEvent) (channel : ℤ) (s : Sub)
    → Legal config h → HasIds config → Rises 0 places (length h) → Heeds config n h places (before ++ Polls front ∷ later)
    → let r = run config n h places before in
    (live : Live) → r.state.phase ≡ phase.Live live → (takes r.state (Polls front)).call ≡ None → IsHanded r moment events channel s
    → copy_of channel (fold stepped (begun moment) events) ≡ Some (past s.start (channel_points channel (take front h)))
