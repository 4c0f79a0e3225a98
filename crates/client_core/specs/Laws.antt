-- What a client's copies are, whatever it asks and takes.
use Rattle.std.specs.Prelude.{◌≡◌, ℕ, ℤ, Bool, false, List, [], ◌∷◌, ◌++◌, Option, Some, None, option_map, Result, Ok, Err, fold, if◌then◌else◌}
use Rattle.std.specs.List.{flat_map, list_any}
use Rattle.std.specs.Ordering.{int_eq}
use Rattle.channel_store.specs.Points.{copy}
use Rattle.channel_store.specs.declared.change.What.{What}
use Rattle.channel_store.specs.declared.copy.ChangeMsg.{ChangeMsg}
use Rattle.client_core.specs.Answers.{due_at}
use Rattle.client_core.specs.Asking.{asked, begun}
use Rattle.client_core.specs.Notices.{copy_of}
use Rattle.client_core.specs.State.{State}
use Rattle.client_core.specs.Taking.{takes}
use Rattle.client_core.specs.declared.ask.Ask.{Ask}
use Rattle.client_core.specs.declared.got.ClientError.{ClientError}
use Rattle.client_core.specs.declared.got.Got.{Got}
use Rattle.client_core.specs.declared.got.Got.TheVariants as got
use Rattle.client_core.specs.declared.state.Asked.{Asked}
use Rattle.client_core.specs.declared.state.Due.{Due}
use Rattle.client_core.specs.declared.state.Due.TheVariants as due

-- what happens to a client: an ask at a moment, or a message
pub data Event : Type 0 where
  Asks : (ask : Ask) (moment : ℤ) → Event
  Takes : (bytes : List ℕ) → Event

-- the state after an event
abbrev pub stepped : State → Event → State
stepped s (Asks a moment) = (asked s a moment).state
stepped s (Takes bytes) = (takes s bytes).state

-- an ask waits for the subscription of this channel
abbrev pub is_subscription : ℤ → Option Due → Bool
is_subscription channel (Some (due.Subscription c)) = int_eq c channel
is_subscription channel _ = false

-- an answer says that the channel's subscription is accepted
abbrev pub accepts : ℤ → List Asked → Got → Bool
accepts channel asks (got.Done id) = is_subscription channel (due_at id asks)
accepts channel asks _ = false

-- what is returned about a channel
abbrev pub change_of : ℤ → ChangeMsg → List What
change_of channel c = if int_eq c.channel channel then c.what ∷ [] else []

abbrev pub told_of : ℤ → Got → List What
told_of channel (got.Change c) = change_of channel c
told_of channel _ = []

-- The changes of a channel that were returned since its subscription was last accepted, with what a message returns to a client with these
-- open asks.
abbrev pub handed : ℤ → List Asked → Option (List What) → Result (List Got) ClientError → Option (List What)
handed channel asks before (Ok gots) = if list_any (accepts channel asks) gots then Some [] else option_map (λ ws. ws ++ flat_map (told_of channel) gots) before
handed channel asks before (Err e) = before

-- the same with an event
abbrev pub since_event : ℤ → State → Option (List What) → Event → Option (List What)
since_event channel s before (Asks a moment) = before
since_event channel s before (Takes bytes) = handed channel s.heard.asks before (takes s bytes).result

-- the same with events
abbrev pub since : ℤ → State → Option (List What) → List Event → Option (List What)
since channel s before [] = before
since channel s before (e ∷ es) = since channel (stepped s e) (since_event channel s before e) es

-- Whatever happens, a channel's copy is what the changes leave that were returned since its subscription was last accepted; before that
-- there is none.
abbrev pub CopiesAreFolds : Type 0
CopiesAreFolds = (channel moment : ℤ) (es : List Event) → copy_of channel (fold stepped (begun moment) es) ≡ option_map copy (since channel (begun moment) None es)
