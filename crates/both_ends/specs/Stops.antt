-- The end of subscriptions that a session sends, and what its client makes of it.
use Rattle.std.specs.Prelude.{◌≡◌, ℕ, ℤ, List, None, Err, map}
use Rattle.std.specs.Map.{values_of}
use Rattle.channel_rows.specs.Notices.{reason_of, stop_response}
use Rattle.client_core.specs.Notices.{stopped}
use Rattle.client_core.specs.State.{Heard}
use Rattle.client_core.specs.declared.got.ClientError.TheVariants as error
use Rattle.client_core.specs.declared.state.Phase.TheVariants as phase
use Rattle.client_laws.specs.Parts.{AreOfParts, Rise, Sent, at_last, given_by, left_by}
use Rattle.etp_frame.specs.Splitting.{parts}
use Rattle.etp_frame.specs.declared.header.Header.{Header}
use Rattle.etp_frame.specs.declared.message.Message.TheVariants as message
use Rattle.subscribe_core.specs.declared.stop.StopCause.{StopCause}

-- These are the parts of the message by which a session ends the subscriptions of these channels, and the client's session is open
-- and it keeps no part of another message.
pub record IsStop (limit number blobs : ℕ) (cause : StopCause) (ids : List (List ℕ × ℤ)) (h : Header) (sent : List Sent) (s : Heard) : Type 0 where
  pub messages : map (λ x. x.1) sent ≡ parts limit number blobs (message.ChannelSubscribe (stop_response cause ids))
  pub headers : AreOfParts h s.last (map (λ x. x.0) sent)
  pub rise : Rise ids
  pub begun : s.phase ≡ phase.Open
  pub free : s.kept ≡ None

-- then the last part says why, and from there on the client's subscriptions of these channels are not active, and no others change; each
-- copy is kept as it is
abbrev pub StopsAreTold : Type 0
StopsAreTold = (limit number blobs : ℕ) (cause : StopCause) (ids : List (List ℕ × ℤ)) (h : Header) (sent : List Sent) (s : Heard) → IsStop limit number blobs cause ids h sent s
    → (left_by s sent ≡ record s { last = h.id; channels = stopped (values_of ids) s.channels }) × (given_by s sent ≡ at_last (Err (error.Stopped (reason_of cause))) sent)
