-- A notice of a session, and the change that its client returns.
use Rattle.std.specs.Prelude.{◌≡◌, ℕ, ℤ, pos, true, List, [], ◌∷◌, None, Ok, map}
use Rattle.channel_rows.specs.Notices.{notice_of}
use Rattle.channel_store.specs.declared.change.What.{What}
use Rattle.channel_store.specs.declared.copy.ChangeMsg.{ChangeMsg}
use Rattle.client_core.specs.Notices.{follows, is_live}
use Rattle.client_core.specs.State.{Heard}
use Rattle.client_core.specs.declared.got.Got.TheVariants as got
use Rattle.client_core.specs.declared.state.Phase.TheVariants as phase
use Rattle.client_laws.specs.Parts.{AreOfParts, AreRead, Given, Sent, at_last, given_by, given_by_bytes, left_by, left_by_bytes}
use Rattle.etp_frame.specs.Splitting.{parts}
use Rattle.etp_frame.specs.declared.header.Header.{Header}
use Rattle.etp_frame.specs.declared.message.Message.TheVariants as message
use Rattle.session_core.specs.Granting.{HasNews}

-- These are the parts of a session's notice of a change of a channel, which answers nothing, and the client's session is open, its
-- subscription of the channel is active, and it keeps no part of another message.
pub record IsNotice (limit number blobs : ℕ) (at channel : ℤ) (what : What) (h : Header) (sent : List Sent) (s : Heard) : Type 0 where
  pub news : HasNews what
  pub messages : map (λ x. x.1) sent ≡ parts limit number blobs (message.ChannelSubscribe (notice_of at channel what))
  pub headers : AreOfParts h s.last (map (λ x. x.0) sent)
  pub unasked : h.correlation ≡ pos 0
  pub begun : s.phase ≡ phase.Open
  pub free : s.kept ≡ None
  pub stands : is_live channel s.channels ≡ true

abbrev pub change_msg : ℤ → What → ChangeMsg
change_msg channel what = record { channel = channel; what = what }

-- the client with the change in the channel's copy
abbrev pub with_change : ℤ → Header → What → Heard → Heard
with_change channel h what s = record s { last = h.id; channels = follows s.channels (change_msg channel what) }

-- the last part returns this change and no other, and the parts before it nothing
abbrev pub one_change : ℤ → What → List Sent → List Given
one_change channel what sent = at_last (Ok (got.Change (change_msg channel what) ∷ [])) sent

-- after such a notice the client has the change in the channel's copy, and returns this change and no other
abbrev pub NoticesAreChanges : Type 0
NoticesAreChanges = (limit number blobs : ℕ) (at channel : ℤ) (what : What) (h : Header) (sent : List Sent) (s : Heard) → IsNotice limit number blobs at channel what h sent s
    → (left_by s sent ≡ with_change channel h what s) × (given_by s sent ≡ one_change channel what sent)

-- the same for the bytes of these parts
abbrev pub ReadNoticesAreChanges : Type 0
ReadNoticesAreChanges = (limit number blobs : ℕ) (at channel : ℤ) (what : What) (h : Header) (sent : List Sent) (s : Heard) (bytes : List (List ℕ)) → IsNotice limit number blobs at channel what h sent s → AreRead bytes sent
    → (left_by_bytes s bytes ≡ with_change channel h what s) × (given_by_bytes s bytes ≡ one_change channel what sent)
