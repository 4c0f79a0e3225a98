-- A put or a chunk that a joiner refuses.
use Rattle.std.specs.Prelude.{ℤ, Err, None, ◌≡◌}
use Rattle.std.proofs.Common.{ap}
use Rattle.etp_frame.specs.Joining.{joins}
use Rattle.etp_frame.specs.declared.header.Header.{Header}
use Rattle.etp_frame.specs.declared.joining.JoinError.{JoinError}
use Rattle.etp_frame.specs.declared.message.Message.TheVariants as message
use Rattle.msg_store.specs.declared.store_messages.StoreMessage.{StoreMessage}
use Rattle.session_core.specs.Arriving.{request_of}
use Rattle.session_core.specs.Machine.{join_code, no_call, on_join, on_joined, put_request, refuses}
use Rattle.session_core.specs.State.{State}

pub refused : (h : Header) (moment : ℤ) (m : StoreMessage) (e : JoinError) (s : State) → joins s.joiner h (message.Store m) ≡ Err e
    → on_join h moment m s ≡ no_call (refuses (request_of h) (join_code e) (record s { joiner = None }))
refused h moment m e s is = ap (λ j. on_joined h moment (put_request h s.joiner) j s) is
