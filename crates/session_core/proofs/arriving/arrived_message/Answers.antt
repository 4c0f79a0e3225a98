use Rattle.std.proofs.Common.{Ok, Err, sym, ◌∙◌, ap, to_z, of_z, w64}
use Rattle.std.proofs.lemmas.Int.{to_z-of_z}
use Rattle.etp_frame.proofs.FaultLemmas.{fault_not_memory}
use Rattle.session_core.specs.Arriving.{error_event, message_event}
use Rattle.session_core.proofs.ArrivingLemmas.{arrived_read}
use Rattle.session_core.proofs.arriving.arrived_message.Goals as goal

pub returns-in-Ok : goal.returns-in-Ok
returns-in-Ok c =
    c.message_event.ensures
    ∙ ap (λ z. message_event z (to_z w64 (of_z w64 c.args.moment)) c.in-Ok.header c.in-Ok.message) (to_z-of_z w64 c.args.last_id c.ranges.last_id)
    ∙ ap (λ z. message_event c.args.last_id z c.in-Ok.header c.in-Ok.message) (to_z-of_z w64 c.args.moment c.ranges.moment)
    ∙ sym (arrived_read c.args.last_id c.args.moment c.args.bytes.now (Ok (c.in-Ok.header, c.in-Ok.message)) c.if-bytes-gt-MAX_MESSAGE_LEN.false c.in-Ok.ensures.gives)

pub returns-in_ok-arrived-in-Err : goal.returns-in_ok-arrived-in-Err
returns-in_ok-arrived-in-Err c =
    c.in_ok-arrived-in-Err.ensures.value
    ∙ ap (λ z. error_event z c.in-Err.error) (to_z-of_z w64 c.args.last_id c.ranges.last_id)
    ∙ sym (arrived_read c.args.last_id c.args.moment c.args.bytes.now (Err c.in-Err.error) c.if-bytes-gt-MAX_MESSAGE_LEN.false (c.in-Err.ensures.gives (fault_not_memory c.in-Err.error c.in_ok-arrived-in-Err.ensures.fault)))
