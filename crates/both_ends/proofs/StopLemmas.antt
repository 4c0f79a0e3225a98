-- The end of subscriptions as a client takes it.
use Rattle.std.proofs.Common.{◌≡◌, ℕ, ℤ, true, false, List, None, Err, map, refl, sym, ap, subst, ◌∙◌}
use Rattle.std.specs.Map.{values_of}
use Rattle.channel_rows.specs.Notices.{reason_of, stop_response}
use Rattle.client_core.specs.Joining.{grown, is_broken}
use Rattle.client_core.specs.Notices.{stopped}
use Rattle.client_core.specs.State.{Heard}
use Rattle.client_core.specs.Taking.{Taken, may_come, on_read, on_whole}
use Rattle.client_core.specs.declared.got.ClientError.TheVariants as error
use Rattle.client_laws.specs.Parts.{IsFree, PartsAreJoined, Sent, Splits, at_last}
use Rattle.client_laws.proofs.TakenLemmas.{ends_fresh, on_part_of}
use Rattle.etp_frame.specs.declared.header.Header.{Header}
use Rattle.etp_frame.specs.declared.message.Message.{Message}
use Rattle.etp_frame.specs.declared.message.Message.TheVariants as message
use Rattle.subscribe_core.specs.declared.stop.StopCause.{StopCause}
use Rattle.both_ends.specs.Stops.{IsStop, StopsAreTold}

abbrev stop_of : StopCause → List (List ℕ × ℤ) → Message
stop_of cause ids = message.ChannelSubscribe (stop_response cause ids)

-- the client with what a stop leaves, and why
abbrev stop_taken : StopCause → List (List ℕ × ℤ) → Header → Heard → Taken
stop_taken cause ids h s = record { state = record s { last = h.id; channels = stopped (values_of ids) s.channels }; result = Err (error.Stopped (reason_of cause)) }

module _ (limit number blobs : ℕ) (cause : StopCause) (ids : List (List ℕ × ℤ)) (h : Header) (sent : List Sent) (s : Heard) (n : IsStop limit number blobs cause ids h sent s) where
  may : may_come s.phase (stop_of cause ids) ≡ true
  may = ap (λ p. may_come p (stop_of cause ids)) n.begun

  whole : on_read h (stop_of cause ids) s ≡ stop_taken cause ids h s
  whole =
      let end = ends_fresh h s.last (map (λ x. x.0) sent) n.headers in
      let t : Heard = record s { last = h.id; kept = None } in
      on_part_of true false h (stop_of cause ids) s end.0 (refl, refl, may, refl, refl) (ap (λ k. is_broken k h (stop_of cause ids)) n.free) end.1
      ∙ ap (λ k. on_whole h (grown k (stop_of cause ids)) t) n.free
      ∙ ap (λ k. stop_taken cause ids h (record s { kept = k })) (sym n.free)

  split : Splits limit number blobs h (stop_of cause ids) sent s
  split = record {
    messages = n.messages;
    headers = n.headers;
    without_objects = refl;
    rises = n.rise;
    free = subst (λ k. IsFree k h (stop_of cause ids)) (sym n.free) tt;
    comes = may;
  }

pub stops_are_told : PartsAreJoined → StopsAreTold
stops_are_told law limit number blobs cause ids h sent s n =
    let joined = law limit number blobs h (stop_of cause ids) sent s (split limit number blobs cause ids h sent s n) in
    let is = whole limit number blobs cause ids h sent s n in
    (joined.0 ∙ ap (λ t. t.state) is, joined.1 ∙ ap (λ t. at_last t.result sent) is)
