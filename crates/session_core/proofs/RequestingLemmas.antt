-- A request of a transaction is answered in a run as the session alone answers it at the commit.
use Rattle.std.specs.Prelude.{ℕ, ℤ, ◌+◌, ◌-◌, ◌^◌, ◌≤◌, ◌&&◌, ◌≡◌, Bool, true, false, pos, List, [], ◌∷◌, ◌++◌, Option, Some, None, Result, Ok, Err, refl, if◌then◌else◌, map, take, length}
use Rattle.std.specs.List.{AllByRecursion}
use Rattle.std.proofs.Common.{ap, sym, ◌∙◌, subst, arith}
use Rattle.std.proofs.lemmas.Bool.{false≢true}
use Rattle.array_rows.specs.Arrays as arrays
use Rattle.server_config.specs.declared.config.Config.{Config}
use Rattle.etp_frame.specs.Header.{acknowledge, has_flag}
use Rattle.etp_frame.specs.Joining.{Awaited, joins}
use Rattle.etp_frame.specs.declared.header.Header.{Header}
use Rattle.etp_frame.specs.declared.joining.Joined.{Joined}
use Rattle.etp_frame.specs.declared.joining.Joined.TheVariants.{More, Whole}
use Rattle.etp_frame.specs.declared.joining.JoinError.{JoinError}
use Rattle.etp_frame.specs.declared.message.Message.{Message}
use Rattle.etp_frame.specs.declared.message.Message.TheVariants as message
use Rattle.etp_values.specs.declared.code.ErrorCode.{ErrorCode}
use Rattle.keyed_requests.specs.declared.sending.Outcome.TheVariants.{Replies, Calls}
use Rattle.msg_core.specs.declared.core_messages.CoreMessage.{CoreMessage}
use Rattle.msg_core.specs.declared.core_messages.CoreMessage.TheVariants as core
use Rattle.msg_store.specs.declared.data_array_messages.DataArrayMessage.{DataArrayMessage}
use Rattle.msg_store.specs.declared.store_messages.StoreMessage.{StoreMessage}
use Rattle.msg_store.specs.declared.store_messages.StoreMessage.TheVariants as object
use Rattle.session_rows.specs.Objects as objects
use Rattle.store_machine.specs.Answers.{added, answered, seen_after}
use Rattle.store_machine.specs.Laws.{ValuesStayBetween}
use Rattle.store_machine.specs.declared.call.Reply.TheVariants as reply
use Rattle.store_machine.specs.declared.call.StoreCall.{StoreCall}
use Rattle.store_machine.specs.declared.call.StoreCall.TheVariants as call
use Rattle.store_machine.specs.declared.journal.Entry.{Entry}
use Rattle.subscribe_core.specs.Subscriptions.{Subbed}
use Rattle.tx_stage.specs.Keys.{space_of}
use Rattle.tx_stage.specs.Laws.{LooksAtOwnKeys}
use Rattle.tx_stage.specs.Looks.{key_of}
use Rattle.tx_stage.specs.Staging.{Transaction, has_space}
use Rattle.tx_stage.specs.declared.key.Key.{Key}
use Rattle.tx_stage.specs.declared.look.Looked.{Looked}
use Rattle.tx_stage.specs.declared.look.Want.{Want}
use Rattle.tx_stage.specs.declared.touch.Touch.{Touch}
use Rattle.session_core.specs.declared.state.Arrived.{Arrived}
use Rattle.session_core.specs.declared.state.Arrived.TheVariants as arrives
use Rattle.session_core.specs.declared.state.Live.TheVariants as live
use Rattle.session_core.specs.declared.state.Outgoing.{Outgoing}
use Rattle.session_core.specs.declared.state.Pending.TheVariants as pending
use Rattle.session_core.specs.declared.state.Phase.TheVariants as phase
use Rattle.session_core.specs.declared.state.Request.{Request}
use Rattle.session_core.specs.declared.state.Saying.{Saying}
use Rattle.session_core.specs.declared.state.StagedPending.TheVariants as staged
use Rattle.session_core.specs.State.{State}
use Rattle.session_core.specs.Arriving.{Event, request_of}
use Rattle.session_core.specs.Machine.{Taken, asks, by_event, join_code, may_acknowledge, no_call, on_arrays, on_core, on_join, on_joined, on_message, on_objects, on_protocol, on_received, on_row, on_store, on_whole, protocol_refusal, put_request, refuses}
use Rattle.session_core.specs.Noting.{found_noted, note_all}
use Rattle.session_core.specs.Replies.{receipt, refusal, sayings_of, to_request}
use Rattle.session_core.specs.Run.{Course, asked, answered_at, at_place, drained, hears, own_number}
use Rattle.session_core.specs.Sending.{blobs_sent, cut_all, is_spent, next_after, numbered, said, spent_phase}
use Rattle.session_core.specs.Serial.{AllNoted, EndsBy, RisesFrom, Succeeds, after_call, alone, bodies, is_request_as, is_staged, replies, requests, while_open}
use Rattle.session_core.proofs.AskingLemmas.{LooksWithin, OnCalls, arrays_look, arrays_same, objects_look, objects_same}
use Rattle.session_core.proofs.BesideLemmas.{AreNamed, IsNamed, blobs-low}
use Rattle.session_core.proofs.MarkedLemmas.{AreWithin, all_touched, marked, marked-found, marked-notes, marks, marks-rise, notes-after, notes-before, take-short, wants-clear}
use Rattle.session_core.proofs.RetouchedLemmas.{arrays_answered, objects_answered, retouched}
use Rattle.etp_values.specs.declared.code.ErrorCode.TheVariants as code
use Rattle.store_machine.specs.Clash.{clash}
use Rattle.session_core.specs.declared.state.End.TheVariants as end
use Rattle.session_core.specs.declared.state.StagedPending.{StagedPending}
use Rattle.session_core.proofs.AloneLemmas.{Induction, Lawful, at, bodies-append, bodies-numbered, ended-fails, look-answered, looks-same, next-less, part_bodies, short-fails, spent-less}
use Rattle.session_core.proofs.RunLemmas.{course}

-- ---- one event of a run and of its session alone

-- a course that has sent up to this state, with the places that are left
abbrev pub told : List Outgoing → State → List ℕ → List (ℕ × Entry) → ℕ → Course
told sent v qs made reach = course (drained v) qs (sent ++ v.out) made reach

-- what is sent in answer inside a transaction, and the transaction that is left
abbrev tells_of : ℕ → StagedPending → Option Transaction → List Looked → Option Transaction × List Saying
tells_of limit (staged.Objects p) st found = let a = objects.object_reply st p (reply.Looked found) in (a.stage, sayings_of message.Store a.sendings)
tells_of limit (staged.Arrays p) st found = let a = arrays.array_reply limit st p (reply.Looked found) in (a.stage, sayings_of message.DataArray a.sendings)

record Tells (told : List Touch → Option Transaction × List Saying) : Type 0 where
  after : Transaction
  sayings : List Saying
  is : (ts : List Touch) → told ts ≡ (Some (retouched ts after), sayings)

tells_steady : (limit : ℕ) (sp : StagedPending) (x : Transaction) (found : List Looked) → Tells (λ ts. tells_of limit sp (Some (retouched ts x)) found)
tells_steady limit (staged.Objects p) x found =
    let r = objects_answered x p found in
    record { after = r.after; sayings = sayings_of message.Store r.sendings; is = λ ts. λ j. ((r.is ts j).stage, sayings_of message.Store (r.is ts j).sendings) }
tells_steady limit (staged.Arrays p) x found =
    let r = arrays_answered limit x p found in
    record { after = r.after; sayings = sayings_of message.DataArray r.sendings; is = λ ts. λ j. ((r.is ts j).stage, sayings_of message.DataArray (r.is ts j).sendings) }

abbrev says_then : Request → Option Transaction × List Saying → State → State
says_then r t s = said r t.1 (record s { stage = t.0 })

heard-staged : (r : Request) (keys : List Key) (sp : StagedPending) (mark : ℕ) (found : List Looked) (base : State) (last : ℤ) (next : ℕ) (os : List Bool) (bs : Subbed) (x : Transaction) (joiner : Option Awaited) (blobs : ℕ) (out : List Outgoing)
    → hears (record (at base last next os bs x joiner blobs out) { pending = Some (pending.Staged r keys sp) }) (record { mark = mark; reply = reply.Looked found })
    ≡ says_then r (tells_of base.limit sp (Some (note_all mark x keys)) (found_noted mark x keys found)) (at base last next os bs x joiner blobs out)
unfolding hears
heard-staged r keys (staged.Objects p) mark found base last next os bs x joiner blobs out = refl
heard-staged r keys (staged.Arrays p) mark found base last next os bs x joiner blobs out = refl

-- the state after this was sent, by whether too few ids were left for it
abbrev spoke : Bool → Request → List Saying → State → ℤ → ℕ → List Bool → Subbed → Transaction → Option Awaited → ℕ → List Outgoing → State
spoke b r sayings base last next os bs x joiner blobs out =
    let ps = cut_all base.limit base.number blobs sayings in
    record (at base last (next_after next ps) os bs x joiner (blobs_sent base.limit blobs sayings) (out ++ numbered r next ps)) { phase = spent_phase b (phase.Live live.Open) }

-- a state that awaits what is seen at these
abbrev awaiting : Request → List Want → StagedPending → State → State
awaiting r ws sp s = record s { pending = Some (pending.Staged r (map key_of ws) sp) }

-- a call that only looks
look_only : (x : Transaction) (P : StoreCall → Type 0) (c : StoreCall) → LooksWithin x c → ((ws : List Want) → AllByRecursion (λ w. has_space x.spaces (space_of (key_of w)) ≡ true) ws → P (call.Look ws)) → P c
look_only x P (call.Look ws) is then_so = then_so ws is
look_only x P _ is then_so = absurd is

not_staged : (hd : Header) (k : ℕ) → hd.protocol ≡ pos k → is_staged (pos k) ≡ false → is_staged hd.protocol ≡ true → ⊥
not_staged hd k named isnt is = false≢true (sym isnt ∙ sym (ap is_staged named) ∙ is)

module _ (config : Config) (n : ℕ) (h : List Entry) (p : ℕ) (base : State) (between : ValuesStayBetween) (own_keys : LooksAtOwnKeys) (es : List Event) (ih : Induction config n h p base es) where
  -- what is shown once an event led the run to this state, and the session alone to that one
  abbrev After : ℕ → List ℕ → List Outgoing → List (ℕ × Entry) → ℕ → List Touch → State → State → Type 0
  After q qs sent made reach ts v w =
      Succeeds config n h p (told sent v qs made reach) es
      → Lawful h p q ts (bodies v.out ++ replies config n h (told sent v qs made reach) es)
      (bodies w.out ++ alone config (take p h) (drained w) (requests config n h (told sent v qs made reach) es))

  goes_on : (x : Transaction) (joiner : Option Awaited) (blobs : ℕ) (last : ℤ) (ns na : ℕ) (os oa : List Bool) (bs ba : Subbed) (outs outa : List Outgoing) (q : ℕ) (qs : List ℕ) (sent : List Outgoing) (made : List (ℕ × Entry)) (reach : ℕ)
      → na ≤ ns → blobs ≤ 2 ^ 64 - 1 → RisesFrom q qs → AreWithin q x.touched → bodies outs ≡ bodies outa
      → After q qs sent made reach x.touched (at base last ns os bs x joiner blobs outs) (at base last na oa ba (marked (length (take p h)) x) joiner blobs outa)
  goes_on x joiner blobs last ns na os oa bs ba outs outa q qs sent made reach le low rises within same s =
      let r = ih x joiner blobs last last ns na os oa bs ba q qs (sent ++ outs) made reach (λ id is. is) le low rises within s in
      record {
        same = ap (λ l. bodies outs ++ l) r.same
            ∙ ap (λ l. l ++ alone config (take p h) (at base last na oa ba (marked (length (take p h)) x) joiner blobs []) (requests config n h (told sent (at base last ns os bs x joiner blobs outs) qs made reach) es)) same;
        free = r.free;
        above = r.above;
      }

  -- both send the same
  spoken : (r : Request) (sayings : List Saying) (x : Transaction) (joiner : Option Awaited) (blobs : ℕ) (last : ℤ) (ns na : ℕ) (os oa : List Bool) (bs ba : Subbed) (outs outa : List Outgoing) (q : ℕ) (qs : List ℕ) (sent : List Outgoing) (made : List (ℕ × Entry)) (reach : ℕ)
      → na ≤ ns → blobs ≤ 2 ^ 64 - 1 → RisesFrom q qs → AreWithin q x.touched → bodies outs ≡ bodies outa
      → After q qs sent made reach x.touched (said r sayings (at base last ns os bs x joiner blobs outs)) (said r sayings (at base last na oa ba (marked (length (take p h)) x) joiner blobs outa))
  spoken r sayings x joiner blobs last ns na os oa bs ba outs outa q qs sent made reach le low rises within same = by (is_spent ns (cut_all base.limit base.number blobs sayings)) refl
    where
      by : (b : Bool) → is_spent ns (cut_all base.limit base.number blobs sayings) ≡ b
          → After q qs sent made reach x.touched (spoke b r sayings base last ns os bs x joiner blobs outs) (spoke (is_spent na (cut_all base.limit base.number blobs sayings)) r sayings base last na oa ba (marked (length (take p h)) x) joiner blobs outa)
      by true e = λ s. let v = spoke true r sayings base last ns os bs x joiner blobs outs in absurd (ended-fails config n h p es end.IdsSpent (drained v) qs (sent ++ v.out) made reach s)
      by false e =
          let ps = cut_all base.limit base.number blobs sayings in
          let bodies_same : bodies (outs ++ numbered r ns ps) ≡ bodies (outa ++ numbered r na ps) = bodies-append outs (numbered r ns ps) ∙ ap (λ l. bodies outs ++ l) (bodies-numbered r ns ps e) ∙ ap (λ l. l ++ part_bodies ps) same
          ∙ ap (λ l. bodies outa ++ l) (sym (bodies-numbered r na ps (spent-less na ns ps le e))) ∙ sym (bodies-append outa (numbered r na ps)) in
          subst (λ b. After q qs sent made reach x.touched (spoke false r sayings base last ns os bs x joiner blobs outs) (spoke b r sayings base last na oa ba (marked (length (take p h)) x) joiner blobs outa)) (sym (spent-less na ns ps le e))
          (goes_on x joiner (blobs_sent base.limit blobs sayings) last (next_after ns ps) (next_after na ps) os oa bs ba (outs ++ numbered r ns ps) (outa ++ numbered r na ps) q qs sent made reach
          (next-less na ns ps le e) (blobs-low base.limit blobs sayings low) rises within bodies_same)

  -- the same of a half step of both, and of the answer to its call
  module _ (c : Course) (moment : ℤ) (q : ℕ) (rises : RisesFrom q c.places) where
    abbrev pub Both : Transaction → Taken → Taken → Type 0
    Both x t u =
        EndsBy config h p t.state.stage t.state.pending t.call c.places (Succeeds config n h p (asked config n h moment c t.state t.call) es)
        → Lawful h p q x.touched
        (while_open t.state.stage (bodies (asked config n h moment (record c { sent = [] }) t.state t.call).sent ++ replies config n h (asked config n h moment c t.state t.call) es))
        (while_open t.state.stage (bodies (after_call config (take p h) u.state u.call).out ++ alone config (take p h) (drained (after_call config (take p h) u.state u.call)) (requests config n h (asked config n h moment c t.state t.call) es)))

    module _ (x : Transaction) (blobs : ℕ) (last : ℤ) (ns na : ℕ) (os oa : List Bool) (bs ba : Subbed) (outs outa : List Outgoing)
        (le : na ≤ ns) (low : blobs ≤ 2 ^ 64 - 1) (within : AreWithin q x.touched) (same : bodies outs ≡ bodies outa) where
      abbrev run_state : Option Awaited → State
      run_state joiner = at base last ns os bs x joiner blobs outs

      abbrev alone_state : Option Awaited → State
      alone_state joiner = at base last na oa ba (marked (length (take p h)) x) joiner blobs outa

      says : (joiner : Option Awaited) (r : Request) (sayings : List Saying) → Both x (no_call (said r sayings (run_state joiner))) (no_call (said r sayings (alone_state joiner)))
      says joiner r sayings s = spoken r sayings x joiner blobs last ns na os oa bs ba outs outa q c.places c.sent c.made c.reach le low rises within same s.1

      stays : (joiner : Option Awaited) → Both x (no_call (run_state joiner)) (no_call (alone_state joiner))
      stays joiner s = goes_on x joiner blobs last ns na os oa bs ba outs outa q c.places c.sent c.made c.reach le low rises within same s.1

      -- a look, and what is answered to it
      looked : (joiner : Option Awaited) (r : Request) (sp : StagedPending) (ws : List Want) → AllByRecursion (λ w. has_space x.spaces (space_of (key_of w)) ≡ true) ws
          → Both x (asks (pending.Staged r (map key_of ws) sp) (call.Look ws) (run_state joiner)) (asks (pending.Staged r (map key_of ws) sp) (call.Look ws) (alone_state joiner))
      looked joiner r sp ws spaces s = by c.places rises s.0 s.1
        where
          by : (ps : List ℕ) → RisesFrom q ps → AllNoted x (map key_of ws) → Succeeds config n h p (answered_at config n h moment c (awaiting r ws sp (run_state joiner)) (call.Look ws) ps) es
              → Lawful h p q x.touched
              (bodies (answered_at config n h moment (record c { sent = [] }) (awaiting r ws sp (run_state joiner)) (call.Look ws) ps).sent ++ replies config n h (answered_at config n h moment c (awaiting r ws sp (run_state joiner)) (call.Look ws) ps) es)
              (bodies (hears (awaiting r ws sp (alone_state joiner)) (answered config (take p h) (call.Look ws))).out
              ++ alone config (take p h) (drained (hears (awaiting r ws sp (alone_state joiner)) (answered config (take p h) (call.Look ws)))) (requests config n h (answered_at config n h moment c (awaiting r ws sp (run_state joiner)) (call.Look ws) ps) es))
          by [] up noted succ = absurd (short-fails config n h p es (answered_at config n h moment c (awaiting r ws sp (run_state joiner)) (call.Look ws) []) refl refl succ)
          by (k ∷ ks) up noted succ =
              let run = awaiting r ws sp (run_state joiner) in
              let one = awaiting r ws sp (alone_state joiner) in
              let keys = map key_of ws in
              let m = length (take p h) in
              let at_k = length (take k h) in
              let seen = seen_after (take k h) ws in
              let y = note_all at_k x keys in
              let found = found_noted at_k x keys seen in
              let t = tells_steady base.limit sp y found in
              let after = retouched y.touched t.after in
              let made = c.made ++ at_place k (added config (take k h) n (own_number c.made) moment (call.Look ws)) in
              let reach = k + length (added config (take k h) n (own_number c.made) moment (call.Look ws)) in
              let v = hears run (answered config (take k h) (call.Look ws)) in
              let v0 = said r t.sayings (at base last ns os bs after joiner blobs outs) in
              let w = hears one (answered config (take p h) (call.Look ws)) in
              let w0 = said r t.sayings (at base last na oa ba (marked m after) joiner blobs outa) in
              let to_left : v ≡ v0 = ap (hears run) (look-answered config (take k h) ws) ∙ heard-staged r keys sp at_k seen base last ns os bs x joiner blobs outs
              ∙ ap (λ z. says_then r z (run_state joiner)) (t.is y.touched) in
              let below : AreWithin k y.touched = notes-after (λ (z : Touch). z.mark ≤ k) at_k (λ key. take-short k h) x keys (marks-rise q k x.touched up.0 within) in
              let a = spoken r t.sayings after joiner blobs last ns na os oa bs ba outs outa k ks c.sent made reach le low up.1 below same
              (subst (λ z. Succeeds config n h p (told c.sent z ks made reach) es) to_left succ) in
              let touched = all_touched at_k x ws spaces noted in
              let alike : seen_after (take p h) ws ≡ seen = looks-same own_keys (take p h) (take k h) ws (wants-clear between h k p a.above y.touched ws touched below a.free) in
              let to_right : w ≡ w0 = ap (hears one) (look-answered config (take p h) ws) ∙ heard-staged r keys sp m (seen_after (take p h) ws) base last na oa ba (marked m x) joiner blobs outa
              ∙ ap (λ z. says_then r (tells_of base.limit sp (Some (note_all m (marked m x) keys)) (found_noted m (marked m x) keys z)) (alone_state joiner)) alike
              ∙ ap (λ z. says_then r (tells_of base.limit sp (Some z) (found_noted m (marked m x) keys seen)) (alone_state joiner)) (sym (marked-notes m at_k x keys))
              ∙ ap (λ z. says_then r (tells_of base.limit sp (Some (marked m y)) z) (alone_state joiner)) (sym (marked-found m at_k x keys seen))
              ∙ ap (λ z. says_then r z (alone_state joiner)) (t.is (marks m y.touched)) in
              record {
                same = ap (λ z. bodies z.out ++ replies config n h (told c.sent z ks made reach) es) to_left ∙ a.same
                    ∙ ap (λ z. bodies w0.out ++ alone config (take p h) (drained w0) (requests config n h (told c.sent z ks made reach) es)) (sym to_left)
                    ∙ ap (λ z. bodies z.out ++ alone config (take p h) (drained z) (requests config n h (told c.sent v ks made reach) es)) (sym to_right);
                free = notes-before (λ (z : Touch). clash z.key z.mark (take p h) ≡ None) at_k x keys a.free;
                above = omega (arith, up.0, a.above);
              }

      -- ---- the rows
      of_objects : (joiner : Option Awaited) (r : Request) (o : objects.ObjectOutcome) → OnCalls x o → Both x (on_objects r o (run_state joiner)) (on_objects r o (alone_state joiner))
      of_objects joiner r (Replies xs) looks = says joiner r (sayings_of message.Store xs)
      of_objects joiner r (Calls k kept) looks = look_only x (λ k. Both x (on_objects r (Calls k kept) (run_state joiner)) (on_objects r (Calls k kept) (alone_state joiner))) k looks (λ ws spaces. looked joiner r (staged.Objects kept) ws spaces)

      of_arrays : (joiner : Option Awaited) (r : Request) (o : arrays.ArrayOutcome) → OnCalls x o → Both x (on_arrays r o (run_state joiner)) (on_arrays r o (alone_state joiner))
      of_arrays joiner r (Replies xs) looks = says joiner r (sayings_of message.DataArray xs)
      of_arrays joiner r (Calls k kept) looks = look_only x (λ k. Both x (on_arrays r (Calls k kept) (run_state joiner)) (on_arrays r (Calls k kept) (alone_state joiner))) k looks (λ ws spaces. looked joiner r (staged.Arrays kept) ws spaces)

      of_store_message : (joiner : Option Awaited) (r : Request) (now : ℤ) (m : StoreMessage) → Both x (on_whole r now (message.Store m) (run_state joiner)) (on_whole r now (message.Store m) (alone_state joiner))
      of_store_message joiner r now m =
          let o = objects.object_outcome base.formats base.config.types (Some x) now m in
          subst (λ z. Both x (on_objects r o (run_state joiner)) (on_objects r z (alone_state joiner))) (sym (objects_same (marks (length (take p h)) x.touched) x base.formats base.config.types now m))
          (of_objects joiner r o (objects_look x base.formats base.config.types now m))

      of_array_message : (joiner : Option Awaited) (r : Request) (now : ℤ) (m : DataArrayMessage) → Both x (on_arrays r (arrays.array_outcome (Some x) now m) (run_state joiner)) (on_arrays r (arrays.array_outcome (Some (marked (length (take p h)) x)) now m) (alone_state joiner))
      of_array_message joiner r now m =
          let o = arrays.array_outcome (Some x) now m in
          subst (λ z. Both x (on_arrays r o (run_state joiner)) (on_arrays r z (alone_state joiner))) (sym (arrays_same (marks (length (take p h)) x.touched) x now m))
          (of_arrays joiner r o (arrays_look x now m))

      of_whole : (joiner : Option Awaited) (r : Request) (now : ℤ) (m : Message) → Both x (on_whole r now m (run_state joiner)) (on_whole r now m (alone_state joiner))
      of_whole joiner r now (message.Store m) = of_store_message joiner r now m
      of_whole joiner r now (message.Core m) = stays joiner
      of_whole joiner r now (message.Dataspace m) = stays joiner
      of_whole joiner r now (message.DataArray m) = stays joiner
      of_whole joiner r now (message.Transaction m) = stays joiner
      of_whole joiner r now (message.ChannelSubscribe m) = stays joiner
      of_whole joiner r now (message.ChannelDataLoad m) = stays joiner

      of_joined : (joiner : Option Awaited) (hd : Header) (now : ℤ) (r : Request) (j : Result (Joined × Option Awaited) JoinError) → Both x (on_joined hd now r j (run_state joiner)) (on_joined hd now r j (alone_state joiner))
      of_joined joiner hd now r (Err e) = says None (request_of hd) (to_request (refusal (join_code e)) ∷ [])
      of_joined joiner hd now r (Ok (More, w)) = stays w
      of_joined joiner hd now r (Ok (Whole m, w)) = of_whole w r now m

      of_join : (joiner : Option Awaited) (hd : Header) (now : ℤ) (m : StoreMessage) → Both x (on_join hd now m (run_state joiner)) (on_join hd now m (alone_state joiner))
      of_join joiner hd now m = of_joined joiner hd now (put_request hd joiner) (joins joiner hd (message.Store m))

      of_put : (joiner : Option Awaited) (hd : Header) (now : ℤ) (m : StoreMessage) (b : Bool)
          → Both x (if b then no_call (refuses (request_of hd) code.RequestDenied (run_state joiner)) else on_join hd now m (run_state joiner)) (if b then no_call (refuses (request_of hd) code.RequestDenied (alone_state joiner)) else on_join hd now m (alone_state joiner))
      of_put joiner hd now m true = says joiner (request_of hd) (to_request (refusal code.RequestDenied) ∷ [])
      of_put joiner hd now m false = of_join joiner hd now m

      of_store : (joiner : Option Awaited) (hd : Header) (now : ℤ) (m : StoreMessage) → Both x (on_store hd now m (run_state joiner)) (on_store hd now m (alone_state joiner))
      of_store joiner hd now (object.PutDataObjects m) = of_put joiner hd now (object.PutDataObjects m) x.read_only
      of_store joiner hd now (object.Chunk m) = of_join joiner hd now (object.Chunk m)
      of_store joiner hd now (object.GetDataObjects m) = of_store_message joiner (request_of hd) now (object.GetDataObjects m)
      of_store joiner hd now (object.DeleteDataObjects m) = of_store_message joiner (request_of hd) now (object.DeleteDataObjects m)
      of_store joiner hd now (object.GetDataObjectsResponse m) = of_store_message joiner (request_of hd) now (object.GetDataObjectsResponse m)
      of_store joiner hd now (object.PutDataObjectsResponse m) = of_store_message joiner (request_of hd) now (object.PutDataObjectsResponse m)
      of_store joiner hd now (object.DeleteDataObjectsResponse m) = of_store_message joiner (request_of hd) now (object.DeleteDataObjectsResponse m)

      module _ (joiner : Option Awaited) (hd : Header) (now : ℤ) (inside : is_staged hd.protocol ≡ true) where
        of_row : (m : Message) → IsNamed hd m → Both x (on_row hd now m (run_state joiner)) (on_row hd now m (alone_state joiner))
        of_row (message.Store m) named = of_store joiner hd now m
        of_row (message.DataArray m) named = of_array_message joiner (request_of hd) now m
        of_row (message.Core m) named = says joiner (request_of hd) (to_request (refusal code.InvalidMessageType) ∷ [])
        of_row (message.Dataspace m) named = absurd (not_staged hd 24 named refl inside)
        of_row (message.Transaction m) named = absurd (not_staged hd 18 named refl inside)
        of_row (message.ChannelSubscribe m) named = absurd (not_staged hd 21 named refl inside)
        of_row (message.ChannelDataLoad m) named = absurd (not_staged hd 22 named refl inside)

        of_protocol : (why : Option ErrorCode) (m : Message) → IsNamed hd m → Both x (on_protocol why hd now m (run_state joiner)) (on_protocol why hd now m (alone_state joiner))
        of_protocol (Some why) m named = says joiner (request_of hd) (to_request (refusal why) ∷ [])
        of_protocol None m named = of_row m named

        of_core : (m : CoreMessage) → Both x (no_call (on_core live.Open (request_of hd) now m (run_state joiner))) (no_call (on_core live.Open (request_of hd) now m (alone_state joiner)))
        of_core (core.RequestSession m) = says joiner (request_of hd) (to_request (refusal code.InvalidState) ∷ [])
        of_core (core.OpenSession m) = says joiner (request_of hd) (to_request (refusal code.InvalidMessageType) ∷ [])
        of_core (core.CloseSession m) = λ s. absurd (ended-fails config n h p es end.Closed (drained (run_state joiner)) c.places (c.sent ++ outs) c.made c.reach s.1)
        of_core (core.Ping m) = says joiner (request_of hd) (to_request (message.Core (core.Pong (record { current_date_time = now }))) ∷ [])
        of_core (core.Pong m) = stays joiner
        of_core (core.ProtocolException m) = stays joiner
        of_core (core.Acknowledge m) = stays joiner

        of_message : (m : Message) → IsNamed hd m → Both x (on_message live.Open hd now m (run_state joiner)) (on_message live.Open hd now m (alone_state joiner))
        of_message (message.Core m) named = of_core m
        of_message (message.Store m) named = of_protocol (protocol_refusal live.Open base.accepted hd.protocol) (message.Store m) named
        of_message (message.DataArray m) named = of_protocol (protocol_refusal live.Open base.accepted hd.protocol) (message.DataArray m) named
        of_message (message.Dataspace m) named = of_protocol (protocol_refusal live.Open base.accepted hd.protocol) (message.Dataspace m) named
        of_message (message.Transaction m) named = of_protocol (protocol_refusal live.Open base.accepted hd.protocol) (message.Transaction m) named
        of_message (message.ChannelSubscribe m) named = of_protocol (protocol_refusal live.Open base.accepted hd.protocol) (message.ChannelSubscribe m) named
        of_message (message.ChannelDataLoad m) named = of_protocol (protocol_refusal live.Open base.accepted hd.protocol) (message.ChannelDataLoad m) named

    -- ---- an event
    module _ (x : Transaction) (joiner : Option Awaited) (blobs : ℕ) (ns na : ℕ) (os oa : List Bool) (bs ba : Subbed) (le : na ≤ ns) (low : blobs ≤ 2 ^ 64 - 1) (within : AreWithin q x.touched) where
      abbrev run_at : ℤ → State
      run_at last = at base last ns os bs x joiner blobs []

      abbrev alone_at : ℤ → State
      alone_at last = at base last na oa ba (marked (length (take p h)) x) joiner blobs []

      -- its receipt is acknowledged first, if that is wanted
      acknowledged_both : (hd : Header) (now : ℤ) (m : Message) → is_staged hd.protocol ≡ true → IsNamed hd m
          → let v = said (request_of hd) (receipt ∷ []) (run_at hd.id) in let w = said (request_of hd) (receipt ∷ []) (alone_at hd.id) in
          Both x (on_received v.phase hd now m v) (on_received w.phase hd now m w)
      acknowledged_both hd now m inside named = by (is_spent ns (cut_all base.limit base.number blobs (receipt ∷ []))) refl
        where
          by : (b : Bool) → is_spent ns (cut_all base.limit base.number blobs (receipt ∷ [])) ≡ b
              → let v = spoke b (request_of hd) (receipt ∷ []) base hd.id ns os bs x joiner blobs [] in
              let w = spoke (is_spent na (cut_all base.limit base.number blobs (receipt ∷ []))) (request_of hd) (receipt ∷ []) base hd.id na oa ba (marked (length (take p h)) x) joiner blobs [] in
              Both x (on_received v.phase hd now m v) (on_received w.phase hd now m w)
          by true e = λ s. let v = spoke true (request_of hd) (receipt ∷ []) base hd.id ns os bs x joiner blobs [] in absurd (ended-fails config n h p es end.IdsSpent (drained v) c.places (c.sent ++ v.out) c.made c.reach s.1)
          by false e =
              let r = request_of hd in
              let ps = cut_all base.limit base.number blobs (receipt ∷ []) in
              let same : bodies (numbered r ns ps) ≡ bodies (numbered r na ps) = bodies-numbered r ns ps e ∙ sym (bodies-numbered r na ps (spent-less na ns ps le e)) in
              subst (λ b. let v = spoke false r (receipt ∷ []) base hd.id ns os bs x joiner blobs [] in
              let w = spoke b r (receipt ∷ []) base hd.id na oa ba (marked (length (take p h)) x) joiner blobs [] in
              Both x (on_received v.phase hd now m v) (on_received w.phase hd now m w)) (sym (spent-less na ns ps le e))
              (of_message x (blobs_sent base.limit blobs (receipt ∷ [])) hd.id (next_after ns ps) (next_after na ps) os oa bs ba (numbered r ns ps) (numbered r na ps)
              (next-less na ns ps le e) (blobs-low base.limit blobs (receipt ∷ []) low) within same joiner hd now inside m named)

      fresh_both : (hd : Header) (now : ℤ) (m : Message) → is_staged hd.protocol ≡ true → IsNamed hd m → (b : Bool)
          → let v = (if b then said (request_of hd) (receipt ∷ []) (run_at hd.id) else run_at hd.id) in let w = (if b then said (request_of hd) (receipt ∷ []) (alone_at hd.id) else alone_at hd.id) in
          Both x (on_received v.phase hd now m v) (on_received w.phase hd now m w)
      fresh_both hd now m inside named true = acknowledged_both hd now m inside named
      fresh_both hd now m inside named false = of_message x blobs hd.id ns na os oa bs ba [] [] le low within refl joiner hd now inside m named

      pub request_both : (a : Arrived) (ls la : ℤ) → is_request_as a ≡ true → AreNamed a → Both x (by_event live.Open a (run_at ls)) (by_event live.Open a (alone_at la))
      request_both (arrives.Unreadable why) ls la inside named = absurd (false≢true inside)
      request_both (arrives.Stale r) ls la inside named = absurd (false≢true inside)
      request_both (arrives.Refused r why) ls la inside named = says x blobs r.id ns na os oa bs ba [] [] le low within refl joiner r (to_request (refusal why) ∷ [])
      request_both (arrives.Fresh hd now m) ls la inside named = fresh_both hd now m inside named (has_flag hd.flags acknowledge && may_acknowledge m)
      request_both (arrives.Polled at) ls la inside named = absurd (false≢true inside)
