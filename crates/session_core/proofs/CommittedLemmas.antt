-- A committed transaction is answered as its session alone is at the place of the commit, from any state in which it begins.
use Rattle.std.specs.Prelude.{ℕ, ℤ, ◌+◌, ◌-◌, ◌^◌, ◌≤◌, ◌&&◌, ◌≡◌, Bool, true, false, pos, List, [], ◌∷◌, ◌++◌, Option, Some, None, Result, Ok, Err, refl, take, length, nat_le, int_lt}
use Rattle.std.proofs.Common.{ap, sym, ◌∙◌, subst, arith}
use Rattle.std.proofs.lemmas.Bool.{false≢true, and_parts}
use Rattle.server_config.specs.declared.config.Config.{Config}
use Rattle.etp_frame.specs.Joining.{Awaited}
use Rattle.etp_frame.specs.declared.header.Header.{Header}
use Rattle.etp_frame.specs.declared.message.Message.{Message}
use Rattle.session_rows.specs.Transactions.{to_commit}
use Rattle.store_machine.specs.Answers.{added, answered}
use Rattle.store_machine.specs.Laws.{NoConflictIsFree, ValuesStayBetween}
use Rattle.store_machine.specs.declared.call.StoreCall.{StoreCall}
use Rattle.store_machine.specs.declared.call.StoreCall.TheVariants as call
use Rattle.store_machine.specs.declared.journal.Entry.{Entry}
use Rattle.subscribe_core.specs.Subscriptions.{Subbed}
use Rattle.tx_stage.specs.Laws.{LooksAtOwnKeys}
use Rattle.tx_stage.specs.Staging.{Transaction}
use Rattle.tx_stage.specs.declared.touch.Touch.{Touch}
use Rattle.session_core.specs.declared.state.Arrived.{Arrived}
use Rattle.session_core.specs.declared.state.Arrived.TheVariants as arrives
use Rattle.session_core.specs.declared.state.Live.TheVariants as live
use Rattle.session_core.specs.declared.state.Outgoing.{Outgoing}
use Rattle.session_core.specs.declared.state.Phase.{Phase}
use Rattle.session_core.specs.declared.state.Phase.TheVariants as phase
use Rattle.session_core.specs.declared.state.Request.{Request}
use Rattle.session_core.specs.State.{State}
use Rattle.session_core.specs.Arriving.{Event, arrived, request_of}
use Rattle.session_core.specs.Machine.{Taken, by_event}
use Rattle.session_core.specs.Run.{Course, asked, answered_at, at_place, drained, hears, moment_of, own_number, takes}
use Rattle.session_core.specs.Serial.{CommitsAt, EndsBy, RisesFrom, Succeeds, after_call, after_event, alone, bodies, is_request_as, replies, requests, where_so, while_open}
use Rattle.session_core.proofs.BesideLemmas.{AreNamed, Aside, Beside, Commits, Drops, Goes, IsApart, IsBegun, IsNamed, KeepsApart, accepted, event_aside}
use Rattle.session_core.proofs.MarkedLemmas.{AreWithin, marked, marks-rise}
use Rattle.session_core.proofs.RetouchedLemmas.{retouched}
use Rattle.etp_values.specs.declared.code.ErrorCode.TheVariants as code
use Rattle.session_core.proofs.AloneLemmas.{Induction, Lawful, Later, at, ended-fails, short-fails}
use Rattle.session_core.proofs.RunLemmas.{course}
use Rattle.std.specs.Prelude.{IfOk, int_rem}
use Rattle.std.specs.Ordering.{int_eq}
use Rattle.etp_values.proofs.IntLemmas.{int_lt_trans}
use Rattle.etp_frame.specs.Reading.{read_of}
use Rattle.etp_frame.specs.declared.error.FrameError.{FrameError}
use Rattle.etp_frame.specs.declared.error.FrameError.TheVariants as frame
use Rattle.etp_schema.specs.declared.body.Side.TheVariants.{Client}
use Rattle.session_core.specs.Arriving.{Receives, Polls, arrived_as, arrived_by, error_event, follows, max_message_len, unless_stale}
use Rattle.session_core.specs.Serial.{Begins, CommittedIsSerial}
use Rattle.session_core.proofs.AloneLemmas.{committed}
use Rattle.session_core.proofs.BesideLemmas.{beside-trans, heard_beside}
use Rattle.session_core.proofs.NamedLemmas.{read_is_named}
use Rattle.session_core.proofs.RequestingLemmas.{request_both}

-- ---- ids

follows-later : (a b : ℤ) (id : ℤ) → Later a b → follows b id ≡ true → follows a id ≡ true
follows-later a b id later is = by (int_lt b id) refl is
  where
    by : (t : Bool) → int_lt b id ≡ t → (t && int_eq (int_rem id (pos 2)) (pos 0)) ≡ true → follows a id ≡ true
    by true lt even = ap (λ t. t && int_eq (int_rem id (pos 2)) (pos 0)) (later id lt) ∙ even
    by false lt even = absurd (false≢true even)

-- what was accepted in the run is accepted alone
abbrev pub is_accepted : Arrived → Bool
is_accepted (arrives.Unreadable c) = false
is_accepted (arrives.Stale r) = false
is_accepted (arrives.Refused r c) = true
is_accepted (arrives.Fresh h moment m) = true
is_accepted (arrives.Polled front) = false

-- its id
abbrev pub id_in : ℤ → Arrived → ℤ
id_in last (arrives.Unreadable c) = last
id_in last (arrives.Stale r) = last
id_in last (arrives.Refused r c) = r.id
id_in last (arrives.Fresh h moment m) = h.id
id_in last (arrives.Polled front) = last

-- how what arrived in the run relates to what arrives alone
abbrev Stands : ℤ → ℤ → Arrived → Arrived → Type 0
Stands la ls here there = (is_accepted here ≡ true → there ≡ here) × Later la (id_in ls here)

later-trans : (a b id : ℤ) → Later a b → int_lt b id ≡ true → Later a id
later-trans a b id later lt = λ i above. later i (int_lt_trans b id i lt above)

stands_if : (la ls : ℤ) (r : Request) (a : Arrived) (t : Bool) → is_accepted a ≡ true → id_in ls a ≡ r.id → Later la ls → follows ls r.id ≡ t → Stands la ls (unless_stale t r a) (unless_stale (follows la r.id) r a)
stands_if la ls r a true acc id later is =
    ((λ x. ap (λ t. unless_stale t r a) (follows-later la ls r.id later is)), subst (Later la) (sym id) (later-trans la ls r.id later (and_parts (int_lt ls r.id) (int_eq (int_rem r.id (pos 2)) (pos 0)) is).0))
stands_if la ls r a false acc id later is = ((λ x. absurd (false≢true x)), later)

stands_error : (la ls : ℤ) (e : FrameError) → Later la ls → Stands la ls (error_event ls e) (error_event la e)
stands_error la ls (frame.Header why) later = ((λ x. refl), later)
stands_error la ls (frame.Extension h) later = stands_if la ls (request_of h) (arrives.Refused (request_of h) code.InvalidMessage) (follows ls h.id) refl refl later refl
stands_error la ls (frame.Compressed h) later = stands_if la ls (request_of h) (arrives.Refused (request_of h) code.CompressionNotSupported) (follows ls h.id) refl refl later refl
stands_error la ls (frame.UnknownProtocol h) later = stands_if la ls (request_of h) (arrives.Refused (request_of h) code.UnsupportedProtocol) (follows ls h.id) refl refl later refl
stands_error la ls (frame.UnknownKind h) later = stands_if la ls (request_of h) (arrives.Refused (request_of h) code.InvalidMessageType) (follows ls h.id) refl refl later refl
stands_error la ls (frame.Body h why) later = stands_if la ls (request_of h) (arrives.Refused (request_of h) code.InvalidMessage) (follows ls h.id) refl refl later refl
stands_error la ls (frame.Rest h at) later = stands_if la ls (request_of h) (arrives.Refused (request_of h) code.InvalidMessage) (follows ls h.id) refl refl later refl
stands_error la ls frame.NoMemory later = ((λ x. refl), later)

stands_as : (la ls moment : ℤ) (r : Result (Header × Message) FrameError) → Later la ls → Stands la ls (arrived_as ls moment r) (arrived_as la moment r)
stands_as la ls moment (Ok y) later = stands_if la ls (request_of y.0) (arrives.Fresh y.0 moment y.1) (follows ls y.0.id) refl refl later refl
stands_as la ls moment (Err e) later = stands_error la ls e later

stands_by : (la ls moment : ℤ) (bytes : List ℕ) (b : Bool) → Later la ls → Stands la ls (arrived_by b ls moment bytes) (arrived_by b la moment bytes)
stands_by la ls moment bytes true later = stands_as la ls moment (read_of Client bytes) later
stands_by la ls moment bytes false later = ((λ x. refl), later)

stands : (la ls : ℤ) (e : Event) → Later la ls → Stands la ls (arrived ls e) (arrived la e)
stands la ls (Receives bytes moment) later = stands_by la ls moment bytes (nat_le (length bytes) max_message_len) later
stands la ls (Polls front) later = ((λ x. refl), later)

-- ---- what arrived is named as it is

named_if : (r : Request) (a : Arrived) (t : Bool) → AreNamed a → AreNamed (unless_stale t r a)
named_if r a true is = is
named_if r a false is = tt

named_error : (last : ℤ) (e : FrameError) → AreNamed (error_event last e)
named_error last (frame.Header why) = tt
named_error last (frame.Extension h) = named_if (request_of h) (arrives.Refused (request_of h) code.InvalidMessage) (follows last h.id) tt
named_error last (frame.Compressed h) = named_if (request_of h) (arrives.Refused (request_of h) code.CompressionNotSupported) (follows last h.id) tt
named_error last (frame.UnknownProtocol h) = named_if (request_of h) (arrives.Refused (request_of h) code.UnsupportedProtocol) (follows last h.id) tt
named_error last (frame.UnknownKind h) = named_if (request_of h) (arrives.Refused (request_of h) code.InvalidMessageType) (follows last h.id) tt
named_error last (frame.Body h why) = named_if (request_of h) (arrives.Refused (request_of h) code.InvalidMessage) (follows last h.id) tt
named_error last (frame.Rest h at) = named_if (request_of h) (arrives.Refused (request_of h) code.InvalidMessage) (follows last h.id) tt
named_error last frame.NoMemory = tt

named_as : (last moment : ℤ) (r : Result (Header × Message) FrameError) → IfOk r (λ y. IsNamed y.0 y.1) → AreNamed (arrived_as last moment r)
named_as last moment (Ok y) is = named_if (request_of y.0) (arrives.Fresh y.0 moment y.1) (follows last y.0.id) is
named_as last moment (Err e) is = named_error last e

named_by : (last moment : ℤ) (bytes : List ℕ) (b : Bool) → AreNamed (arrived_by b last moment bytes)
named_by last moment bytes true = named_as last moment (read_of Client bytes) (read_is_named Client bytes)
named_by last moment bytes false = tt

named : (last : ℤ) (e : Event) → AreNamed (arrived last e)
named last (Receives bytes moment) = named_by last moment bytes (nat_le (length bytes) max_message_len)
named last (Polls front) = tt

-- ---- the induction

requests-accepted : (a : Arrived) → is_request_as a ≡ true → is_accepted a ≡ true
requests-accepted (arrives.Unreadable c) is = is
requests-accepted (arrives.Stale r) is = is
requests-accepted (arrives.Refused r c) is = refl
requests-accepted (arrives.Fresh h moment m) is = refl
requests-accepted (arrives.Polled front) is = is

-- a place below that of a commit
up : {h : List Entry} {p n q : ℕ} {ts : List Touch} {left right : List Message} → n ≤ q → Lawful h p q ts left right → Lawful h p n ts left right
up le r = record { same = r.same; free = r.free; above = omega (arith, le, r.above) }

module _ (config : Config) (n : ℕ) (h : List Entry) (p : ℕ) (between : ValuesStayBetween) (no_conflict : NoConflictIsFree) (own_keys : LooksAtOwnKeys) where
  module _ (base : State) (es : List Event) (ih : Induction config n h p base es) (x : Transaction) (joiner : Option Awaited) (blobs : ℕ) (la : ℤ) (na : ℕ) (oa : List Bool) (ba : Subbed) (low : blobs ≤ 2 ^ 64 - 1) where
    abbrev one : State
    one = at base la na oa ba (marked (length (take p h)) x) joiner blobs []

    -- once an event that is not a request led to a state next to that before it
    after_aside : (last : ℤ) (ns : ℕ) (os : List Bool) (bs : Subbed) (v : State) (q : ℕ) (qs : List ℕ) (sent : List Outgoing) (made : List (ℕ × Entry)) (reach : ℕ)
        → Beside (at base last ns os bs x joiner blobs []) v → v.pending ≡ None → Later la last → na ≤ ns → RisesFrom q qs → AreWithin q x.touched
        → Succeeds config n h p (course (drained v) qs sent made reach) es
        → Lawful h p q x.touched (replies config n h (course (drained v) qs sent made reach) es) (alone config (take p h) one (requests config n h (course (drained v) qs sent made reach) es))
    after_aside last ns os bs v q qs sent made reach b idle later le rises within succ = by v.phase refl b.11 succ
      where
        by : (ph : Phase) → v.phase ≡ ph → IsBegun ph → Succeeds config n h p (course (drained v) qs sent made reach) es
            → Lawful h p q x.touched (replies config n h (course (drained v) qs sent made reach) es) (alone config (take p h) one (requests config n h (course (drained v) qs sent made reach) es))
        by (phase.Live live.Waiting) is begun s = absurd begun
        by (phase.Live live.Open) is begun s =
            let to : drained v ≡ at base last v.next_id v.opens v.subs x joiner blobs [] = λ j. record {
              config = b.0 j;
              number = b.1 j;
              phase = is j;
              last_id = b.2 j;
              next_id = v.next_id;
              accepted = b.3 j;
              formats = b.4 j;
              limit = b.5 j;
              blobs = b.6 j;
              stage = b.7 j;
              starts = b.8 j;
              joiner = b.9 j;
              opens = v.opens;
              subs = v.subs;
              pending = idle j;
              out = [];
            } in
            subst (λ z. Succeeds config n h p (course z qs sent made reach) es → Lawful h p q x.touched (replies config n h (course z qs sent made reach) es) (alone config (take p h) one (requests config n h (course z qs sent made reach) es))) (sym to)
            (ih x joiner blobs last la v.next_id na v.opens oa v.subs ba q qs sent made reach later (omega (arith, le, b.10)) low rises within) s
        by (phase.Ended e) is begun s = absurd (ended-fails config n h p es e (drained v) qs sent made reach
            (subst (λ z. Succeeds config n h p (course (record (drained v) { phase = z }) qs sent made reach) es) is s))

    module _ (last : ℤ) (ns : ℕ) (os : List Bool) (bs : Subbed) (c : Course) (moment : ℤ) (q : ℕ) (later : Later la last) (le : na ≤ ns) (rises : RisesFrom q c.places) (within : AreWithin q x.touched) where
      abbrev before : State
      before = at base last ns os bs x joiner blobs []

      abbrev Claimed : Option Transaction → Taken → Type 0
      Claimed st t =
          EndsBy config h p st t.state.pending t.call c.places (Succeeds config n h p (asked config n h moment c t.state t.call) es)
          → Lawful h p q x.touched (while_open st (where_so false (bodies (asked config n h moment (record c { sent = [] }) t.state t.call).sent) ++ replies config n h (asked config n h moment c t.state t.call) es))
          (alone config (take p h) one (while_open st (requests config n h (asked config n h moment c t.state t.call) es)))

      -- the answer to a call that is not the transaction's
      called : (s : State) (k : StoreCall) → Beside before s → IsApart s.pending → (ps : List ℕ) → RisesFrom q ps
          → Succeeds config n h p (answered_at config n h moment c s k ps) es
          → Lawful h p q x.touched (replies config n h (answered_at config n h moment c s k ps) es) (alone config (take p h) one (requests config n h (answered_at config n h moment c s k ps) es))
      called s k b apart [] up_to succ = absurd (short-fails config n h p es (answered_at config n h moment c s k []) refl refl succ)
      called s k b apart (i ∷ is) up_to succ =
          let a = answered config (take i h) k in
          let r = heard_beside s a apart (subst (λ z. z ≤ 2 ^ 64 - 1) (sym b.6) low, b.11) in
          let v = hears s a in
          let entries = added config (take i h) n (own_number c.made) moment k in
          up up_to.0 (after_aside last ns os bs v i is (c.sent ++ v.out) (c.made ++ at_place i entries) (i + length entries) (beside-trans before s v b r.0) r.1 later le up_to.1 (marks-rise q i x.touched up_to.0 within) succ)

      left_open : (s : State) (k : Option StoreCall) → Beside before s → KeepsApart k s.pending → Claimed (Some x) (record { state = s; call = k })
      left_open s None b apart succ = after_aside last ns os bs s q c.places (c.sent ++ s.out) c.made c.reach b apart later le rises within succ.1
      left_open s (Some k) b apart succ = called s k b apart c.places rises succ.1

      commits : (k : Option StoreCall) (s : State) (ps : List ℕ) → RisesFrom q ps → k ≡ Some (call.Commit (to_commit x)) → CommitsAt config h p k ps → Lawful h p q x.touched [] []
      commits k s ps up_to is done = by ps up_to (subst (λ z. CommitsAt config h p z ps) is done)
        where
          by : (ps : List ℕ) → RisesFrom q ps → CommitsAt config h p (Some (call.Commit (to_commit x))) ps → Lawful h p q x.touched [] []
          by [] up_to done = absurd done
          by (i ∷ is) up_to done = record { same = refl; free = no_conflict x.touched (take p h) (committed config (take p h) x done.1); above = omega (arith, up_to.0, done.0) }

      aside : (t : Taken) → Aside before x t → Claimed t.state.stage t
      aside t (Goes l) = subst (λ st. Claimed st t) (sym l.0.7) (left_open t.state t.call l.0 l.1)
      aside t (Commits gone is) = subst (λ st. Claimed st t) (sym gone) (commits t.call t.state c.places rises is)
      aside t (Drops gone is) = subst (λ st. Claimed st t) (sym gone) (λ done. absurd (subst (λ k. CommitsAt config h p k c.places) is done))

  -- a state with the id of what arrived
  accepted-is : (base : State) (last : ℤ) (next : ℕ) (os : List Bool) (bs : Subbed) (x : Transaction) (joiner : Option Awaited) (blobs : ℕ) (a : Arrived)
      → accepted a (at base last next os bs x joiner blobs []) ≡ at base (id_in last a) next os bs x joiner blobs []
  accepted-is base last next os bs x joiner blobs (arrives.Unreadable c) = refl
  accepted-is base last next os bs x joiner blobs (arrives.Stale r) = refl
  accepted-is base last next os bs x joiner blobs (arrives.Refused r c) = refl
  accepted-is base last next os bs x joiner blobs (arrives.Fresh hd moment m) = refl
  accepted-is base last next os bs x joiner blobs (arrives.Polled front) = refl

  -- a request is one more that the session alone answers
  one_more : (st : Option Transaction) (s : State) (e : Event) (v : State) (rest : List Event) → after_event config (take p h) s e ≡ v
      → while_open st (bodies v.out ++ alone config (take p h) (drained v) rest) ≡ alone config (take p h) s (while_open st (e ∷ rest))
  one_more None s e v rest is = refl
  one_more (Some y) s e v rest is = ap (λ z. bodies z.out ++ alone config (take p h) (drained z) rest) (sym is)

  -- an event of the run, by whether it is a request of the transaction
  module _ (base : State) (es : List Event) (ih : Induction config n h p base es) (e : Event) (x : Transaction) (joiner : Option Awaited) (blobs : ℕ) (ls la : ℤ) (ns na : ℕ) (os oa : List Bool) (bs ba : Subbed) (q : ℕ) (c : Course)
      (later : Later la ls) (le : na ≤ ns) (low : blobs ≤ 2 ^ 64 - 1) (rises : RisesFrom q c.places) (within : AreWithin q x.touched) where
    abbrev run_before : State
    run_before = at base ls ns os bs x joiner blobs []

    abbrev alone_before : State
    alone_before = at base la na oa ba (marked (length (take p h)) x) joiner blobs []

    abbrev half : Taken
    half = by_event live.Open (arrived ls e) run_before

    one_event : (b : Bool) → is_request_as (arrived ls e) ≡ b
        → EndsBy config h p half.state.stage half.state.pending half.call c.places (Succeeds config n h p (asked config n h (moment_of e) c half.state half.call) es)
        → Lawful h p q x.touched (while_open half.state.stage (where_so b (bodies (asked config n h (moment_of e) (record c { sent = [] }) half.state half.call).sent) ++ replies config n h (asked config n h (moment_of e) c half.state half.call) es))
        (alone config (take p h) alone_before (while_open half.state.stage (where_so b (e ∷ []) ++ requests config n h (asked config n h (moment_of e) c half.state half.call) es)))
    unfolding takes
    one_event true is succ =
        let there : arrived la e ≡ arrived ls e = (stands la ls e later).0 (requests-accepted (arrived ls e) is) in
        let r = request_both config n h p base between own_keys es ih c (moment_of e) q rises x joiner blobs ns na os oa bs ba le low within (arrived ls e) ls la is (named ls e) succ in
        let u = by_event live.Open (arrived ls e) alone_before in
        record {
          same = r.same ∙ one_more half.state.stage alone_before e (after_call config (take p h) u.state u.call) (requests config n h (asked config n h (moment_of e) c half.state half.call) es)
              (ap (λ z. after_call config (take p h) (by_event live.Open z alone_before).state (by_event live.Open z alone_before).call) there);
          free = r.free;
          above = r.above;
        }
    one_event false is succ =
        let l = (stands la ls e later).1 in
        let apart = subst (λ z. Aside z x half) (accepted-is base ls ns os bs x joiner blobs (arrived ls e)) (event_aside (arrived ls e) x run_before refl (low, tt) refl is (named ls e)) in
        aside base es ih x joiner blobs la na oa ba low (id_in ls (arrived ls e)) ns os bs c (moment_of e) q l le rises within half apart succ

  serial_from : (base : State) (es : List Event) → Induction config n h p base es
  unfolding takes
  serial_from base [] x joiner blobs ls la ns na os oa bs ba q ps sent made reach later le low rises within succ = absurd succ
  serial_from base (e ∷ es) x joiner blobs ls la ns na os oa bs ba q ps sent made reach later le low rises within succ =
      one_event base es (serial_from base es) e x joiner blobs ls la ns na os oa bs ba q (course (at base ls ns os bs x joiner blobs []) ps sent made reach) later le low rises within (is_request_as (arrived ls e)) refl succ

  pub committed_from : (c : Course) (x : Transaction) (es : List Event) → c.short ≡ false → Begins c.state x → RisesFrom 0 c.places → Succeeds config n h p c es
      → replies config n h c es ≡ alone config (take p h) c.state (requests config n h c es)
  committed_from c x es short begins rises succ =
      let s = c.state in
      let to : at s s.last_id s.next_id s.opens s.subs (retouched [] x) s.joiner s.blobs [] ≡ s = sym (λ j. record {
        config = s.config;
        number = s.number;
        phase = begins.phase j;
        last_id = s.last_id;
        next_id = s.next_id;
        accepted = s.accepted;
        formats = s.formats;
        limit = s.limit;
        blobs = s.blobs;
        stage = (begins.stage ∙ ap (λ ts. Some (retouched ts x)) begins.touched) j;
        starts = s.starts;
        joiner = s.joiner;
        opens = s.opens;
        subs = s.subs;
        pending = begins.kept j;
        out = begins.out j;
      }) in
      let there : course (at s s.last_id s.next_id s.opens s.subs (retouched [] x) s.joiner s.blobs []) c.places c.sent c.made c.reach ≡ c = λ j. record { state = to j; places = c.places; sent = c.sent; made = c.made; short = sym short j; reach = c.reach } in
      subst (λ d. Succeeds config n h p d es → replies config n h d es ≡ alone config (take p h) d.state (requests config n h d es)) there
      (λ z. (serial_from s es (retouched [] x) s.joiner s.blobs s.last_id s.last_id s.next_id s.next_id s.opens s.opens s.subs s.subs 0 c.places c.sent c.made c.reach (λ id is. is) (omega arith) begins.blobs rises tt z).same) succ

pub committed_is_serial : ValuesStayBetween → NoConflictIsFree → LooksAtOwnKeys → CommittedIsSerial
committed_is_serial between no_conflict own_keys config n h p c x es short begins rises succ = committed_from config n h p between no_conflict own_keys c x es short begins rises succ
