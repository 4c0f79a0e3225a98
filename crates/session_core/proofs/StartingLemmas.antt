-- Subscriptions that begin, one granted key after the other; for the crates above too.
use Rattle.std.specs.Prelude.{ℕ, ℤ, pos, Bool, true, false, cond, List, [], ◌∷◌, ◌++◌, ◌≡◌, ◌+◌, ◌≤◌, ◌<◌, ◌||◌, nat_le, Option, Some, None, map, take, length, if◌then◌else◌, refl}
use Rattle.std.specs.List.{list_any, AllByRecursion}
use Rattle.std.specs.Ordering.{int_eq}
use Rattle.std.proofs.Common.{ap, sym, ◌∙◌, subst, arith, append-nil, append_assoc, length-append}
use Rattle.std.proofs.lemmas.Bool.{or_parts}
use Rattle.std.proofs.lemmas.Bool.Decides.{nat_tests}
use Rattle.std.proofs.lemmas.List.{map-append}
use Rattle.std.proofs.lemmas.Option.{none-some}
use Rattle.subscribe_core.proofs.StreamLemmas.{of-append}
use Rattle.etp_values.proofs.EachLemmas.{all-append}
use Rattle.etp_values.proofs.IntLemmas.{int_eq_is}
use Rattle.server_config.specs.declared.config.Config.{Config}
use Rattle.channel_rows.specs.Notices.{notice_of}
use Rattle.channel_rows.specs.Subscriptions.{begin_one, begins, first_notices, is_full, is_taken, names, start_at, subscribe_one, subscribe_with}
use Rattle.channel_rows.specs.declared.subscribing.Beginning.{Beginning}
use Rattle.channel_rows.specs.declared.subscribing.Naming.{Naming}
use Rattle.channel_store.specs.Points.{append_of, past}
use Rattle.channel_store.specs.Refusals.{channel_at}
use Rattle.channel_store.specs.declared.change.ChannelChange.{ChannelChange}
use Rattle.channel_store.specs.declared.change.What.{What}
use Rattle.channel_store.specs.declared.change.What.TheVariants.{Append}
use Rattle.channel_store.specs.declared.subscription.Sub.{Sub}
use Rattle.etp_values.specs.declared.code.ErrorCode.{ErrorCode}
use Rattle.etp_values.specs.declared.code.ErrorCode.TheVariants.{InvalidIndexKind, InvalidState, LimitExceeded}
use Rattle.etp_values.specs.declared.point.Point.{Point}
use Rattle.keyed_requests.specs.Keyed.{checked, finished_state, kept, sent}
use Rattle.keyed_requests.specs.declared.keys.Decision.{Decision}
use Rattle.keyed_requests.specs.declared.keys.Decision.TheVariants.{Granted, Refused}
use Rattle.msg_channel.specs.declared.channel_subscribe_messages.ChannelSubscribeInfo.{ChannelSubscribeInfo}
use Rattle.msg_channel.specs.declared.channel_subscribe_messages.ChannelSubscribeMessage.{ChannelSubscribeMessage}
use Rattle.store_machine.specs.Channels.{channel_points, channels_of}
use Rattle.store_machine.specs.Starts.{begun, room_behind, started}
use Rattle.store_machine.specs.declared.call.Start.{Start}
use Rattle.store_machine.specs.declared.call.StartAsk.{StartAsk}
use Rattle.store_machine.specs.declared.call.StartReply.{StartReply}
use Rattle.store_machine.specs.declared.call.StartReply.TheVariants as replied
use Rattle.store_machine.specs.declared.journal.Entry.{Entry}
use Rattle.subscribe_core.specs.Calls.{AreApart}
use Rattle.subscribe_core.specs.Streams.{of_channel}
use Rattle.subscribe_core.specs.Subscriptions.{Subbed, cursor_after, has_sub}
use Rattle.subscribe_core.specs.Views.{sub_of}
use Rattle.session_core.specs.Granting.{HasNews}
use Rattle.session_core.proofs.OwingLemmas.{begins_at, told_up_to}
use Rattle.subscribe_core.proofs.SubLemmas.{absent-has, apart-push, found-push, has-absent, other_way}
use Rattle.session_core.proofs.StandingLemmas.{IsChannel, absent-push, begun_is}
use Rattle.session_core.proofs.TellingLemmas.{AreSolid}

-- ---- what holds for subscriptions at a place

-- one was made at a place that was used, for a channel that exists
abbrev pub IsKnown : Config → ℕ → Sub → Type 0
IsKnown config last s = (s.from ≤ last) × IsChannel config s.channel

pub record Keeps (config : Config) (last : ℕ) (v : Subbed) : Type 0 where
  pub pending : v.pending ≡ []
  pub within : v.cursor ≤ last
  pub apart : AreApart v.subs
  pub known : AllByRecursion (IsKnown config last) v.subs

-- the stream up to the cursor, by the changes from the first entry on
abbrev pub owes_to : List Entry → ℕ → Option Sub → List What
owes_to h u None = []
owes_to h u (Some s) = told_up_to h u s

abbrev pub owes : List Entry → Subbed → ℤ → List What
owes h v c = owes_to h v.cursor (sub_of c v.subs)

-- the message that sends a change
abbrev pub told_as : ChannelChange → ChannelSubscribeMessage
told_as x = notice_of x.at x.channel x.what

-- the change that the first points are
abbrev pub first_change : ℤ → List Point → List ChannelChange
first_change channel [] = []
first_change channel (p ∷ ps) = record { place = 0; channel = channel; at = pos 0; what = Append (p ∷ ps) } ∷ []

pub first_told : (channel : ℤ) (ps : List Point) → first_notices channel ps ≡ map told_as (first_change channel ps)
first_told channel [] = refl
first_told channel (p ∷ ps) = refl

first_solid : (channel : ℤ) (ps : List Point) → AreSolid (first_change channel ps)
first_solid channel [] = tt
first_solid channel (p ∷ ps) = (tt, tt)

first_of : (c channel : ℤ) (ps : List Point) (b : Bool) → int_eq channel c ≡ b → of_channel c (first_change channel ps) ≡ (if b then append_of ps else [])
first_of c channel [] true e = refl
first_of c channel [] false e = refl
first_of c channel (p ∷ ps) true e = let x : ChannelChange = record { place = 0; channel = channel; at = pos 0; what = Append (p ∷ ps) } in ap (λ b. map (λ (x : ChannelChange). x.what) (cond b (x ∷ []) [])) e
first_of c channel (p ∷ ps) false e = let x : ChannelChange = record { place = 0; channel = channel; at = pos 0; what = Append (p ∷ ps) } in ap (λ b. map (λ (x : ChannelChange). x.what) (cond b (x ∷ []) [])) e

pub any_push : (c z : ℤ) (xs : List ℤ) → list_any (int_eq c) (xs ++ z ∷ []) ≡ false → (list_any (int_eq c) xs ≡ false) × (int_eq c z ≡ false)
any_push c z [] h = (refl, (or_parts (int_eq c z) false h).0)
any_push c z (x ∷ xs) h =
    let both = or_parts (int_eq c x) (list_any (int_eq c) (xs ++ z ∷ [])) h in
    let rest = any_push c z xs both.1 in
    ((λ i. both.0 i || rest.0 i), rest.1)

module _ (config : Config) (h : List Entry) (p : ℕ) (t : ℤ → List What) (first : Subbed) where
  -- what has begun so far, besides what was sent before
  pub record Begins (b : Beginning) : Type 0 where
    pub keeps : Keeps config p b.subs
    pub new : List ChannelChange
    pub notes : b.notices ≡ map told_as new
    pub solid : AreSolid new
    pub flows : (c : ℤ) → t c ++ of_channel c new ≡ owes h b.subs c
    pub stays : (c : ℤ) (s : Sub) → sub_of c first.subs ≡ Some s → sub_of c b.subs.subs ≡ Some s

  -- only what was named has begun
  pub record IsNamedIn (n : Naming) (b : Beginning) : Type 0 where
    pub fresh : (c : ℤ) → list_any (int_eq c) n.named ≡ false → has_sub c first.subs ≡ false → has_sub c b.subs.subs ≡ false
    pub few : length b.subs.subs ≤ length first.subs + n.going

  -- ---- one more subscription

  abbrev new_sub : StartAsk → ℤ → Sub
  new_sub a start = record { channel = a.channel; start = start; from = p; all = a.all }

  cursor_within : (xs : List Sub) (s : Sub) (cursor : ℕ) → s.from ≤ p → cursor ≤ p → cursor_after xs s cursor ≤ p
  cursor_within [] s cursor a b = a
  cursor_within (x ∷ xs) s cursor a b = b

  cursor_stays : (c : ℤ) (xs : List Sub) (s x : Sub) (cursor : ℕ) → sub_of c xs ≡ Some x → cursor_after xs s cursor ≡ cursor
  cursor_stays c [] s x cursor e = absurd (none-some x e)
  cursor_stays c (y ∷ ys) s x cursor e = refl

  abbrev grown : Subbed → Sub → Subbed
  grown v s = record v { subs = v.subs ++ s ∷ []; cursor = cursor_after v.subs s v.cursor }

  other_owes : (v : Subbed) (s : Sub) (c : ℤ) → int_eq s.channel c ≡ false → owes h (grown v s) c ≡ owes h v c
  other_owes v s c e = by (sub_of c v.subs) refl
    where
      by : (o : Option Sub) → sub_of c v.subs ≡ o → owes h (grown v s) c ≡ owes_to h v.cursor o
      by None f = ap (owes_to h (cursor_after v.subs s v.cursor)) (absent-push c v.subs s f ∙ ap (λ (b : Bool). if b then Some s else None) e)
      by (Some x) f = (λ i. owes_to h (cursor_stays c v.subs s x v.cursor f i) (found-push c v.subs s x f i))

  added : (b : Beginning) (a : StartAsk) (start : ℤ) (ps : List Point) → Begins b → has_sub a.channel b.subs.subs ≡ false → IsChannel config a.channel → ps ≡ past start (channel_points a.channel (take p h))
      → Begins (record { subs = grown b.subs (new_sub a start); notices = b.notices ++ first_notices a.channel ps })
  added b a start ps begins has is from =
      let s : Sub = new_sub a start in
      let none : sub_of a.channel b.subs.subs ≡ None = absent-has a.channel b.subs.subs has in
      let cursor : ℕ = cursor_after b.subs.subs s b.subs.cursor in
      let within : cursor ≤ p = cursor_within b.subs.subs s b.subs.cursor (omega arith) begins.keeps.within in
      record {
        keeps = record {
          pending = begins.keeps.pending;
          within = within;
          apart = apart-push b.subs.subs s none begins.keeps.apart;
          known = all-append (IsKnown config p) b.subs.subs (s ∷ []) begins.keeps.known ((omega arith, is), tt);
        };
        new = begins.new ++ first_change a.channel ps;
        notes = (λ i. begins.notes i ++ first_told a.channel ps i) ∙ sym (map-append told_as begins.new (first_change a.channel ps));
        solid = all-append (λ (x : ChannelChange). HasNews x.what) begins.new (first_change a.channel ps) begins.solid (first_solid a.channel ps);
        flows = λ c. ap (λ l. t c ++ l) (of-append c begins.new (first_change a.channel ps)) ∙ sym (append_assoc (t c) (of_channel c begins.new) (of_channel c (first_change a.channel ps)))
            ∙ flow c (int_eq a.channel c) refl;
        stays = λ c x e. found-push c b.subs.subs s x (begins.stays c x e);
      }
    where
      flow : (c : ℤ) (d : Bool) → int_eq a.channel c ≡ d → (t c ++ of_channel c begins.new) ++ of_channel c (first_change a.channel ps) ≡ owes h (grown b.subs (new_sub a start)) c
      flow c true e =
          let s : Sub = new_sub a start in
          let same : a.channel ≡ c = int_eq_is a.channel c e in
          let none : sub_of c b.subs.subs ≡ None = ap (λ z. sub_of z b.subs.subs) (sym same) ∙ absent-has a.channel b.subs.subs has in
          let cursor : ℕ = cursor_after b.subs.subs s b.subs.cursor in
          let within : cursor ≤ p = cursor_within b.subs.subs s b.subs.cursor (omega arith) begins.keeps.within in
          (λ i. (begins.flows c ∙ ap (owes_to h b.subs.cursor) none) i ++ first_of c a.channel ps true e i)
          ∙ ap append_of from
          ∙ sym (ap (owes_to h cursor) (absent-push c b.subs.subs s none ∙ ap (λ (b : Bool). if b then Some s else None) e) ∙ begins_at h cursor s within)
      flow c false e =
          (λ i. begins.flows c i ++ first_of c a.channel ps false e i) ∙ append-nil (owes h b.subs c) ∙ sym (other_owes b.subs (new_sub a start) c e)

  -- ---- a granted key by the store's answer

  -- if it is accepted, its channel exists, and its points are those from its start on
  abbrev IsStart : StartAsk → StartReply → Type 0
  IsStart a (replied.Refused code) = Unit {0}
  IsStart a (replied.From start ps) = IsChannel config a.channel × (ps ≡ past start (channel_points a.channel (take p h)))

  abbrev AreStarts : List (List ℕ × StartAsk) → List (List ℕ × StartReply) → Type 0
  AreStarts [] rs = Unit {0}
  AreStarts (a ∷ as_) [] = ⊥
  AreStarts (a ∷ as_) (r ∷ rs) = IsStart a.1 r.1 × AreStarts as_ rs

  is_start : (a : StartAsk) (room : _) (r : StartReply) → begun (channel_at (channels_of config (take p h)) a.channel) room a.start ≡ r → IsStart a r
  is_start a room (replied.Refused code) e = tt
  is_start a room (replied.From start ps) e = begun_is config (take p h) a.channel room a.start start ps e

  pub are_starts : (room : _) (asks : List (List ℕ × StartAsk)) → AreStarts asks (started (channels_of config (take p h)) room asks)
  are_starts room [] = tt
  are_starts room (a ∷ asks) = (
    is_start a.1 room (begun (channel_at (channels_of config (take p h)) a.1.channel) room a.1.start) refl,
    are_starts (room_behind room (begun (channel_at (channels_of config (take p h)) a.1.channel) room a.1.start)) asks,
  )

  answered : (b : Beginning) (a : StartAsk) (r : StartReply) → IsStart a r → Begins b → has_sub a.channel b.subs.subs ≡ false → nat_le 256 (length b.subs.subs) ≡ false → Begins (begins p b a r).0
  answered b a (replied.Refused code) is begins has full = begins
  answered b a (replied.From start ps) is begins has full =
      let s : Sub = new_sub a start in
      let both : (has_sub a.channel b.subs.subs || nat_le 256 (length b.subs.subs)) ≡ false = (λ i. has i || full i) in
      subst (λ (t : Bool). Begins (record { subs = if t then b.subs else record b.subs { subs = b.subs.subs ++ s ∷ []; cursor = cursor_after b.subs.subs s b.subs.cursor }; notices = b.notices ++ first_notices a.channel ps }))
      (sym both) (added b a start ps begins has is.0 is.1)

  named_on : (n : Naming) (b : Beginning) (a : StartAsk) (r : StartReply) → IsNamedIn n b → nat_le 256 (length b.subs.subs) ≡ false → has_sub a.channel b.subs.subs ≡ false
      → IsNamedIn (record { named = n.named ++ a.channel ∷ []; going = n.going + 1 }) (begins p b a r).0
  named_on n b a (replied.Refused code) is full has = record { fresh = λ c e g. is.fresh c (any_push c a.channel n.named e).0 g; few = let f = is.few in omega (arith, f) }
  named_on n b a (replied.From start ps) is full has =
      let s : Sub = new_sub a start in
      let both : (has_sub a.channel b.subs.subs || nat_le 256 (length b.subs.subs)) ≡ false = (λ i. has i || full i) in
      subst (λ (t : Bool). IsNamedIn (record { named = n.named ++ a.channel ∷ []; going = n.going + 1 }) (record { subs = if t then b.subs else record b.subs { subs = b.subs.subs ++ s ∷ []; cursor = cursor_after b.subs.subs s b.subs.cursor }; notices = b.notices ++ first_notices a.channel ps }))
      (sym both)
      (record {
        fresh = λ c e g.
            let f = any_push c a.channel n.named e in
            has-absent c (b.subs.subs ++ s ∷ []) (absent-push c b.subs.subs s (absent-has c b.subs.subs (is.fresh c f.0 g)) ∙ ap (λ (b : Bool). if b then Some s else None) (other_way c a.channel f.1));
        few = let f = is.few in let l = length-append b.subs.subs (s ∷ []) in omega (arith, f, l);
      })

  named_more : (n : Naming) (b : Beginning) (z : ℤ) → IsNamedIn n b → IsNamedIn (names n z) b
  named_more n b z is = record { fresh = λ c e g. is.fresh c (any_push c z n.named e).0 g; few = is.few }

  -- ---- all keys

  abbrev ends_as : Naming → Beginning → List (List ℕ × StartReply) → List (List ℕ × ChannelSubscribeInfo) → Beginning
  ends_as n b rs items = finished_state (begin_one p) 1 b (kept (λ a. a) (checked (subscribe_one first.subs) n items)) rs

  -- with what is decided about the first key
  abbrev ends_with : Naming × Decision StartAsk → List ℕ → Beginning → List (List ℕ × StartReply) → List (List ℕ × ChannelSubscribeInfo) → Beginning
  ends_with d key b rs items = finished_state (begin_one p) 1 b (kept (λ a. a) ((key, d.1) ∷ checked (subscribe_one first.subs) d.0 items)) rs

  abbrev starts_with : Naming × Decision StartAsk → List ℕ → List (List ℕ × StartReply) → List (List ℕ × ChannelSubscribeInfo) → Type 0
  starts_with d key rs items = AreStarts (sent (λ a. a) ((key, d.1) ∷ checked (subscribe_one first.subs) d.0 items)) rs

  abbrev new_ask : ChannelSubscribeInfo → Start → StartAsk
  new_ask x start = record { channel = x.channel_id; start = start; all = x.data_changes }

  -- what is to be shown about the keys that are left
  abbrev AllBegin : List (List ℕ × ChannelSubscribeInfo) → Type 0
  AllBegin items =
      (n : Naming) (b : Beginning) (rs : List (List ℕ × StartReply)) → AreStarts (sent (λ a. a) (checked (subscribe_one first.subs) n items)) rs → Begins b → IsNamedIn n b → Begins (ends_as n b rs items)

  module _ (x : List ℕ × ChannelSubscribeInfo) (items : List (List ℕ × ChannelSubscribeInfo)) (rest : AllBegin items) (n : Naming) (b : Beginning) (begun_so : Begins b) (is : IsNamedIn n b) where
    key_refused : (code : ErrorCode) (rs : List (List ℕ × StartReply)) → starts_with (names n x.1.channel_id, Refused code) x.0 rs items → Begins (ends_with (names n x.1.channel_id, Refused code) x.0 b rs items)
    key_refused code rs starts = rest (names n x.1.channel_id) b rs starts begun_so (named_more n b x.1.channel_id is)

    key_granted : (start : Start) (rs : List (List ℕ × StartReply)) → is_taken first.subs n.named x.1.channel_id ≡ false → is_full first.subs n.going ≡ false
        → starts_with (record (names n x.1.channel_id) { going = n.going + 1 }, Granted (new_ask x.1 start)) x.0 rs items
        → Begins (ends_with (record (names n x.1.channel_id) { going = n.going + 1 }, Granted (new_ask x.1 start)) x.0 b rs items)
    key_granted start [] untaken unfull starts = absurd starts
    key_granted start (r ∷ rs) untaken unfull starts =
        let a : StartAsk = new_ask x.1 start in
        let apart = or_parts (has_sub a.channel first.subs) (list_any (int_eq a.channel) n.named) untaken in
        let has : has_sub a.channel b.subs.subs ≡ false = is.fresh a.channel apart.1 apart.0 in
        let few = is.few in
        let less : length first.subs + n.going < 256 = grind (arith, nat_tests, unfull) in
        let few_left : length b.subs.subs < 256 = omega (arith, few, less) in
        let full : nat_le 256 (length b.subs.subs) ≡ false = grind (arith, nat_tests, few_left) in
        rest (record (names n x.1.channel_id) { going = n.going + 1 }) (begins p b a r.1).0 rs starts.1 (answered b a r.1 starts.0 begun_so has full) (named_on n b a r.1 is full has)

    key_by_full : (start : Start) (rs : List (List ℕ × StartReply)) (f : Bool) → is_taken first.subs n.named x.1.channel_id ≡ false → is_full first.subs n.going ≡ f
        → starts_with (if f then (names n x.1.channel_id, Refused LimitExceeded) else (record (names n x.1.channel_id) { going = n.going + 1 }, Granted (new_ask x.1 start))) x.0 rs items
        → Begins (ends_with (if f then (names n x.1.channel_id, Refused LimitExceeded) else (record (names n x.1.channel_id) { going = n.going + 1 }, Granted (new_ask x.1 start))) x.0 b rs items)
    key_by_full start rs true untaken e starts = key_refused LimitExceeded rs starts
    key_by_full start rs false untaken e starts = key_granted start rs untaken e starts

    key_by_taken : (start : Start) (rs : List (List ℕ × StartReply)) (d : Bool) → is_taken first.subs n.named x.1.channel_id ≡ d
        → starts_with (subscribe_with first.subs d (names n x.1.channel_id) x.1 (Some start)) x.0 rs items
        → Begins (ends_with (subscribe_with first.subs d (names n x.1.channel_id) x.1 (Some start)) x.0 b rs items)
    key_by_taken start rs true e starts = key_refused InvalidState rs starts
    key_by_taken start rs false e starts = key_by_full start rs (is_full first.subs n.going) e refl starts

    key_by_start : (rs : List (List ℕ × StartReply)) (o : Option Start)
        → starts_with (subscribe_with first.subs (is_taken first.subs n.named x.1.channel_id) (names n x.1.channel_id) x.1 o) x.0 rs items
        → Begins (ends_with (subscribe_with first.subs (is_taken first.subs n.named x.1.channel_id) (names n x.1.channel_id) x.1 o) x.0 b rs items)
    key_by_start rs None starts = key_refused InvalidIndexKind rs starts
    key_by_start rs (Some start) starts = key_by_taken start rs (is_taken first.subs n.named x.1.channel_id) refl starts

  pub all_begin : (items : List (List ℕ × ChannelSubscribeInfo)) → AllBegin items
  all_begin [] n b rs starts begins is = begins
  all_begin (x ∷ items) n b rs starts begins is = key_by_start x items (all_begin items) n b begins is rs (start_at x.1.start_index x.1.request_latest_index_count) starts
