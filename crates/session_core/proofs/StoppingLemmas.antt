-- What is heard where subscriptions are stopped; for the crates above too.
use Rattle.std.specs.Prelude.{ℕ, ℤ, Bool, true, false, List, [], ◌∷◌, ◌++◌, ◌≡◌, ◌+◌, ◌<◌, ◌^◌, Option, Some, None, is_some, fold, if◌then◌else◌, refl}
use Rattle.std.specs.BTreeMap.{insert_entry}
use Rattle.std.specs.Cmp.Lexicographic.{slice_cmp}
use Rattle.std.specs.Fmt.{signed_decimal}
use Rattle.std.specs.List.{AllByRecursion}
use Rattle.std.specs.Ordering.{int_eq, match_ordering, nat_cmp}
use Rattle.std.specs.declared.cmp.Ordering.{Ordering}
use Rattle.std.proofs.Common.{◌⊎◌, inl, inr, Less, Equal, Greater, ap, sym, ◌∙◌, subst, arith, append-nil}
use Rattle.std.proofs.lemmas.Bool.{false≢true}
use Rattle.std.proofs.lemmas.Fmt.{signed_decimal_injective}
use Rattle.std.proofs.lemmas.Map.Lookups.{exact_bytes}
use Rattle.etp_values.proofs.IntLemmas.{int_eq_self, int_eq_is}
use lib.Signed.{mag}
use Rattle.channel_rows.specs.Notices.{ids_of, reason_of, stop_response}
use Rattle.channel_rows.specs.Subscriptions.{stop_one}
use Rattle.channel_store.specs.declared.subscription.Sub.{Sub}
use Rattle.etp_frame.specs.Grouping.{entry_amount}
use Rattle.etp_frame.specs.Splitting.{parts}
use Rattle.etp_frame.specs.declared.message.Message.TheVariants as message
use Rattle.etp_schema.specs.Form.{long_form}
use Rattle.etp_values.specs.declared.code.ErrorCode.{ErrorCode}
use Rattle.etp_values.specs.declared.code.ErrorCode.TheVariants.{NotFound}
use Rattle.keyed_requests.specs.Keyed.{checked, checked_state, granted, keyed_replies}
use Rattle.keyed_requests.specs.declared.keys.Decision.{Decision}
use Rattle.keyed_requests.specs.declared.keys.Decision.TheVariants.{Granted, Refused}
use Rattle.msg_channel.specs.declared.channel_subscribe_messages.ChannelSubscribeMessage.TheVariants as subscribe
use Rattle.subscribe_core.specs.Calls.{AreApart}
use Rattle.subscribe_core.specs.Subscriptions.{Subbed, has_sub, others, without}
use Rattle.subscribe_core.specs.Views.{sub_of}
use Rattle.subscribe_core.specs.declared.stop.StopCause.{StopCause}
use Rattle.session_core.specs.declared.state.Addressee.{Addressee}
use Rattle.session_core.specs.declared.state.Addressee.TheVariants as to
use Rattle.session_core.specs.declared.state.Part.{Part}
use Rattle.session_core.specs.declared.state.Saying.{Saying}
use Rattle.session_core.specs.Replies.{refused_message, sayings_of, to_request}
use Rattle.session_core.specs.Sending.{blobs_after, cut_all, ended}
use Rattle.session_core.specs.Streams.{Heard, hear_stops, stops_for}
use Rattle.session_core.proofs.HearingLemmas.{IsQuiet, hear_parts, kinds_of, named, parts_quiet, stops, tells}
use Rattle.subscribe_core.proofs.SubLemmas.{found-others, other_way}
use Rattle.session_core.proofs.StandingLemmas.{none-others}

-- ---- a stop, in parts

-- whomever it is sent to
pub stop_heard : (limit number blobs : ℕ) (c : ℤ) (a : Addressee) (cause : StopCause) (ids : List (List ℕ × ℤ)) (qs : List Part) (k : Heard)
    → hear_parts c k (ended a (parts limit number blobs (message.ChannelSubscribe (stop_response cause ids))) ++ qs) ≡ hear_parts c (hear_stops c (reason_of cause) ids k) qs
stop_heard limit number blobs c a cause ids qs k =
    named (entry_amount long_form) limit c
    (λ g. message.ChannelSubscribe (subscribe.SubscriptionsStopped (record { reason = reason_of cause; channel_ids = g })))
    (λ k x. if int_eq x.1 c then stops_for (reason_of cause) k else k) (λ last g k. refl) a ids qs k

-- a reply that is all quiet
pub quiet_heard : (limit number blobs : ℕ) (c : ℤ) (xs : List Saying) (k : Heard) → AllByRecursion (λ (x : Saying). IsQuiet (tells x.message) (stops x.message)) xs
    → hear_parts c k (cut_all limit number blobs xs) ≡ k
quiet_heard limit number blobs c xs k q =
    ap (hear_parts c k) (sym (append-nil (cut_all limit number blobs xs))) ∙ parts_quiet c (cut_all limit number blobs xs) [] k (kinds_of IsQuiet limit number blobs xs q)

-- the reply to a request for stops
pub stop_reply_heard : (limit number blobs : ℕ) (c : ℤ) (cause : StopCause) (gs : List (List ℕ × ℤ)) (rs : List (List ℕ × ErrorCode)) (k : Heard)
    → hear_parts c k (cut_all limit number blobs (sayings_of message.ChannelSubscribe (keyed_replies (stop_response cause) gs rs))) ≡ hear_stops c (reason_of cause) gs k
stop_reply_heard limit number blobs c cause [] [] k = stop_heard limit number blobs c to.Request cause [] [] k
stop_reply_heard limit number blobs c cause [] (r ∷ rs) k = quiet_heard limit number blobs c (to_request (refused_message (r ∷ rs)) ∷ []) k ((refl, refl), tt)
stop_reply_heard limit number blobs c cause (g ∷ gs) [] k = stop_heard limit number blobs c to.Request cause (g ∷ gs) [] k
stop_reply_heard limit number blobs c cause (g ∷ gs) (r ∷ rs) k =
    let next : ℕ = blobs_after limit blobs (message.ChannelSubscribe (stop_response cause (g ∷ gs))) in
    stop_heard limit number blobs c to.Request cause (g ∷ gs) (cut_all limit number next (to_request (refused_message (r ∷ rs)) ∷ [])) k
    ∙ quiet_heard limit number next c (to_request (refused_message (r ∷ rs)) ∷ []) (hear_stops c (reason_of cause) (g ∷ gs) k) ((refl, refl), tt)

-- ---- UnsubscribeChannels

-- a subscription continues unheard, or is stopped
abbrev pub Ends : List ℕ → Heard → Option Sub → Heard → Option Sub → Type 0
Ends reason k None j o = (o ≡ None) × (j ≡ k)
Ends reason k (Some s) j o = ((o ≡ Some s) × (j ≡ k)) ⊎ ((o ≡ None) × (j ≡ stops_for reason k))

-- what stops leave
pub record Leaves (v w : Subbed) : Type 0 where
  pub cursor : w.cursor ≡ v.cursor
  pub pending : w.pending ≡ v.pending

abbrev after_stops : Subbed → List (List ℕ × ℤ) → Subbed
after_stops v ids = checked_state stop_one v ids

abbrev stop_by : Bool → ℤ → Subbed → Subbed × Decision ℤ
stop_by t z v = if t then (without z v, Granted z) else (without z v, Refused NotFound)

leaves_all : (v : Subbed) (ids : List (List ℕ × ℤ)) → Leaves v (after_stops v ids)
leaves_all v [] = record { cursor = refl; pending = refl }
leaves_all v (x ∷ ids) = by (has_sub x.1 v.subs) (leaves_all (without x.1 v) ids)
  where
    by : (t : Bool) → Leaves (without x.1 v) (after_stops (without x.1 v) ids)
        → Leaves v (after_stops (stop_by t x.1 v).0 ids)
    by true l = record { cursor = l.cursor; pending = l.pending }
    by false l = record { cursor = l.cursor; pending = l.pending }

-- a property that the other subscriptions keep
pub kept_after : (P : List Sub → Type 0) → ((d : ℤ) (xs : List Sub) → P xs → P (others d xs)) → (v : Subbed) (ids : List (List ℕ × ℤ)) → P v.subs → P (after_stops v ids).subs
kept_after P keep v [] p = p
kept_after P keep v (x ∷ ids) p = by (has_sub x.1 v.subs) (kept_after P keep (without x.1 v) ids (keep x.1 v.subs p))
  where
    by : (t : Bool) → P (after_stops (without x.1 v) ids).subs → P (after_stops (stop_by t x.1 v).0 ids).subs
    by true p = p
    by false p = p

ends_after : (reason : List ℕ) (c : ℤ) (v : Subbed) (ids : List (List ℕ × ℤ)) (k : Heard)
    → Ends reason k (sub_of c v.subs) (hear_stops c reason (granted (checked stop_one v ids)) k) (sub_of c (after_stops v ids).subs)
ends_after reason c v [] k = none (sub_of c v.subs)
  where
    none : (o : Option Sub) → Ends reason k o k o
    none None = (refl, refl)
    none (Some s) = inl (refl, refl)
ends_after reason c v (x ∷ ids) k = by (has_sub x.1 v.subs) (int_eq x.1 c) refl refl (ends_after reason c (without x.1 v) ids)
  where
    rest : Heard → Heard
    rest j = hear_stops c reason (granted (checked stop_one (without x.1 v) ids)) j

    last : Option Sub
    last = sub_of c (after_stops (without x.1 v) ids).subs

    -- the channel is another
    apart : ((j : Heard) → Ends reason j (sub_of c (without x.1 v).subs) (rest j) last) → (j : Heard) → int_eq x.1 c ≡ false → j ≡ k → Ends reason k (sub_of c v.subs) (rest j) last
    apart ends j e same = subst (λ (o : Option Sub). Ends reason k o (rest j) last) (found-others c x.1 e v.subs)
        (subst (λ (j : Heard). Ends reason k (sub_of c (without x.1 v).subs) (rest j) last) (sym same) (ends k))

    -- this one has none any more
    gone : ((j : Heard) → Ends reason j (sub_of c (without x.1 v).subs) (rest j) last) → (j : Heard) → int_eq x.1 c ≡ true → (last ≡ None) × (rest j ≡ j)
    gone ends j e =
        let none : sub_of c (others x.1 v.subs) ≡ None = ap (λ z. sub_of c (others z v.subs)) (int_eq_is x.1 c e) ∙ none-others c v.subs in
        subst (λ (o : Option Sub). Ends reason j o (rest j) last) none (ends j)

    stopped : (o : Option Sub) → is_some o ≡ true → (j : Heard) → j ≡ stops_for reason k → (last ≡ None) × (rest j ≡ j) → Ends reason k o (rest j) last
    stopped None some j is g = absurd (false≢true some)
    stopped (Some s) some j is g = inr (g.0, g.1 ∙ is)

    silent : (o : Option Sub) → is_some o ≡ false → (last ≡ None) × (rest k ≡ k) → Ends reason k o (rest k) last
    silent None some g = g
    silent (Some s) some g = absurd (false≢true (sym some))

    by : (t b : Bool) → has_sub x.1 v.subs ≡ t → int_eq x.1 c ≡ b → ((j : Heard) → Ends reason j (sub_of c (without x.1 v).subs) (rest j) last)
        → Ends reason k (sub_of c v.subs)
        (hear_stops c reason (granted ((x.0, (stop_by t x.1 v).1) ∷ checked stop_one (stop_by t x.1 v).0 ids)) k)
        (sub_of c (after_stops (stop_by t x.1 v).0 ids).subs)
    by true true has e ends =
        let j : Heard = if int_eq x.1 c then stops_for reason k else k in
        stopped (sub_of c v.subs) (ap (λ z. has_sub z v.subs) (sym (int_eq_is x.1 c e)) ∙ has) j (ap (λ (b : Bool). if b then stops_for reason k else k) e) (gone ends j e)
    by true false has e ends = apart ends (if int_eq x.1 c then stops_for reason k else k) e (ap (λ (b : Bool). if b then stops_for reason k else k) e)
    by false true has e ends = silent (sub_of c v.subs) (ap (λ z. has_sub z v.subs) (sym (int_eq_is x.1 c e)) ∙ has) (gone ends k e)
    by false false has e ends = apart ends k e refl

-- all that a request for stops does to a channel
pub unsubscribed : (reason : List ℕ) (c : ℤ) (v : Subbed) (ids : List (List ℕ × ℤ)) (k : Heard)
    → Leaves v (checked_state stop_one v ids)
    × Ends reason k (sub_of c v.subs) (hear_stops c reason (granted (checked stop_one v ids)) k) (sub_of c (checked_state stop_one v ids).subs)
unsubscribed reason c v ids k = (leaves_all v ids, ends_after reason c v ids k)

-- ---- all subscriptions stop

abbrev one_if : Bool → ℕ
one_if true = 1
one_if false = 0

-- how often a channel is named
abbrev times : ℤ → List (List ℕ × ℤ) → ℕ
times c [] = 0
times c (x ∷ xs) = one_if (int_eq x.1 c) + times c xs

never_heard : (reason : List ℕ) (c : ℤ) (ids : List (List ℕ × ℤ)) (k : Heard) → times c ids ≡ 0 → hear_stops c reason ids k ≡ k
never_heard reason c [] k h = refl
never_heard reason c (x ∷ xs) k h = by (int_eq x.1 c) h (never_heard reason c xs k)
  where
    by : (b : Bool) → one_if b + times c xs ≡ 0 → (times c xs ≡ 0 → hear_stops c reason xs k ≡ k) → hear_stops c reason xs (if b then stops_for reason k else k) ≡ k
    by true h rest = absurd (omega (arith, h))
    by false h rest = rest (omega (arith, h))

once_heard : (reason : List ℕ) (c : ℤ) (ids : List (List ℕ × ℤ)) (k : Heard) → times c ids ≡ 1 → hear_stops c reason ids k ≡ stops_for reason k
once_heard reason c [] k h = absurd (omega (arith, h))
once_heard reason c (x ∷ xs) k h = by (int_eq x.1 c) h (once_heard reason c xs k)
  where
    by : (b : Bool) → one_if b + times c xs ≡ 1 → (times c xs ≡ 1 → hear_stops c reason xs k ≡ stops_for reason k) → hear_stops c reason xs (if b then stops_for reason k else k) ≡ stops_for reason k
    by true h rest = never_heard reason c xs (stops_for reason k) (omega (arith, h))
    by false h rest = rest (omega (arith, h))

-- ids under their own decimals, which distinguish them
abbrev IsSmall : ℤ → Type 0
IsSmall z = mag z < 2 ^ 63

abbrev IsNamed : List ℕ × ℤ → Type 0
IsNamed x = (x.0 ≡ signed_decimal x.1) × IsSmall x.1

abbrev put_id : List (List ℕ × ℤ) → ℤ → List (List ℕ × ℤ)
put_id ids z = insert_entry (slice_cmp nat_cmp) ids (signed_decimal z) z

swap_sum : (a b c : ℕ) → a + (b + c) ≡ b + (a + c)
swap_sum a b c = omega arith

put_more : (c z : ℤ) → IsSmall z → (ids : List (List ℕ × ℤ)) → AllByRecursion IsNamed ids → times z ids ≡ 0
    → (times c (put_id ids z) ≡ one_if (int_eq z c) + times c ids) × AllByRecursion IsNamed (put_id ids z)
put_more c z small [] all none = (refl, ((refl, small), tt))
put_more c z small (x ∷ xs) all none = by (slice_cmp nat_cmp (signed_decimal z) x.0) refl (put_more c z small xs all.1)
  where
    apart : (b : Bool) → int_eq x.1 z ≡ b → one_if b + times z xs ≡ 0 → (int_eq x.1 z ≡ false) × (times z xs ≡ 0)
    apart true e h = absurd (omega (arith, h))
    apart false e h = (e, omega (arith, h))

    differs : (int_eq x.1 z ≡ false) × (times z xs ≡ 0)
    differs = apart (int_eq x.1 z) refl none

    by : (o : Ordering) → slice_cmp nat_cmp (signed_decimal z) x.0 ≡ o
        → (times z xs ≡ 0 → (times c (put_id xs z) ≡ one_if (int_eq z c) + times c xs) × AllByRecursion IsNamed (put_id xs z))
        → (times c (match_ordering o ((signed_decimal z, z) ∷ x ∷ xs) ((x.0, z) ∷ xs) (x ∷ put_id xs z)) ≡ one_if (int_eq z c) + times c (x ∷ xs))
        × AllByRecursion IsNamed (match_ordering o ((signed_decimal z, z) ∷ x ∷ xs) ((x.0, z) ∷ xs) (x ∷ put_id xs z))
    by Less e rest = (refl, ((refl, small), all))
    by Equal e rest =
        let text : signed_decimal z ≡ signed_decimal x.1 = exact_bytes (signed_decimal z) x.0 e ∙ all.0.0 in
        let same : z ≡ x.1 = signed_decimal_injective z x.1 small all.0.1 text in
        absurd (false≢true (sym differs.0 ∙ ap (λ y. int_eq y z) (sym same) ∙ int_eq_self z))
    by Greater e rest =
        let more = rest differs.1 in
        (ap (λ n. one_if (int_eq x.1 c) + n) more.0 ∙ swap_sum (one_if (int_eq x.1 c)) (one_if (int_eq z c)) (times c xs), (all.0, more.1))

abbrev put_all : List (List ℕ × ℤ) → List Sub → List (List ℕ × ℤ)
put_all ids subs = fold (λ (ids : List (List ℕ × ℤ)) (s : Sub). put_id ids s.channel) ids subs

apart_each : (y : Sub) (ys : List Sub) → has_sub y.channel ys ≡ false → AllByRecursion (λ (s : Sub). int_eq s.channel y.channel ≡ false) ys
apart_each y [] h = tt
apart_each y (x ∷ xs) h = by (int_eq x.channel y.channel) refl h (apart_each y xs)
  where
    by : (b : Bool) → int_eq x.channel y.channel ≡ b → is_some (if b then Some x else sub_of y.channel xs) ≡ false → (has_sub y.channel xs ≡ false → AllByRecursion (λ (s : Sub). int_eq s.channel y.channel ≡ false) xs)
        → AllByRecursion (λ (s : Sub). int_eq s.channel y.channel ≡ false) (x ∷ xs)
    by true e h rest = absurd (false≢true (sym h))
    by false e h rest = (e, rest h)

all_put : (ids : List (List ℕ × ℤ)) (z : ℤ) → IsSmall z → AllByRecursion IsNamed ids → times z ids ≡ 0 → (xs : List Sub)
    → AllByRecursion (λ (s : Sub). int_eq s.channel z ≡ false) xs → AllByRecursion (λ (s : Sub). times s.channel ids ≡ 0) xs → AllByRecursion (λ (s : Sub). times s.channel (put_id ids z) ≡ 0) xs
all_put ids z small all none [] differ zeros = tt
all_put ids z small all none (x ∷ xs) differ zeros =
    let a = (put_more x.channel z small ids all none).0 in
    let e : one_if (int_eq z x.channel) ≡ 0 = ap one_if (other_way x.channel z differ.0) in
    let f = zeros.0 in
    (omega (arith, a, e, f), all_put ids z small all none xs differ.1 zeros.1)

put_times : (c : ℤ) (ids : List (List ℕ × ℤ)) (subs : List Sub) → AreApart subs → AllByRecursion (λ (s : Sub). IsSmall s.channel) subs → AllByRecursion IsNamed ids
    → AllByRecursion (λ (s : Sub). times s.channel ids ≡ 0) subs → times c (put_all ids subs) ≡ one_if (has_sub c subs) + times c ids
put_times c ids [] apart small all zeros = omega arith
put_times c ids (y ∷ ys) apart small all zeros =
    let put = put_more c y.channel small.0 ids all zeros.0 in
    let differ = apart_each y ys apart.0 in
    put_times c (put_id ids y.channel) ys apart.1 small.1 put.1 (all_put ids y.channel small.0 all zeros.0 ys differ zeros.1)
    ∙ ap (λ n. one_if (has_sub c ys) + n) put.0
    ∙ by (int_eq y.channel c) refl
  where
    by : (b : Bool) → int_eq y.channel c ≡ b → one_if (has_sub c ys) + (one_if b + times c ids) ≡ one_if (is_some (if b then Some y else sub_of c ys)) + times c ids
    by true e =
        let none : has_sub c ys ≡ false = ap (λ z. has_sub z ys) (sym (int_eq_is y.channel c e)) ∙ apart.0 in
        let zero_times : one_if (has_sub c ys) ≡ 0 = ap one_if none in
        omega (arith, zero_times)
    by false e = omega arith

no_times : (xs : List Sub) → AllByRecursion (λ (s : Sub). times s.channel [] ≡ 0) xs
no_times [] = tt
no_times (x ∷ xs) = (refl, no_times xs)

ids_times : (c : ℤ) (subs : List Sub) → AreApart subs → AllByRecursion (λ (s : Sub). IsSmall s.channel) subs → times c (ids_of subs) ≡ one_if (has_sub c subs)
ids_times c subs apart small = put_times c [] subs apart small tt (no_times subs) ∙ omega arith

-- each is stopped once
pub all_stopped : (reason : List ℕ) (c : ℤ) (subs : List Sub) (k : Heard) → AreApart subs → AllByRecursion (λ (s : Sub). mag s.channel < 2 ^ 63) subs → Ends reason k (sub_of c subs) (hear_stops c reason (ids_of subs) k) None
all_stopped reason c subs k apart small = by (sub_of c subs) (ids_times c subs apart small)
  where
    by : (o : Option Sub) → times c (ids_of subs) ≡ one_if (is_some o) → Ends reason k o (hear_stops c reason (ids_of subs) k) None
    by None n = (refl, never_heard reason c (ids_of subs) k n)
    by (Some s) n = inr (refl, once_heard reason c (ids_of subs) k n)
