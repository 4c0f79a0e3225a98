-- The stream of a subscription, as it continues along the history.
use Rattle.std.specs.Prelude.{ℕ, zero, suc, ℤ, Bool, true, false, cond, List, [], ◌∷◌, ◌++◌, ◌≡◌, ◌+◌, ◌≤◌, ◌<◌, max, min, nat_le, Option, Some, None, filter, take, drop, length, refl}
use Rattle.std.specs.List.{flat_map}
use Rattle.std.proofs.Common.{ap, sym, ◌∙◌, append-nil, append_assoc, arith, length-take, take-take, take-append-drop, take-add}
use Rattle.std.proofs.lemmas.Bool.Decides.{nat_tests}
use Rattle.std.proofs.lemmas.List.{map-append, drop_all}
use Rattle.std.proofs.lemmas.List.Concat.{flat_map-append}
use Rattle.std.proofs.lemmas.List.Elements.{filter-append}
use Rattle.store_machine.proofs.StreamLemmas.{changes-append}
use Rattle.channel_store.specs.Channels.{whats_of}
use Rattle.channel_store.specs.Points.{append_of, past, view}
use Rattle.channel_store.specs.Points as told
use Rattle.channel_store.specs.declared.change.ChannelChange.{ChannelChange}
use Rattle.channel_store.specs.declared.change.What.{What}
use Rattle.channel_store.specs.declared.subscription.Sub.{Sub}
use Rattle.store_machine.specs.Channels.{change_by, change_list, changes_from, channel_points, what_of}
use Rattle.store_machine.specs.declared.journal.Entry.{Entry}
use Rattle.session_core.specs.Streams.{stream_to}

-- ---- prefixes of lists

-- a window of a prefix is one of the whole
pub window : {A : Type 0} (u d p : ℕ) (xs : List A) → u + d ≤ p → take d (drop u (take p xs)) ≡ take d (drop u xs)
window zero d p xs h = take-take d p xs (omega (arith, h))
window (suc u) d zero xs h = absurd (omega (arith, h))
window (suc u) d (suc p) [] h = refl
window (suc u) d (suc p) (x ∷ xs) h = window u d p xs (omega (arith, h))

-- ---- changes from a place on

abbrev pub since : ℕ → List ChannelChange → List ChannelChange
since m xs = filter (λ (x : ChannelChange). nat_le m x.place) xs

since_one : (m k : ℕ) (c at : ℤ) (o : Option What) (b : Bool) → nat_le m k ≡ b → since m (change_list k c at o) ≡ cond b (change_list k c at o) []
since_one m k c at None true h = refl
since_one m k c at None false h = refl
since_one m k c at (Some w) true h = ap (λ b. cond b (record { place = k; channel = c; at = at; what = w } ∷ []) []) h
since_one m k c at (Some w) false h = ap (λ b. cond b (record { place = k; channel = c; at = at; what = w } ∷ []) []) h

since_all : (m k : ℕ) (c : ℤ) (es : List Entry) → m ≤ k → since m (changes_from k c es) ≡ changes_from k c es
since_all m k c [] h = refl
since_all m k c (e ∷ es) h =
    let t : nat_le m k ≡ true = grind (arith, nat_tests, h) in
    filter-append (λ (x : ChannelChange). nat_le m x.place) (change_by k c e) (changes_from (k + 1) c es)
    ∙ (λ i. since_one m k c e.at (what_of e.act c) true t i ++ since_all m (k + 1) c es (omega (arith, h)) i)

since_none : (m k : ℕ) (c : ℤ) (es : List Entry) → k + length es ≤ m → since m (changes_from k c es) ≡ []
since_none m k c [] h = refl
since_none m k c (e ∷ es) h =
    let below : k < m = omega (arith, h) in
    let t : nat_le m k ≡ false = grind (arith, nat_tests, below) in
    filter-append (λ (x : ChannelChange). nat_le m x.place) (change_by k c e) (changes_from (k + 1) c es)
    ∙ (λ i. since_one m k c e.at (what_of e.act c) false t i ++ since_none m (k + 1) c es (omega (arith, h)) i)

-- ---- the stream up to a cursor, by the changes from the first entry on

abbrev pub told_up_to : List Entry → ℕ → Sub → List What
told_up_to h u s = told.stream s.start s.all (channel_points s.channel (take s.from h)) (whats_of (since s.from (changes_from 0 s.channel (take u h))))

changes_past : (h : List Entry) (m u : ℕ) (c : ℤ) → m ≤ length h → since m (changes_from 0 c (take u h)) ≡ changes_from m c (drop m (take (max m u) h))
changes_past h m u c le = by (nat_le m u) refl
  where
    by : (b : Bool) → nat_le m u ≡ b → since m (changes_from 0 c (take u h)) ≡ changes_from m c (drop m (take (max m u) h))
    by true t =
        let high : m ≤ u = grind (arith, nat_tests, t) in
        let most : max m u ≡ u = omega (arith, high) in
        let whole : List Entry = take u h in
        let size : length whole ≡ min u (length h) = length-take u h in
        let front : length (take m whole) ≡ min m (length whole) = length-take m whole in
        let at : 0 + length (take m whole) ≡ m = omega (arith, size, front, le, high) in
        ap (λ l. since m (changes_from 0 c l)) (sym (take-append-drop m whole))
        ∙ ap (since m) (changes-append 0 c (take m whole) (drop m whole))
        ∙ filter-append (λ (x : ChannelChange). nat_le m x.place) (changes_from 0 c (take m whole)) (changes_from (0 + length (take m whole)) c (drop m whole))
        ∙ (λ i. since_none m 0 c (take m whole) (omega (arith, at)) i ++ since_all m (0 + length (take m whole)) c (drop m whole) (omega (arith, at)) i)
        ∙ (λ i. changes_from (at i) c (drop m (take (sym most i) h)))
    by false t =
        let low : u < m = grind (arith, nat_tests, t) in
        let most : max m u ≡ m = omega (arith, low) in
        let size : length (take u h) ≡ min u (length h) = length-take u h in
        let all : length (take m h) ≡ min m (length h) = length-take m h in
        since_none m 0 c (take u h) (omega (arith, size, low))
        ∙ sym (ap (λ k. changes_from m c (drop m (take k h))) most ∙ ap (changes_from m c) (drop_all m (take m h) (omega (arith, all))))

pub is_stream : (h : List Entry) (u : ℕ) (s : Sub) → s.from ≤ length h → told_up_to h u s ≡ stream_to h u s
is_stream h u s le =
    let low : s.from ≤ max s.from u = omega arith in
    let front : take s.from h ≡ take s.from (take (max s.from u) h) = sym (take-take s.from (max s.from u) h low) in
    (λ i. told.stream s.start s.all (channel_points s.channel (front i)) (whats_of (changes_past h s.from u s.channel le i)))

-- further along the history
pub goes_on : (h : List Entry) (u d : ℕ) (s : Sub) → u ≤ length h
    → told_up_to h u s ++ flat_map (view s.start s.all) (whats_of (since s.from (changes_from u s.channel (take d (drop u h))))) ≡ told_up_to h (u + d) s
goes_on h u d s le =
    let there : List What = append_of (past s.start (channel_points s.channel (take s.from h))) in
    let old : List ChannelChange = changes_from 0 s.channel (take u h) in
    let new : List ChannelChange = changes_from u s.channel (take d (drop u h)) in
    let size : length (take u h) ≡ min u (length h) = length-take u h in
    let at : 0 + length (take u h) ≡ u = omega (arith, size, le) in
    let both : old ++ new ≡ changes_from 0 s.channel (take (u + d) h) =
    sym (ap (changes_from 0 s.channel) (take-add u d h) ∙ changes-append 0 s.channel (take u h) (take d (drop u h)) ∙ ap (λ k. old ++ changes_from k s.channel (take d (drop u h))) at) in
    append_assoc there (flat_map (view s.start s.all) (whats_of (since s.from old))) (flat_map (view s.start s.all) (whats_of (since s.from new)))
    ∙ ap (λ l. there ++ l)
    (sym (flat_map-append (view s.start s.all) (whats_of (since s.from old)) (whats_of (since s.from new)))
    ∙ ap (flat_map (view s.start s.all))
    (sym (map-append (λ (x : ChannelChange). x.what) (since s.from old) (since s.from new))
    ∙ ap whats_of (sym (filter-append (λ (x : ChannelChange). nat_le s.from x.place) old new) ∙ ap (since s.from) both)))

-- at its place a subscription is sent what exists
pub begins_at : (h : List Entry) (u : ℕ) (s : Sub) → u ≤ s.from → told_up_to h u s ≡ append_of (past s.start (channel_points s.channel (take s.from h)))
begins_at h u s le =
    let size : length (take u h) ≡ min u (length h) = length-take u h in
    let there : List What = append_of (past s.start (channel_points s.channel (take s.from h))) in
    ap (λ l. there ++ flat_map (view s.start s.all) (whats_of l)) (since_none s.from 0 s.channel (take u h) (omega (arith, size, le)))
    ∙ append-nil there
