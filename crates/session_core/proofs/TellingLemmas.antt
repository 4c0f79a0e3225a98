-- What is heard of the notices that send changes; for the crates above too.
use Rattle.std.specs.Prelude.{ℕ, ℤ, Bool, true, false, cond, List, [], ◌∷◌, ◌++◌, ◌≡◌, ◌||◌, Option, Some, None, int_lt, map, if◌then◌else◌, refl}
use Rattle.std.specs.Int.{int_max}
use Rattle.std.specs.List.{flat_map, AllByRecursion}
use Rattle.std.specs.Ordering.{int_eq}
use Rattle.std.proofs.Common.{ap, sym, ◌∙◌, append-nil, append_assoc, arith}
use Rattle.std.proofs.lemmas.Int.{ints}
use Rattle.std.proofs.lemmas.List.Concat.{flat_map-append}
use Rattle.subscribe_core.proofs.StreamLemmas.{of-append}
use Rattle.channel_rows.specs.Notices.{interval_of, notice_of}
use Rattle.channel_rows.specs.Points.{items_of}
use Rattle.channel_store.specs.Points.{append_of, past, view}
use Rattle.channel_store.specs.declared.change.ChannelChange.{ChannelChange}
use Rattle.channel_store.specs.declared.change.What.{What}
use Rattle.channel_store.specs.declared.change.What.TheVariants.{Append, Replace, Truncate}
use Rattle.channel_store.specs.declared.subscription.Sub.{Sub}
use Rattle.etp_frame.specs.Grouping.{groups, item_amount}
use Rattle.etp_frame.specs.Splitting.{parts}
use Rattle.etp_frame.specs.declared.message.Message.{Message}
use Rattle.etp_frame.specs.declared.message.Message.TheVariants as message
use Rattle.etp_values.proofs.EachLemmas.{all-append}
use Rattle.etp_values.specs.declared.point.Point.{Point}
use Rattle.msg_channel.specs.ChannelRecords.{data_item_form}
use Rattle.msg_channel.specs.declared.channel_subscribe_messages.ChannelSubscribeMessage.TheVariants as subscribe
use Rattle.msg_channel.specs.declared.points.DataItem.{DataItem}
use Rattle.subscribe_core.specs.Streams.{of_channel}
use Rattle.subscribe_core.specs.Views.{sub_of, told, told_to}
use Rattle.session_core.specs.declared.state.Addressee.TheVariants as to
use Rattle.session_core.specs.declared.state.Part.{Part}
use Rattle.session_core.specs.declared.state.Saying.{Saying}
use Rattle.session_core.specs.Granting.{HasNews}
use Rattle.session_core.specs.Sending.{blobs_after, cut_all}
use Rattle.session_core.specs.Streams.{Heard, gathers, hear_message, point_in, points_in}
use Rattle.session_core.proofs.HearingLemmas.{gathered, hear_parts, hear_whole, notice_parts}
use Rattle.session_core.proofs.MessagePartLemmas.{all_map}

-- ---- the points of a notice

pub points_join : (c : ℤ) (xs ys : List DataItem) → points_in c (xs ++ ys) ≡ points_in c xs ++ points_in c ys
points_join c xs ys = flat_map-append (λ (x : DataItem). if int_eq x.channel_id c then point_in x.value x.indexes else []) xs ys

points_same : (c ch : ℤ) → int_eq ch c ≡ true → (xs : List Point) → points_in c (items_of ch xs) ≡ xs
points_same c ch e [] = refl
points_same c ch e (x ∷ xs) = (λ i. (if e i then x ∷ [] else []) ++ points_same c ch e xs i)

points_other : (c ch : ℤ) → int_eq ch c ≡ false → (xs : List Point) → points_in c (items_of ch xs) ≡ []
points_other c ch e [] = refl
points_other c ch e (x ∷ xs) = (λ i. (if e i then x ∷ [] else []) ++ points_other c ch e xs i)

-- ---- one change, which is not an append of nothing

-- these changes are sent of a channel too
abbrev pub with_told : List What → Heard → Heard
with_told ws k = record k { told = k.told ++ ws; part = [] }

-- the notice of a change
abbrev pub note : ChannelChange → Saying
note x = record { to = to.Nobody; message = message.ChannelSubscribe (notice_of x.at x.channel x.what) }

no_more : (k : Heard) → k.part ≡ [] → k ≡ with_told [] k
no_more k e = let a : k.told ≡ k.told ++ [] = sym (append-nil k.told) in (λ i. record k { told = a i; part = e i })

whole_same : (c : ℤ) (ms : List Message) (k : Heard) → AllByRecursion (λ (m : Message). (last : Bool) (k : Heard) → hear_message c last m k ≡ k) ms → hear_whole c k ms ≡ k
whole_same c [] k all = refl
whole_same c (m ∷ []) k all = all.0 true k
whole_same c (m ∷ n ∷ ms) k all = ap (λ j. hear_whole c j (n ∷ ms)) (all.0 false k) ∙ whole_same c (n ∷ ms) k all.1

swapped : (a b : ℤ) (t : Bool) → int_eq a b ≡ t → int_eq b a ≡ t
swapped a b true e = grind (arith, ints)
swapped a b false e = grind (arith, ints)

whole_append : (limit number blobs : ℕ) (c at ch : ℤ) (p : Point) (ps : List Point) (k : Heard) → k.part ≡ [] → (b : Bool) → int_eq ch c ≡ b
    → hear_whole c k (parts limit number blobs (message.ChannelSubscribe (notice_of at ch (Append (p ∷ ps))))) ≡ with_told (if b then Append (p ∷ ps) ∷ [] else []) k
whole_append limit number blobs c at ch p ps k e true is =
    gathered (item_amount data_item_form) limit c (λ g. message.ChannelSubscribe (subscribe.ChannelData (record { payload = g }))) append_of (points_in c) (λ last g k. refl) (points_join c) (items_of ch (p ∷ ps)) k
    ∙ (λ i. with_told (append_of (e i ++ points_same c ch is (p ∷ ps) i)) k)
whole_append limit number blobs c at ch p ps k e false is =
    gathered (item_amount data_item_form) limit c (λ g. message.ChannelSubscribe (subscribe.ChannelData (record { payload = g }))) append_of (points_in c) (λ last g k. refl) (points_join c) (items_of ch (p ∷ ps)) k
    ∙ (λ i. with_told (append_of (e i ++ points_other c ch is (p ∷ ps) i)) k)

whole_replace : (limit number blobs : ℕ) (c at ch from end : ℤ) (ps : List Point) (k : Heard) → k.part ≡ [] → (b : Bool) → int_eq ch c ≡ b
    → hear_whole c k (parts limit number blobs (message.ChannelSubscribe (notice_of at ch (Replace from end ps)))) ≡ with_told (if b then Replace from end ps ∷ [] else []) k
whole_replace limit number blobs c at ch from end ps k e true is =
    gathered (item_amount data_item_form) limit c
    (λ g. message.ChannelSubscribe (subscribe.RangeReplaced (record { change_time = at; channel_ids = ch ∷ []; changed_interval = interval_of from end; payload = g })))
    (λ xs. Replace from end xs ∷ []) (points_in c)
    (λ last g k. ap (λ (b : Bool). if b || false then gathers last (λ xs. Replace from end xs ∷ []) (points_in c g) k else k) (swapped ch c true is)) (points_join c) (items_of ch ps) k
    ∙ (λ i. with_told (Replace from end (e i ++ points_same c ch is ps i) ∷ []) k)
whole_replace limit number blobs c at ch from end ps k e false is =
    whole_same c _ k (all_map (λ (m : Message). (last : Bool) (k : Heard) → hear_message c last m k ≡ k)
    (λ g. message.ChannelSubscribe (subscribe.RangeReplaced (record { change_time = at; channel_ids = ch ∷ []; changed_interval = interval_of from end; payload = g })))
    (λ g last k. ap (λ (b : Bool). if b || false then gathers last (λ xs. Replace from end xs ∷ []) (points_in c g) k else k) (swapped ch c false is))
    (groups (item_amount data_item_form) limit (items_of ch ps)))
    ∙ no_more k e

whole_truncate : (limit number blobs : ℕ) (c at ch end : ℤ) (k : Heard) → k.part ≡ [] → (b : Bool) → int_eq ch c ≡ b
    → hear_whole c k (parts limit number blobs (message.ChannelSubscribe (notice_of at ch (Truncate end)))) ≡ with_told (if b then Truncate end ∷ [] else []) k
whole_truncate limit number blobs c at ch end k e true is = (λ i. record k { told = k.told ++ ((if is i then Truncate end ∷ [] else []) ++ []); part = e i })
whole_truncate limit number blobs c at ch end k e false is = (λ i. record k { told = k.told ++ ((if is i then Truncate end ∷ [] else []) ++ []); part = e i })

one_of : (c : ℤ) (x : ChannelChange) (b : Bool) → int_eq x.channel c ≡ b → (if b then x.what ∷ [] else []) ≡ of_channel c (x ∷ [])
one_of c x true is = ap (λ b. map (λ (x : ChannelChange). x.what) (cond b (x ∷ []) [])) (sym is)
one_of c x false is = ap (λ b. map (λ (x : ChannelChange). x.what) (cond b (x ∷ []) [])) (sym is)

note_whole : (limit number blobs : ℕ) (c at ch : ℤ) (w : What) (k : Heard) → HasNews w → k.part ≡ [] → (b : Bool) → int_eq ch c ≡ b
    → hear_whole c k (parts limit number blobs (message.ChannelSubscribe (notice_of at ch w))) ≡ with_told (if b then w ∷ [] else []) k
note_whole limit number blobs c at ch (Append []) k solid e b is = absurd solid
note_whole limit number blobs c at ch (Append (p ∷ ps)) k solid e b is = whole_append limit number blobs c at ch p ps k e b is
note_whole limit number blobs c at ch (Replace from end ps) k solid e b is = whole_replace limit number blobs c at ch from end ps k e b is
note_whole limit number blobs c at ch (Truncate end) k solid e b is = whole_truncate limit number blobs c at ch end k e b is

-- ---- all changes

abbrev pub AreSolid : List ChannelChange → Type 0
AreSolid xs = AllByRecursion (λ (x : ChannelChange). HasNews x.what) xs

pub notes_heard : (limit number blobs : ℕ) (c : ℤ) (xs : List ChannelChange) (k : Heard) → AreSolid xs → k.part ≡ []
    → hear_parts c k (cut_all limit number blobs (map note xs)) ≡ with_told (of_channel c xs) k
notes_heard limit number blobs c [] k solid e = no_more k e
notes_heard limit number blobs c (x ∷ xs) k solid e =
    let later : List Part = cut_all limit number (blobs_after limit blobs (note x).message) (map note xs) in
    let more : Heard = with_told (of_channel c (x ∷ [])) k in
    notice_parts c (parts limit number blobs (note x).message) later k
    ∙ ap (λ j. hear_parts c j later) (note_whole limit number blobs c x.at x.channel x.what k solid.0 e (int_eq x.channel c) refl ∙ ap (λ ws. with_told ws k) (one_of c x (int_eq x.channel c) refl))
    ∙ notes_heard limit number (blobs_after limit blobs (note x).message) c xs more solid.1 refl
    ∙ ap (λ ws. record k { told = ws; part = [] }) (append_assoc k.told (of_channel c (x ∷ [])) (of_channel c xs) ∙ ap (λ ws. k.told ++ ws) (sym (of-append c (x ∷ []) xs)))

-- ---- what a subscription is sent is solid

solid_append : (xs : List Point) → AllByRecursion HasNews (append_of xs)
solid_append [] = tt
solid_append (x ∷ xs) = (tt, tt)

solid_view : (start : ℤ) (all : Bool) (w : What) → AllByRecursion HasNews (view start all w)
solid_view start all (Append ps) = solid_append (past start ps)
solid_view start true (Replace from end ps) = by (int_lt end start)
  where
    by : (b : Bool) → AllByRecursion HasNews (if b then [] else Replace (int_max from start) end (past start ps) ∷ [])
    by true = tt
    by false = (tt, tt)
solid_view start false (Replace from end ps) = tt
solid_view start true (Truncate end) = (tt, tt)
solid_view start false (Truncate end) = tt

solid_as : (x : ChannelChange) (ws : List What) → AllByRecursion HasNews ws → AreSolid (map (λ w. record x { what = w }) ws)
solid_as x [] all = tt
solid_as x (w ∷ ws) all = (all.0, solid_as x ws all.1)

solid_to : (o : Option Sub) (x : ChannelChange) → AreSolid (told_to o x)
solid_to None x = tt
solid_to (Some s) x = solid_as x (view s.start s.all x.what) (solid_view s.start s.all x.what)

pub solid_told : (subs : List Sub) (xs : List ChannelChange) → AreSolid (flat_map (told subs) xs)
solid_told subs [] = tt
solid_told subs (x ∷ xs) = all-append (λ (x : ChannelChange). HasNews x.what) (told subs x) (flat_map (told subs) xs) (solid_to (sub_of x.channel subs) x) (solid_told subs xs)
