-- What is sent of one channel; for the crates above too.
use Rattle.std.proofs.Common.{◌≡◌, ℤ, Bool, true, false, cond, ◌||◌, List, [], ◌∷◌, ◌++◌, length, map, filter, Option, Some, None, ap, sym, ◌∙◌, refl}
use Rattle.std.specs.Prelude.{nat_le}
use Rattle.std.specs.List.{flat_map, AllByRecursion}
use Rattle.std.specs.Ordering.{int_eq}
use Rattle.std.proofs.lemmas.Bool.{false≢true}
use Rattle.std.proofs.lemmas.List.{map-append}
use Rattle.std.proofs.lemmas.List.Concat.{flat_map-append}
use Rattle.std.proofs.lemmas.List.Elements.{filter-append}
use Rattle.etp_values.proofs.IntLemmas.{int_eq_is}
use Rattle.channel_store.specs.declared.change.ChannelChange.{ChannelChange}
use Rattle.channel_store.specs.declared.change.What.{What}
use Rattle.channel_store.specs.Points.{append_of, past, view}
use Rattle.channel_store.specs.declared.subscription.Sub.{Sub}
use Rattle.subscribe_core.specs.Views.{sub_of, told_to, told}
use Rattle.subscribe_core.specs.Subscriptions.{Subbed, has_sub, cursor_after, with_sub}
use Rattle.subscribe_core.specs.Calls.{Call, Add, Remove, RemoveAll, Fill, Next, after, after_all, handed, views_by, views_in}
use Rattle.subscribe_core.specs.Streams.{of_channel, ends, begins, came_by, came, StreamGoesOn, StaysSilent}
use Rattle.subscribe_core.proofs.SubLemmas.{found-push, absent-push, found-others, absent-others}
use Rattle.subscribe_core.proofs.CallLemmas.{handed-told}

pub of-append : (k : ℤ) (xs ys : List ChannelChange) → of_channel k (xs ++ ys) ≡ of_channel k xs ++ of_channel k ys
of-append k xs ys =
    ap (map (λ x. x.what)) (filter-append (λ c. int_eq c.channel k) xs ys)
    ∙ map-append (λ x. x.what) (filter (λ c. int_eq c.channel k) xs) (filter (λ c. int_eq c.channel k) ys)

-- ---- one change

of-kept : (k : ℤ) (c : ChannelChange) → int_eq c.channel k ≡ true → (ws : List What) → of_channel k (map (λ w. record c { what = w }) ws) ≡ ws
of-kept k c e [] = refl
of-kept k c e (w ∷ ws) =
    ap (λ b. map (λ x. x.what) (cond b (record c { what = w } ∷ filter (λ x. int_eq x.channel k) (map (λ w. record c { what = w }) ws)) (filter (λ x. int_eq x.channel k) (map (λ w. record c { what = w }) ws)))) e
    ∙ ap (λ l. w ∷ l) (of-kept k c e ws)

of-none : (k : ℤ) (c : ChannelChange) → int_eq c.channel k ≡ false → (ws : List What) → of_channel k (map (λ w. record c { what = w }) ws) ≡ []
of-none k c e [] = refl
of-none k c e (w ∷ ws) =
    ap (λ b. map (λ x. x.what) (cond b (record c { what = w } ∷ filter (λ x. int_eq x.channel k) (map (λ w. record c { what = w }) ws)) (filter (λ x. int_eq x.channel k) (map (λ w. record c { what = w }) ws)))) e
    ∙ of-none k c e ws

told-other : (k : ℤ) (o : Option Sub) (c : ChannelChange) → int_eq c.channel k ≡ false → of_channel k (told_to o c) ≡ []
told-other k None c e = refl
told-other k (Some s) c e = of-none k c e (view s.start s.all c.what)

-- ---- the changes of a call

pub told-stream : (k : ℤ) (s : Sub) (subs : List Sub) → sub_of k subs ≡ Some s → (cs : List ChannelChange)
    → of_channel k (flat_map (told subs) cs) ≡ flat_map (view s.start s.all) (of_channel k cs)
told-stream k s subs h [] = refl
told-stream k s subs h (c ∷ cs) =
    of-append k (told subs c) (flat_map (told subs) cs) ∙ by (int_eq c.channel k) refl (told-stream k s subs h cs)
  where
    by : (b : Bool) → int_eq c.channel k ≡ b → of_channel k (flat_map (told subs) cs) ≡ flat_map (view s.start s.all) (of_channel k cs)
        → of_channel k (told subs c) ++ of_channel k (flat_map (told subs) cs)
        ≡ flat_map (view s.start s.all) (map (λ (x : ChannelChange). x.what) (cond b (c ∷ filter (λ (x : ChannelChange). int_eq x.channel k) cs) (filter (λ (x : ChannelChange). int_eq x.channel k) cs)))
    by true e rest =
        ap (λ l. l ++ of_channel k (flat_map (told subs) cs))
        (ap (λ o. of_channel k (told_to o c)) (ap (λ z. sub_of z subs) (int_eq_is c.channel k e) ∙ h)
        ∙ of-kept k c e (view s.start s.all c.what))
        ∙ ap (λ l. view s.start s.all c.what ++ l) rest
    by false e rest = ap (λ l. l ++ of_channel k (flat_map (told subs) cs)) (told-other k (sub_of c.channel subs) c e) ∙ rest

pub told-silent : (k : ℤ) (subs : List Sub) → sub_of k subs ≡ None → (cs : List ChannelChange) → of_channel k (flat_map (told subs) cs) ≡ []
told-silent k subs h [] = refl
told-silent k subs h (c ∷ cs) =
    of-append k (told subs c) (flat_map (told subs) cs) ∙ ap (λ l. l ++ of_channel k (flat_map (told subs) cs)) (by (int_eq c.channel k) refl) ∙ told-silent k subs h cs
  where
    by : (b : Bool) → int_eq c.channel k ≡ b → of_channel k (told subs c) ≡ []
    by true e = ap (λ o. of_channel k (told_to o c)) (ap (λ z. sub_of z subs) (int_eq_is c.channel k e) ∙ h)
    by false e = told-other k (sub_of c.channel subs) c e

-- ---- a call

with_sub-found : (k : ℤ) (s x : Sub) (v : Subbed) → sub_of k v.subs ≡ Some x → sub_of k (with_sub s v).subs ≡ Some x
with_sub-found k s x v h = by (has_sub s.channel v.subs || nat_le 256 (length v.subs))
  where
    by : (b : Bool) → sub_of k (cond b v (record v { subs = v.subs ++ s ∷ []; cursor = cursor_after v.subs s v.cursor })).subs ≡ Some x
    by true = h
    by false = found-push k v.subs s x h

with_sub-absent : (k : ℤ) (s : Sub) (v : Subbed) → int_eq s.channel k ≡ false → sub_of k v.subs ≡ None → sub_of k (with_sub s v).subs ≡ None
with_sub-absent k s v n h = by (has_sub s.channel v.subs || nat_le 256 (length v.subs))
  where
    by : (b : Bool) → sub_of k (cond b v (record v { subs = v.subs ++ s ∷ []; cursor = cursor_after v.subs s v.cursor })).subs ≡ None
    by true = h
    by false = absent-push k v.subs s n h

-- a subscription exists after a call that doesn't end it
stands : (k : ℤ) (x : Sub) (c : Call) (v : Subbed) → ends k c ≡ false → sub_of k v.subs ≡ Some x → sub_of k (after c v).subs ≡ Some x
stands k x (Add s) v n h = with_sub-found k s x v h
stands k x (Remove j) v n h = found-others k j n v.subs ∙ h
stands k x RemoveAll v n h = absurd (false≢true (sym n))
stands k x (Fill upto changes) v n h = h
stands k x Next v n h = h

-- a channel has none after a call that doesn't add one
absent : (k : ℤ) (c : Call) (v : Subbed) → begins k c ≡ false → sub_of k v.subs ≡ None → sub_of k (after c v).subs ≡ None
absent k (Add s) v n h = with_sub-absent k s v n h
absent k (Remove j) v n h = absent-others k j v.subs h
absent k RemoveAll v n h = refl
absent k (Fill upto changes) v n h = h
absent k Next v n h = h

step-stream : (s : Sub) (c : Call) (v : Subbed) → sub_of s.channel v.subs ≡ Some s
    → of_channel s.channel (views_by c v) ≡ flat_map (view s.start s.all) (of_channel s.channel (came_by c))
step-stream s (Add x) v h = refl
step-stream s (Remove j) v h = refl
step-stream s RemoveAll v h = refl
step-stream s (Fill upto changes) v h = told-stream s.channel s v.subs h changes
step-stream s Next v h = refl

step-silent : (k : ℤ) (c : Call) (v : Subbed) → sub_of k v.subs ≡ None → of_channel k (views_by c v) ≡ []
step-silent k (Add x) v h = refl
step-silent k (Remove j) v h = refl
step-silent k RemoveAll v h = refl
step-silent k (Fill upto changes) v h = told-silent k v.subs h changes
step-silent k Next v h = refl

-- ---- all calls

calls-stream : (s : Sub) (cs : List Call) (v : Subbed) → sub_of s.channel v.subs ≡ Some s → AllByRecursion (λ c. ends s.channel c ≡ false) cs
    → of_channel s.channel (views_in cs v) ≡ flat_map (view s.start s.all) (of_channel s.channel (came cs))
calls-stream s [] v h n = refl
calls-stream s (c ∷ cs) v h n =
    of-append s.channel (views_by c v) (views_in cs (after c v))
    ∙ ap (λ l. l ++ of_channel s.channel (views_in cs (after c v))) (step-stream s c v h)
    ∙ ap (λ l. flat_map (view s.start s.all) (of_channel s.channel (came_by c)) ++ l) (calls-stream s cs (after c v) (stands s.channel s c v n.0 h) n.1)
    ∙ sym (flat_map-append (view s.start s.all) (of_channel s.channel (came_by c)) (of_channel s.channel (came cs)))
    ∙ ap (flat_map (view s.start s.all)) (sym (of-append s.channel (came_by c) (came cs)))

pub stays-silent : StaysSilent
stays-silent k [] v h n = refl
stays-silent k (c ∷ cs) v h n =
    of-append k (views_by c v) (views_in cs (after c v))
    ∙ ap (λ l. l ++ of_channel k (views_in cs (after c v))) (step-silent k c v h)
    ∙ stays-silent k cs (after c v) (absent k c v n.0 h) n.1

pub stream-goes-on : StreamGoesOn
stream-goes-on s there cs v h empty n =
    ap (λ l. append_of (past s.start there) ++ l)
    (sym (of-append s.channel (handed cs v) (after_all cs v).pending)
    ∙ ap (of_channel s.channel) (handed-told cs v)
    ∙ of-append s.channel v.pending (views_in cs v)
    ∙ ap (λ l. l ++ of_channel s.channel (views_in cs v)) empty
    ∙ calls-stream s cs v h n)
