-- Existing subscriptions: what is due to them, and where they begin; for the crates above too.
use Rattle.std.specs.Prelude.{ℕ, zero, suc, ℤ, pos, negsuc, Bool, true, false, cond, List, [], ◌∷◌, ◌++◌, ◌≡◌, ◌+◌, ◌<◌, ◌&&◌, ◌||◌, not, nat_le, Option, Some, None, filter, length, slice_get, if◌then◌else◌, refl}
use Rattle.std.specs.Ordering.{int_eq}
use Rattle.std.proofs.Common.{ap, sym, ◌∙◌, arith}
use Rattle.std.proofs.lemmas.List.Elements.{filter-append}
use Rattle.std.proofs.lemmas.Option.{none-some, same_Some}
use Rattle.std.proofs.Math.Bool.{or-false}
use Rattle.etp_values.proofs.IntLemmas.{int_eq_is}
use Rattle.server_config.specs.declared.config.ChannelDef.{ChannelDef}
use Rattle.server_config.specs.declared.config.Config.{Config}
use Rattle.channel_store.specs.Channels.{Channel}
use Rattle.channel_store.specs.Points.{past}
use Rattle.channel_store.specs.Refusals.{channel_at}
use Rattle.channel_store.specs.Store.{by_number}
use Rattle.channel_store.specs.declared.change.ChannelChange.{ChannelChange}
use Rattle.channel_store.specs.declared.change.What.{What}
use Rattle.channel_store.specs.declared.subscription.Sub.{Sub}
use Rattle.etp_values.specs.declared.code.ErrorCode.TheVariants.{InvalidArgument}
use Rattle.etp_values.specs.declared.point.Point.{Point}
use Rattle.store_machine.specs.Channels.{change_by, change_list, changes_from, channel_by, channel_changes, channel_points, channels_of, what_of}
use Rattle.store_machine.specs.News.{is_due}
use Rattle.store_machine.specs.Reads.{room_with}
use Rattle.store_machine.specs.Starts.{begun, from_index, is_start, start_of}
use Rattle.store_machine.specs.declared.call.Start.{Start}
use Rattle.store_machine.specs.declared.call.StartReply.{StartReply}
use Rattle.store_machine.specs.declared.call.StartReply.TheVariants.{From, Refused}
use Rattle.store_machine.specs.declared.journal.Entry.{Entry}
use Rattle.subscribe_core.specs.Calls.{AreApart}
use Rattle.subscribe_core.specs.Subscriptions.{others}
use Rattle.subscribe_core.specs.Views.{sub_of}
use Rattle.subscribe_core.proofs.SubLemmas.{absent-has}
use Rattle.session_core.proofs.OwingLemmas.{since}

-- ---- finding

-- what is found is of the channel
pub found-channel : (c : ℤ) (xs : List Sub) (s : Sub) → sub_of c xs ≡ Some s → s.channel ≡ c
found-channel c [] s h = absurd (none-some s h)
found-channel c (y ∷ ys) s h = by (int_eq y.channel c) refl h (found-channel c ys s)
  where
    by : (b : Bool) → int_eq y.channel c ≡ b → (if b then Some y else sub_of c ys) ≡ Some s → (sub_of c ys ≡ Some s → s.channel ≡ c) → s.channel ≡ c
    by true e h rest = ap (λ (x : Sub). x.channel) (sym (same_Some y s h)) ∙ int_eq_is y.channel c e
    by false e h rest = rest h

-- one more
pub absent-push : (c : ℤ) (xs : List Sub) (s : Sub) → sub_of c xs ≡ None → sub_of c (xs ++ s ∷ []) ≡ (if int_eq s.channel c then Some s else None)
absent-push c [] s h = refl
absent-push c (y ∷ ys) s h = by (int_eq y.channel c) (absent-push c ys s) h
  where
    by : (b : Bool) → (sub_of c ys ≡ None → sub_of c (ys ++ s ∷ []) ≡ (if int_eq s.channel c then Some s else None)) → cond b (Some y) (sub_of c ys) ≡ None
        → cond b (Some y) (sub_of c (ys ++ s ∷ [])) ≡ (if int_eq s.channel c then Some s else None)
    by true rest h = absurd (none-some y (sym h))
    by false rest h = rest h

-- without those of a channel
pub none-others : (c : ℤ) (xs : List Sub) → sub_of c (others c xs) ≡ None
none-others c [] = refl
none-others c (y ∷ ys) = by (int_eq y.channel c) refl (none-others c ys)
  where
    by : (b : Bool) → int_eq y.channel c ≡ b → sub_of c (others c ys) ≡ None → sub_of c (cond (not b) (y ∷ others c ys) (others c ys)) ≡ None
    by true e rest = rest
    by false e rest = ap (λ b. cond b (Some y) (sub_of c (others c ys))) e ∙ rest

-- ---- what is due

pub due_absent : (xs : List Sub) (x : ChannelChange) → sub_of x.channel xs ≡ None → is_due xs x ≡ false
due_absent [] x h = refl
due_absent (y ∷ ys) x h = by (int_eq y.channel x.channel) h (due_absent ys x)
  where
    by : (b : Bool) → (if b then Some y else sub_of x.channel ys) ≡ None → (sub_of x.channel ys ≡ None → is_due ys x ≡ false) → ((b && nat_le y.from x.place) || is_due ys x) ≡ false
    by true h rest = absurd (none-some y (sym h))
    by false h rest = rest h

pub due_found : (xs : List Sub) (x : ChannelChange) (s : Sub) → AreApart xs → sub_of x.channel xs ≡ Some s → is_due xs x ≡ nat_le s.from x.place
due_found [] x s a h = absurd (none-some s h)
due_found (y ∷ ys) x s a h = by (int_eq y.channel x.channel) refl h (due_found ys x s a.1)
  where
    by : (b : Bool) → int_eq y.channel x.channel ≡ b → (if b then Some y else sub_of x.channel ys) ≡ Some s → (sub_of x.channel ys ≡ Some s → is_due ys x ≡ nat_le s.from x.place)
        → ((b && nat_le y.from x.place) || is_due ys x) ≡ nat_le s.from x.place
    by true e h rest =
        let none : sub_of x.channel ys ≡ None = ap (λ z. sub_of z ys) (sym (int_eq_is y.channel x.channel e)) ∙ absent-has y.channel ys a.0 in
        ap (λ b. nat_le y.from x.place || b) (due_absent ys x none) ∙ or-false (nat_le y.from x.place) ∙ ap (λ (t : Sub). nat_le t.from x.place) (same_Some y s h)
    by false e h rest = rest h

-- of the changes of a channel those since its subscription are due
due_one : (xs : List Sub) (c : ℤ) (s : Sub) → AreApart xs → sub_of c xs ≡ Some s → (k : ℕ) (at : ℤ) (o : Option What) → filter (is_due xs) (change_list k c at o) ≡ since s.from (change_list k c at o)
due_one xs c s a h k at None = refl
due_one xs c s a h k at (Some w) =
    let x : ChannelChange = record { place = k; channel = c; at = at; what = w } in
    ap (λ b. cond b (x ∷ []) []) (due_found xs x s a h)

pub due_changes : (xs : List Sub) (c : ℤ) (s : Sub) → AreApart xs → sub_of c xs ≡ Some s → (k : ℕ) (es : List Entry) → filter (is_due xs) (changes_from k c es) ≡ since s.from (changes_from k c es)
due_changes xs c s a h k [] = refl
due_changes xs c s a h k (e ∷ es) =
    filter-append (is_due xs) (change_by k c e) (changes_from (k + 1) c es)
    ∙ (λ i. due_one xs c s a h k e.at (what_of e.act c) i ++ due_changes xs c s a h (k + 1) es i)
    ∙ sym (filter-append (λ (x : ChannelChange). nat_le s.from x.place) (change_by k c e) (changes_from (k + 1) c es))

-- ---- the channels of a configuration

abbrev pub IsChannel : Config → ℤ → Type 0
IsChannel config c = (k : ℕ) × (c ≡ pos k) × (k < length config.channels)

-- the channel of a number
number_of : (h : List Entry) (n : ℕ) (ds : List ChannelDef) (k : ℕ) (c : Channel) → slice_get (by_number (λ j d. channel_by d (channel_changes (pos j) h)) n ds) k ≡ Some c
    → (k < length ds) × (c.points ≡ channel_points (pos (n + k)) h)
number_of h n [] k c e = absurd (none-some c e)
number_of h n (d ∷ ds) zero c e = (omega arith, ap (λ (x : Channel). x.points) (sym (same_Some (channel_by d (channel_changes (pos n) h)) c e)) ∙ ap (λ j. channel_points (pos j) h) (omega arith))
number_of h n (d ∷ ds) (suc k) c e =
    let rest : (k < length ds) × (c.points ≡ channel_points (pos (suc n + k)) h) = number_of h (suc n) ds k c e in
    (omega (arith, rest.0), rest.1 ∙ ap (λ j. channel_points (pos j) h) (omega arith))

pub channel_is : (config : Config) (h : List Entry) (id : ℤ) (c : Channel) → channel_at (channels_of config h) id ≡ Some c → IsChannel config id × (c.points ≡ channel_points id h)
unfolding channels_of
channel_is config h (pos k) c e =
    let f : (k < length config.channels) × (c.points ≡ channel_points (pos (0 + k)) h) = number_of h 0 config.channels k c e in
    ((k, refl, f.0), f.1 ∙ ap (λ j. channel_points (pos j) h) (omega arith))
channel_is config h (negsuc k) c e = absurd (none-some c e)

-- an accepted subscription is of a channel that exists, and its points begin at its start
pub begun_is : (config : Config) (h : List Entry) (id : ℤ) (room : _) (at : Start) (start : ℤ) (ps : List Point) → begun (channel_at (channels_of config h) id) room at ≡ From start ps
    → IsChannel config id × (ps ≡ past start (channel_points id h))
begun_is config h id room at start ps e = by (channel_at (channels_of config h) id) refl e
  where
    roomed : (c : Channel) (i : ℤ) (qs : List Point) (left : _) → from_index i qs left ≡ From start ps → (i ≡ start) × (qs ≡ ps)
    roomed c i qs None e = absurd (cc e)
    roomed c i qs (Some left) e = (ap (λ (r : StartReply). start_in r) e, ap (λ (r : StartReply). points_in r) e)
      where
        start_in : StartReply → ℤ
        start_in (From i qs) = i
        start_in (Refused code) = i

        points_in : StartReply → List Point
        points_in (From i qs) = qs
        points_in (Refused code) = qs

    tested : (c : Channel) (b : Bool)
        → (if b then from_index (start_of c.points at) (past (start_of c.points at) c.points) (room_with room (past (start_of c.points at) c.points)) else Refused InvalidArgument) ≡ From start ps
        → ps ≡ past start c.points
    tested c true e =
        let f = roomed c (start_of c.points at) (past (start_of c.points at) c.points) (room_with room (past (start_of c.points at) c.points)) e in
        sym f.1 ∙ ap (λ i. past i c.points) f.0
    tested c false e = absurd (cc e)

    by : (o : Option Channel) → channel_at (channels_of config h) id ≡ o → begun o room at ≡ From start ps → IsChannel config id × (ps ≡ past start (channel_points id h))
    by None f e = absurd (cc e)
    by (Some c) f e =
        let is : IsChannel config id × (c.points ≡ channel_points id h) = channel_is config h id c f in
        (is.0, tested c (is_start at) e ∙ ap (past start) is.1)
