-- What is heard of the parts of messages.
use Rattle.std.specs.Prelude.{ℕ, ℤ, pos, Bool, true, false, List, [], ◌∷◌, ◌++◌, ◌≡◌, ◌+◌, fold, map, nat_le, if◌then◌else◌, refl}
use Rattle.std.specs.List.{list_any, AllByRecursion}
use Rattle.std.specs.Ordering.{int_eq}
use Rattle.std.proofs.Common.{ap, sym, subst, ◌∙◌, append-nil, append_assoc}
use mathlib.Core.List.{IsPrefix, prefix-append}
use Rattle.etp_values.proofs.EachLemmas.{all-append}
use Rattle.etp_values.proofs.PrefixLemmas.{prefix_self, prefix_trans}
use Rattle.etp_frame.specs.Grouping.{Amount, goes_in, groups, groups_from}
use Rattle.etp_frame.specs.Header.{final_part, has_flag}
use Rattle.etp_frame.specs.Splitting.{parts, channel_subscribe_parts}
use Rattle.etp_frame.specs.declared.message.Message.{Message}
use Rattle.etp_frame.specs.declared.message.Message.TheVariants as message
use Rattle.msg_channel.specs.declared.channel_subscribe_messages.ChannelSubscribeMessage.{ChannelSubscribeMessage}
use Rattle.msg_channel.specs.declared.channel_subscribe_messages.ChannelSubscribeMessage.TheVariants as subscribe
use Rattle.session_core.specs.declared.state.Addressee.{Addressee}
use Rattle.session_core.specs.declared.state.Addressee.TheVariants as to
use Rattle.session_core.specs.declared.state.Part.{Part}
use Rattle.session_core.specs.declared.state.Request.{Request}
use Rattle.session_core.specs.declared.state.Saying.{Saying}
use Rattle.session_core.specs.Sending.{blobs_after, cut_all, ended, flags_to, is_spent, max_id, numbered, outgoing, replies_in}
use Rattle.session_core.specs.Streams.{Heard, gathers, hear, hear_message, hear_notice, hear_stops, stops_for}
use Rattle.session_core.proofs.MessagePartLemmas.{all_map, array_each, core_each, load_each, object_each, space_each}

-- ---- messages that send changes, and those that stop

abbrev pub notice_tells : ChannelSubscribeMessage → Bool
notice_tells (subscribe.ChannelData m) = true
notice_tells (subscribe.RangeReplaced m) = true
notice_tells (subscribe.ChannelsTruncated m) = true
notice_tells _ = false

abbrev pub notice_stops : ChannelSubscribeMessage → Bool
notice_stops (subscribe.SubscriptionsStopped m) = true
notice_stops _ = false

abbrev pub tells : Message → Bool
tells (message.ChannelSubscribe m) = notice_tells m
tells _ = false

abbrev pub stops : Message → Bool
stops (message.ChannelSubscribe m) = notice_stops m
stops _ = false

-- two messages are of the same kind
abbrev pub SameKind : Message → Message → Type 0
SameKind m x = (tells x ≡ tells m) × (stops x ≡ stops m)

-- ---- parts are of the kind of their message

subscribe_kind : (limit : ℕ) (x : ChannelSubscribeMessage) → AllByRecursion (SameKind (message.ChannelSubscribe x)) (channel_subscribe_parts limit x)
subscribe_kind limit (subscribe.GetChannelMetadata x) = ((refl, refl), tt)
subscribe_kind limit (subscribe.GetChannelMetadataResponse x) = all_map _ _ (λ g. (refl, refl)) _
subscribe_kind limit (subscribe.SubscribeChannels x) = ((refl, refl), tt)
subscribe_kind limit (subscribe.ChannelData x) = all_map _ _ (λ g. (refl, refl)) _
subscribe_kind limit (subscribe.RangeReplaced x) = all_map _ _ (λ g. (refl, refl)) _
subscribe_kind limit (subscribe.UnsubscribeChannels x) = ((refl, refl), tt)
subscribe_kind limit (subscribe.SubscriptionsStopped x) = all_map _ _ (λ g. (refl, refl)) _
subscribe_kind limit (subscribe.GetRanges x) = ((refl, refl), tt)
subscribe_kind limit (subscribe.GetRangesResponse x) = all_map _ _ (λ g. (refl, refl)) _
subscribe_kind limit (subscribe.SubscribeChannelsResponse x) = all_map _ _ (λ g. (refl, refl)) _
subscribe_kind limit (subscribe.ChannelsTruncated x) = all_map _ _ (λ g. (refl, refl)) _

parts_kind : (limit number k : ℕ) (m : Message) → AllByRecursion (SameKind m) (parts limit number k m)
parts_kind limit number k (message.Core x) = core_each (SameKind (message.Core x)) (λ y. (refl, refl)) limit x
parts_kind limit number k (message.Transaction x) = ((refl, refl), tt)
parts_kind limit number k (message.Dataspace x) = space_each (SameKind (message.Dataspace x)) (λ y. (refl, refl)) limit x
parts_kind limit number k (message.Store x) = object_each (SameKind (message.Store x)) (λ y. (refl, refl)) limit number k x
parts_kind limit number k (message.DataArray x) = array_each (SameKind (message.DataArray x)) (λ y. (refl, refl)) limit x
parts_kind limit number k (message.ChannelSubscribe x) = subscribe_kind limit x
parts_kind limit number k (message.ChannelDataLoad x) = load_each (SameKind (message.ChannelDataLoad x)) (λ y. (refl, refl)) limit x

-- a property of kinds that holds for all that is sent holds for its parts
module _ (P : Bool → Bool → Type 0) where
  abbrev Kinds : Message → Type 0
  Kinds m = P (tells m) (stops m)

  kinds_ended : (a : Addressee) (m : Message) (ms : List Message) → Kinds m → AllByRecursion (SameKind m) ms → AllByRecursion (λ (p : Part). Kinds p.message) (ended a ms)
  kinds_ended a m [] is all = tt
  kinds_ended a m (x ∷ []) is all = (subst (λ (k : Bool × Bool). P k.0 k.1) (λ i. (sym all.0.0 i, sym all.0.1 i)) is, tt)
  kinds_ended a m (x ∷ y ∷ ms) is all = (subst (λ (k : Bool × Bool). P k.0 k.1) (λ i. (sym all.0.0 i, sym all.0.1 i)) is, kinds_ended a m (y ∷ ms) is all.1)

  pub kinds_one : (limit number blobs : ℕ) (x : Saying) → Kinds x.message → AllByRecursion (λ (p : Part). Kinds p.message) (ended x.to (parts limit number blobs x.message))
  kinds_one limit number blobs x is = kinds_ended x.to x.message (parts limit number blobs x.message) is (parts_kind limit number blobs x.message)

  pub kinds_of : (limit number blobs : ℕ) (xs : List Saying) → AllByRecursion (λ (x : Saying). Kinds x.message) xs → AllByRecursion (λ (p : Part). Kinds p.message) (cut_all limit number blobs xs)
  kinds_of limit number blobs [] all = tt
  kinds_of limit number blobs (x ∷ xs) all =
      all-append (λ (p : Part). Kinds p.message) (ended x.to (parts limit number blobs x.message)) (cut_all limit number (blobs_after limit blobs x.message) xs)
      (kinds_ended x.to x.message (parts limit number blobs x.message) all.0 (parts_kind limit number blobs x.message))
      (kinds_of limit number (blobs_after limit blobs x.message) xs all.1)

-- ---- beginnings

pub prefix_none : {A : Type 0} (ys : List A) → IsPrefix [] ys
prefix_none ys = (ys, refl)

-- ---- one message

grows_gathers : (last : Bool) (whole : _) (points : _) (k : Heard) → IsPrefix k.told (gathers last whole points k).told
grows_gathers false whole points k = prefix_self k.told
grows_gathers true whole points k = prefix-append k.told (whole (k.part ++ points))

grows_if : (b : Bool) (j k : Heard) → IsPrefix k.told j.told → IsPrefix k.told (if b then j else k).told
grows_if true j k p = p
grows_if false j k p = prefix_self k.told

-- a message that stops nothing adds to what was sent
grows_notice : (c : ℤ) (last : Bool) (m : ChannelSubscribeMessage) (k : Heard) → notice_stops m ≡ false → IsPrefix k.told (hear_notice c last m k).told
grows_notice c last (subscribe.GetChannelMetadata x) k e = prefix_self k.told
grows_notice c last (subscribe.GetChannelMetadataResponse x) k e = prefix_self k.told
grows_notice c last (subscribe.SubscribeChannels x) k e = prefix_self k.told
grows_notice c last (subscribe.ChannelData x) k e = grows_gathers last _ _ k
grows_notice c last (subscribe.RangeReplaced x) k e = grows_if (list_any (int_eq c) x.channel_ids) _ k (grows_gathers last _ _ k)
grows_notice c last (subscribe.UnsubscribeChannels x) k e = prefix_self k.told
grows_notice c last (subscribe.SubscriptionsStopped x) k e = absurd (cc e)
grows_notice c last (subscribe.GetRanges x) k e = prefix_self k.told
grows_notice c last (subscribe.GetRangesResponse x) k e = prefix_self k.told
grows_notice c last (subscribe.SubscribeChannelsResponse x) k e = prefix_self k.told
grows_notice c last (subscribe.ChannelsTruncated x) k e = prefix-append k.told _

grows : (c : ℤ) (last : Bool) (m : Message) (k : Heard) → stops m ≡ false → IsPrefix k.told (hear_message c last m k).told
grows c last (message.Core x) k e = prefix_self k.told
grows c last (message.Transaction x) k e = prefix_self k.told
grows c last (message.Dataspace x) k e = prefix_self k.told
grows c last (message.Store x) k e = prefix_self k.told
grows c last (message.DataArray x) k e = prefix_self k.told
grows c last (message.ChannelSubscribe x) k e = grows_notice c last x k e
grows c last (message.ChannelDataLoad x) k e = prefix_self k.told

-- one that sends no change leaves what was sent, or begins anew
shrinks_if : (b : Bool) (reason : List ℕ) (k : Heard) → IsPrefix (if b then stops_for reason k else k).told k.told
shrinks_if true reason k = prefix_none k.told
shrinks_if false reason k = prefix_self k.told

shrinks_stops : (c : ℤ) (reason : List ℕ) (ids : List (List ℕ × ℤ)) (k : Heard) → IsPrefix (hear_stops c reason ids k).told k.told
shrinks_stops c reason [] k = prefix_self k.told
shrinks_stops c reason (x ∷ ids) k =
    prefix_trans (hear_stops c reason (x ∷ ids) k).told (if int_eq x.1 c then stops_for reason k else k).told k.told
    (shrinks_stops c reason ids (if int_eq x.1 c then stops_for reason k else k)) (shrinks_if (int_eq x.1 c) reason k)

shrinks_notice : (c : ℤ) (last : Bool) (m : ChannelSubscribeMessage) (k : Heard) → notice_tells m ≡ false → IsPrefix (hear_notice c last m k).told k.told
shrinks_notice c last (subscribe.GetChannelMetadata x) k e = prefix_self k.told
shrinks_notice c last (subscribe.GetChannelMetadataResponse x) k e = prefix_self k.told
shrinks_notice c last (subscribe.SubscribeChannels x) k e = prefix_self k.told
shrinks_notice c last (subscribe.ChannelData x) k e = absurd (cc e)
shrinks_notice c last (subscribe.RangeReplaced x) k e = absurd (cc e)
shrinks_notice c last (subscribe.UnsubscribeChannels x) k e = prefix_self k.told
shrinks_notice c last (subscribe.SubscriptionsStopped x) k e = shrinks_stops c x.reason x.channel_ids k
shrinks_notice c last (subscribe.GetRanges x) k e = prefix_self k.told
shrinks_notice c last (subscribe.GetRangesResponse x) k e = prefix_self k.told
shrinks_notice c last (subscribe.SubscribeChannelsResponse x) k e = prefix_self k.told
shrinks_notice c last (subscribe.ChannelsTruncated x) k e = absurd (cc e)

shrinks : (c : ℤ) (last : Bool) (m : Message) (k : Heard) → tells m ≡ false → IsPrefix (hear_message c last m k).told k.told
shrinks c last (message.Core x) k e = prefix_self k.told
shrinks c last (message.Transaction x) k e = prefix_self k.told
shrinks c last (message.Dataspace x) k e = prefix_self k.told
shrinks c last (message.Store x) k e = prefix_self k.told
shrinks c last (message.DataArray x) k e = prefix_self k.told
shrinks c last (message.ChannelSubscribe x) k e = shrinks_notice c last x k e
shrinks c last (message.ChannelDataLoad x) k e = prefix_self k.told

-- no stop is taken back
adds_gathers : (last : Bool) (whole : _) (points : _) (k : Heard) → IsPrefix k.stops (gathers last whole points k).stops
adds_gathers false whole points k = prefix_self k.stops
adds_gathers true whole points k = prefix_self k.stops

adds_if : (b : Bool) (j k : Heard) → IsPrefix k.stops j.stops → IsPrefix k.stops (if b then j else k).stops
adds_if true j k p = p
adds_if false j k p = prefix_self k.stops

adds_stops : (c : ℤ) (reason : List ℕ) (ids : List (List ℕ × ℤ)) (k : Heard) → IsPrefix k.stops (hear_stops c reason ids k).stops
adds_stops c reason [] k = prefix_self k.stops
adds_stops c reason (x ∷ ids) k =
    prefix_trans k.stops (if int_eq x.1 c then stops_for reason k else k).stops (hear_stops c reason (x ∷ ids) k).stops
    (adds_if (int_eq x.1 c) (stops_for reason k) k (prefix-append k.stops (record { reason = reason; told = k.told } ∷ [])))
    (adds_stops c reason ids (if int_eq x.1 c then stops_for reason k else k))

adds_notice : (c : ℤ) (last : Bool) (m : ChannelSubscribeMessage) (k : Heard) → IsPrefix k.stops (hear_notice c last m k).stops
adds_notice c last (subscribe.GetChannelMetadata x) k = prefix_self k.stops
adds_notice c last (subscribe.GetChannelMetadataResponse x) k = prefix_self k.stops
adds_notice c last (subscribe.SubscribeChannels x) k = prefix_self k.stops
adds_notice c last (subscribe.ChannelData x) k = adds_gathers last _ _ k
adds_notice c last (subscribe.RangeReplaced x) k = adds_if (list_any (int_eq c) x.channel_ids) _ k (adds_gathers last _ _ k)
adds_notice c last (subscribe.UnsubscribeChannels x) k = prefix_self k.stops
adds_notice c last (subscribe.SubscriptionsStopped x) k = adds_stops c x.reason x.channel_ids k
adds_notice c last (subscribe.GetRanges x) k = prefix_self k.stops
adds_notice c last (subscribe.GetRangesResponse x) k = prefix_self k.stops
adds_notice c last (subscribe.SubscribeChannelsResponse x) k = prefix_self k.stops
adds_notice c last (subscribe.ChannelsTruncated x) k = prefix_self k.stops

adds : (c : ℤ) (last : Bool) (m : Message) (k : Heard) → IsPrefix k.stops (hear_message c last m k).stops
adds c last (message.Core x) k = prefix_self k.stops
adds c last (message.Transaction x) k = prefix_self k.stops
adds c last (message.Dataspace x) k = prefix_self k.stops
adds c last (message.Store x) k = prefix_self k.stops
adds c last (message.DataArray x) k = prefix_self k.stops
adds c last (message.ChannelSubscribe x) k = adds_notice c last x k
adds c last (message.ChannelDataLoad x) k = prefix_self k.stops

-- one that does neither is not heard
abbrev pub IsQuiet : Bool → Bool → Type 0
IsQuiet t s = (t ≡ false) × (s ≡ false)

unheard_notice : (c : ℤ) (last : Bool) (m : ChannelSubscribeMessage) (k : Heard) → IsQuiet (notice_tells m) (notice_stops m) → hear_notice c last m k ≡ k
unheard_notice c last (subscribe.GetChannelMetadata x) k e = refl
unheard_notice c last (subscribe.GetChannelMetadataResponse x) k e = refl
unheard_notice c last (subscribe.SubscribeChannels x) k e = refl
unheard_notice c last (subscribe.ChannelData x) k e = absurd (cc e.0)
unheard_notice c last (subscribe.RangeReplaced x) k e = absurd (cc e.0)
unheard_notice c last (subscribe.UnsubscribeChannels x) k e = refl
unheard_notice c last (subscribe.SubscriptionsStopped x) k e = absurd (cc e.1)
unheard_notice c last (subscribe.GetRanges x) k e = refl
unheard_notice c last (subscribe.GetRangesResponse x) k e = refl
unheard_notice c last (subscribe.SubscribeChannelsResponse x) k e = refl
unheard_notice c last (subscribe.ChannelsTruncated x) k e = absurd (cc e.0)

unheard : (c : ℤ) (last : Bool) (m : Message) (k : Heard) → IsQuiet (tells m) (stops m) → hear_message c last m k ≡ k
unheard c last (message.Core x) k e = refl
unheard c last (message.Transaction x) k e = refl
unheard c last (message.Dataspace x) k e = refl
unheard c last (message.Store x) k e = refl
unheard c last (message.DataArray x) k e = refl
unheard c last (message.ChannelSubscribe x) k e = unheard_notice c last x k e
unheard c last (message.ChannelDataLoad x) k e = refl

-- ---- parts as they are numbered

-- whether a part followed by this many of the reply is flagged as the last
abbrev pub flagged : Part → ℕ → Bool
flagged p left = has_flag (flags_to p.to p.last left) final_part

-- what is heard in all parts
abbrev pub hear_parts : ℤ → Heard → List Part → Heard
hear_parts c k [] = k
hear_parts c k (p ∷ ps) = hear_parts c (hear_message c (flagged p (replies_in ps)) p.message k) ps

pub numbered_heard : (c : ℤ) (r : Request) (id : ℕ) (ps : List Part) (k : Heard) → is_spent id ps ≡ false → fold (hear c) k (numbered r id ps) ≡ hear_parts c k ps
numbered_heard c r id [] k e = refl
numbered_heard c r id (p ∷ ps) k e = by (nat_le id max_id) e (numbered_heard c r (id + 2) ps (hear_message c (flagged p (replies_in ps)) p.message k))
  where
    by : (t : Bool) → (if t then is_spent (id + 2) ps else true) ≡ false
        → (is_spent (id + 2) ps ≡ false → fold (hear c) (hear_message c (flagged p (replies_in ps)) p.message k) (numbered r (id + 2) ps) ≡ hear_parts c (hear_message c (flagged p (replies_in ps)) p.message k) ps)
        → fold (hear c) k (if t then outgoing r id (replies_in ps) p ∷ numbered r (id + 2) ps else []) ≡ hear_parts c k (p ∷ ps)
    by true e rest = rest e
    by false e rest = absurd (cc e)

-- parts that nobody hears
pub numbered_quiet : (c : ℤ) (r : Request) (id : ℕ) (ps : List Part) (k : Heard) → AllByRecursion (λ (p : Part). IsQuiet (tells p.message) (stops p.message)) ps → fold (hear c) k (numbered r id ps) ≡ k
numbered_quiet c r id [] k q = refl
numbered_quiet c r id (p ∷ ps) k q = by (nat_le id max_id) (numbered_quiet c r (id + 2) ps k q.1)
  where
    by : (t : Bool) → fold (hear c) k (numbered r (id + 2) ps) ≡ k → fold (hear c) k (if t then outgoing r id (replies_in ps) p ∷ numbered r (id + 2) ps else []) ≡ k
    by true rest = ap (λ j. fold (hear c) j (numbered r (id + 2) ps)) (unheard c (flagged p (replies_in ps)) p.message k q.0) ∙ rest
    by false rest = refl

-- the parts that could be numbered send a prefix, if none of them stops
parts_grow : (c : ℤ) (ps : List Part) (k : Heard) → AllByRecursion (λ (p : Part). stops p.message ≡ false) ps → IsPrefix k.told (hear_parts c k ps).told
parts_grow c [] k q = prefix_self k.told
parts_grow c (p ∷ ps) k q =
    prefix_trans k.told (hear_message c (flagged p (replies_in ps)) p.message k).told (hear_parts c k (p ∷ ps)).told
    (grows c (flagged p (replies_in ps)) p.message k q.0) (parts_grow c ps (hear_message c (flagged p (replies_in ps)) p.message k) q.1)

pub numbered_front : (c : ℤ) (r : Request) (id : ℕ) (ps : List Part) (k : Heard) → AllByRecursion (λ (p : Part). stops p.message ≡ false) ps
    → IsPrefix (fold (hear c) k (numbered r id ps)).told (hear_parts c k ps).told
numbered_front c r id [] k q = prefix_self k.told
numbered_front c r id (p ∷ ps) k q = by (nat_le id max_id) (numbered_front c r (id + 2) ps (hear_message c (flagged p (replies_in ps)) p.message k) q.1)
  where
    by : (t : Bool) → IsPrefix (fold (hear c) (hear_message c (flagged p (replies_in ps)) p.message k) (numbered r (id + 2) ps)).told (hear_parts c k (p ∷ ps)).told
        → IsPrefix (fold (hear c) k (if t then outgoing r id (replies_in ps) p ∷ numbered r (id + 2) ps else [])).told (hear_parts c k (p ∷ ps)).told
    by true rest = rest
    by false rest = parts_grow c (p ∷ ps) k q

-- if none of them sends a change, they leave a prefix of what was sent
pub numbered_back : (c : ℤ) (r : Request) (id : ℕ) (ps : List Part) (k : Heard) → AllByRecursion (λ (p : Part). tells p.message ≡ false) ps
    → IsPrefix (fold (hear c) k (numbered r id ps)).told k.told
numbered_back c r id [] k q = prefix_self k.told
numbered_back c r id (p ∷ ps) k q = by (nat_le id max_id) (numbered_back c r (id + 2) ps (hear_message c (flagged p (replies_in ps)) p.message k) q.1)
  where
    by : (t : Bool) → IsPrefix (fold (hear c) (hear_message c (flagged p (replies_in ps)) p.message k) (numbered r (id + 2) ps)).told (hear_message c (flagged p (replies_in ps)) p.message k).told
        → IsPrefix (fold (hear c) k (if t then outgoing r id (replies_in ps) p ∷ numbered r (id + 2) ps else [])).told k.told
    by true rest =
        prefix_trans (fold (hear c) (hear_message c (flagged p (replies_in ps)) p.message k) (numbered r (id + 2) ps)).told (hear_message c (flagged p (replies_in ps)) p.message k).told k.told
        rest (shrinks c (flagged p (replies_in ps)) p.message k q.0)
    by false rest = prefix_self k.told

-- the parts that could be numbered stop no more than all parts
parts_add : (c : ℤ) (ps : List Part) (k : Heard) → IsPrefix k.stops (hear_parts c k ps).stops
parts_add c [] k = prefix_self k.stops
parts_add c (p ∷ ps) k =
    prefix_trans k.stops (hear_message c (flagged p (replies_in ps)) p.message k).stops (hear_parts c k (p ∷ ps)).stops
    (adds c (flagged p (replies_in ps)) p.message k) (parts_add c ps (hear_message c (flagged p (replies_in ps)) p.message k))

pub numbered_stops : (c : ℤ) (r : Request) (id : ℕ) (ps : List Part) (k : Heard) → IsPrefix (fold (hear c) k (numbered r id ps)).stops (hear_parts c k ps).stops
numbered_stops c r id [] k = prefix_self k.stops
numbered_stops c r id (p ∷ ps) k = by (nat_le id max_id) (numbered_stops c r (id + 2) ps (hear_message c (flagged p (replies_in ps)) p.message k))
  where
    by : (t : Bool) → IsPrefix (fold (hear c) (hear_message c (flagged p (replies_in ps)) p.message k) (numbered r (id + 2) ps)).stops (hear_parts c k (p ∷ ps)).stops
        → IsPrefix (fold (hear c) k (if t then outgoing r id (replies_in ps) p ∷ numbered r (id + 2) ps else [])).stops (hear_parts c k (p ∷ ps)).stops
    by true rest = rest
    by false rest = parts_add c (p ∷ ps) k

-- ---- what is heard in all parts, message by message

pub parts_quiet : (c : ℤ) (ps qs : List Part) (k : Heard) → AllByRecursion (λ (p : Part). IsQuiet (tells p.message) (stops p.message)) ps → hear_parts c k (ps ++ qs) ≡ hear_parts c k qs
parts_quiet c [] qs k q = refl
parts_quiet c (p ∷ ps) qs k q = ap (λ j. hear_parts c j (ps ++ qs)) (unheard c (flagged p (replies_in (ps ++ qs))) p.message k q.0) ∙ parts_quiet c ps qs k q.1

-- the parts of one message, the last of which is known as such
abbrev pub hear_whole : ℤ → Heard → List Message → Heard
hear_whole c k [] = k
hear_whole c k (m ∷ []) = hear_message c true m k
hear_whole c k (m ∷ n ∷ ms) = hear_whole c (hear_message c false m k) (n ∷ ms)

last_flag : (last : Bool) → has_flag (if last then pos 2 else pos 0) final_part ≡ last
last_flag true = refl
last_flag false = refl

-- a notice's last part is flagged
pub notice_parts : (c : ℤ) (ms : List Message) (qs : List Part) (k : Heard) → hear_parts c k (ended to.Nobody ms ++ qs) ≡ hear_parts c (hear_whole c k ms) qs
notice_parts c [] qs k = refl
notice_parts c (m ∷ []) qs k = ap (λ b. hear_parts c (hear_message c b m k) qs) (last_flag true)
notice_parts c (m ∷ n ∷ ms) qs k =
    ap (λ b. hear_parts c (hear_message c b m k) (ended to.Nobody (n ∷ ms) ++ qs)) (last_flag false) ∙ notice_parts c (n ∷ ms) qs (hear_message c false m k)

-- ---- the parts of a message that has its items in groups

module _ {A : Type 0} (size : A → Amount) (limit : ℕ) where
  -- there is at least one group
  some_group : (held xs : List A) → (g : List A) × (gs : List (List A)) × (groups_from size limit held xs ≡ g ∷ gs)
  some_group held [] = (held, [], refl)
  some_group held (x ∷ xs) = by (goes_in size limit held x) (some_group (held ++ x ∷ []) xs)
    where
      by : (t : Bool) → (g : List A) × (gs : List (List A)) × (groups_from size limit (held ++ x ∷ []) xs ≡ g ∷ gs)
          → (g : List A) × (gs : List (List A)) × ((if t then groups_from size limit (held ++ x ∷ []) xs else held ∷ groups_from size limit (x ∷ []) xs) ≡ g ∷ gs)
      by true rest = rest
      by false rest = (held, groups_from size limit (x ∷ []) xs, refl)

  -- points that are gathered part by part are all points
  module _ (c : ℤ) (f : List A → Message) (whole : _) (points : List A → _)
      (hears : (last : Bool) (g : List A) (k : Heard) → hear_message c last (f g) k ≡ gathers last whole (points g) k)
      (joins : (xs ys : List A) → points (xs ++ ys) ≡ points xs ++ points ys) where
    gathered_from : (held xs : List A) (k : Heard)
        → hear_whole c k (map f (groups_from size limit held xs)) ≡ record k { told = k.told ++ whole (k.part ++ points (held ++ xs)); part = [] }
    gathered_from held [] k = hears true held k ∙ ap (λ l. record k { told = k.told ++ whole (k.part ++ points l); part = [] }) (sym (append-nil held))
    gathered_from held (x ∷ xs) k =
        by (goes_in size limit held x) (gathered_from (held ++ x ∷ []) xs k) (gathered_from (x ∷ []) xs (gathers false whole (points held) k)) (some_group (x ∷ []) xs)
      where
        all : Heard
        all = record k { told = k.told ++ whole (k.part ++ points (held ++ x ∷ xs)); part = [] }

        first : (g : List A) (gs : List (List A)) → groups_from size limit (x ∷ []) xs ≡ g ∷ gs
            → hear_whole c (gathers false whole (points held) k) (map f (groups_from size limit (x ∷ []) xs)) ≡ record k { told = k.told ++ whole ((k.part ++ points held) ++ points (x ∷ xs)); part = [] }
            → hear_whole c k (map f (held ∷ groups_from size limit (x ∷ []) xs)) ≡ all
        first g gs e rest =
            ap (λ l. hear_whole c k (map f (held ∷ l))) e
            ∙ ap (λ j. hear_whole c j (map f (g ∷ gs))) (hears false held k)
            ∙ ap (λ l. hear_whole c (gathers false whole (points held) k) (map f l)) (sym e)
            ∙ rest
            ∙ ap (λ l. record k { told = k.told ++ whole l; part = [] })
            (append_assoc k.part (points held) (points (x ∷ xs)) ∙ ap (λ l. k.part ++ l) (sym (joins held (x ∷ xs))))

        by : (t : Bool) → hear_whole c k (map f (groups_from size limit (held ++ x ∷ []) xs)) ≡ record k { told = k.told ++ whole (k.part ++ points ((held ++ x ∷ []) ++ xs)); part = [] }
            → hear_whole c (gathers false whole (points held) k) (map f (groups_from size limit (x ∷ []) xs)) ≡ record k { told = k.told ++ whole ((k.part ++ points held) ++ points (x ∷ xs)); part = [] }
            → (g : List A) × (gs : List (List A)) × (groups_from size limit (x ∷ []) xs ≡ g ∷ gs)
            → hear_whole c k (map f (if t then groups_from size limit (held ++ x ∷ []) xs else held ∷ groups_from size limit (x ∷ []) xs)) ≡ all
        by true goes closes some = goes ∙ ap (λ l. record k { told = k.told ++ whole (k.part ++ points l); part = [] }) (append_assoc held (x ∷ []) xs)
        by false goes closes some = first some.0 some.1 some.2 closes

    pub gathered : (xs : List A) (k : Heard) → hear_whole c k (map f (groups size limit xs)) ≡ record k { told = k.told ++ whole (k.part ++ points xs); part = [] }
    gathered xs k = gathered_from [] xs k

  -- stops that are named part by part are all stops, whatever is known of the last one
  module _ (c : ℤ) (f : List A → Message) (step : Heard → A → Heard)
      (hears : (last : Bool) (g : List A) (k : Heard) → hear_message c last (f g) k ≡ fold step k g) where
    fold_append : (xs ys : List A) (k : Heard) → fold step k (xs ++ ys) ≡ fold step (fold step k xs) ys
    fold_append [] ys k = refl
    fold_append (x ∷ xs) ys k = fold_append xs ys (step k x)

    abbrev one_part : Addressee → List A → Bool → Part
    one_part a g last = record { to = a; message = f g; last = last }

    named_from : (a : Addressee) (held xs : List A) (qs : List Part) (k : Heard)
        → hear_parts c k (ended a (map f (groups_from size limit held xs)) ++ qs) ≡ hear_parts c (fold step k (held ++ xs)) qs
    named_from a held [] qs k = ap (λ j. hear_parts c j qs) (hears (flagged (one_part a held true) (replies_in qs)) held k ∙ ap (fold step k) (sym (append-nil held)))
    named_from a held (x ∷ xs) qs k =
        by (goes_in size limit held x) (named_from a (held ++ x ∷ []) xs qs k) (named_from a (x ∷ []) xs qs (fold step k held)) (some_group (x ∷ []) xs)
      where
        first : (g : List A) (gs : List (List A)) → groups_from size limit (x ∷ []) xs ≡ g ∷ gs
            → hear_parts c (fold step k held) (ended a (map f (groups_from size limit (x ∷ []) xs)) ++ qs) ≡ hear_parts c (fold step (fold step k held) (x ∷ xs)) qs
            → hear_parts c k (ended a (map f (held ∷ groups_from size limit (x ∷ []) xs)) ++ qs) ≡ hear_parts c (fold step k (held ++ x ∷ xs)) qs
        first g gs e rest =
            ap (λ l. hear_parts c k (ended a (map f (held ∷ l)) ++ qs)) e
            ∙ ap (λ j. hear_parts c j (ended a (map f (g ∷ gs)) ++ qs)) (hears (flagged (one_part a held false) (replies_in (ended a (map f (g ∷ gs)) ++ qs))) held k)
            ∙ ap (λ l. hear_parts c (fold step k held) (ended a (map f l) ++ qs)) (sym e)
            ∙ rest
            ∙ ap (λ j. hear_parts c j qs) (sym (fold_append held (x ∷ xs) k))

        by : (t : Bool) → hear_parts c k (ended a (map f (groups_from size limit (held ++ x ∷ []) xs)) ++ qs) ≡ hear_parts c (fold step k ((held ++ x ∷ []) ++ xs)) qs
            → hear_parts c (fold step k held) (ended a (map f (groups_from size limit (x ∷ []) xs)) ++ qs) ≡ hear_parts c (fold step (fold step k held) (x ∷ xs)) qs
            → (g : List A) × (gs : List (List A)) × (groups_from size limit (x ∷ []) xs ≡ g ∷ gs)
            → hear_parts c k (ended a (map f (if t then groups_from size limit (held ++ x ∷ []) xs else held ∷ groups_from size limit (x ∷ []) xs)) ++ qs) ≡ hear_parts c (fold step k (held ++ x ∷ xs)) qs
        by true goes closes some = goes ∙ ap (λ l. hear_parts c (fold step k l) qs) (append_assoc held (x ∷ []) xs)
        by false goes closes some = first some.0 some.1 some.2 closes

    pub named : (a : Addressee) (xs : List A) (qs : List Part) (k : Heard) → hear_parts c k (ended a (map f (groups size limit xs)) ++ qs) ≡ hear_parts c (fold step k xs) qs
    named a xs qs k = named_from a [] xs qs k
