-- Parts of messages that do not concern subscriptions, and parts that are numbered in two pieces.
use Rattle.std.specs.Prelude.{ℕ, Bool, true, false, List, [], ◌∷◌, ◌++◌, ◌≡◌, ◌+◌, map, nat_le, if◌then◌else◌, refl}
use Rattle.std.specs.List.{AllByRecursion}
use Rattle.std.proofs.Common.{ap, sym, ◌∙◌, append_assoc, arith}
use Rattle.channel_rows.specs.Notices.{notice}
use Rattle.channel_store.specs.declared.change.ChannelChange.{ChannelChange}
use Rattle.etp_values.proofs.EachLemmas.{all-append}
use Rattle.etp_frame.specs.Grouping.{entry_amount, groups}
use Rattle.etp_frame.specs.Splitting.{parts, channel_subscribe_parts}
use Rattle.etp_frame.specs.declared.message.Message.{Message}
use Rattle.etp_frame.specs.declared.message.Message.TheVariants as message
use Rattle.etp_schema.specs.Form.{text_form}
use Rattle.msg_channel.specs.declared.channel_subscribe_messages.ChannelSubscribeMessage.{ChannelSubscribeMessage}
use Rattle.msg_channel.specs.declared.channel_subscribe_messages.ChannelSubscribeMessage.TheVariants as subscribe
use Rattle.msg_channel.specs.declared.channel_subscribe_messages.SubscribeChannelsResponse.{SubscribeChannelsResponse}
use Rattle.session_core.specs.declared.state.Addressee.{Addressee}
use Rattle.session_core.specs.declared.state.Addressee.TheVariants as to
use Rattle.session_core.specs.declared.state.Outgoing.{Outgoing}
use Rattle.session_core.specs.declared.state.Part.{Part}
use Rattle.session_core.specs.declared.state.Request.{Request}
use Rattle.session_core.specs.declared.state.Saying.{Saying}
use Rattle.session_core.specs.Granting.{IsAside, some_key, speaks, subscribe_speaks}
use Rattle.session_core.specs.Replies.{sayings_of}
use Rattle.session_core.specs.Sending.{blobs_after, blobs_sent, cut_all, ended, is_spent, max_id, next_after, numbered, outgoing, replies_in}
use Rattle.session_core.proofs.TellingLemmas.{note}
use Rattle.session_core.proofs.MessagePartLemmas.{all_map, array_each, core_each, load_each, object_each, space_each}

-- ---- parts that do not concern them

abbrev pub IsSilent : Message → Type 0
IsSilent m = speaks m ≡ false

granted_silent : (limit : ℕ) (x : SubscribeChannelsResponse) (ks : List (List ℕ × List ℕ)) → some_key ks ≡ false
    → AllByRecursion IsSilent (map (λ g. message.ChannelSubscribe (subscribe.SubscribeChannelsResponse (record x { success = g }))) (groups (entry_amount text_form) limit ks))
granted_silent limit x [] e = (refl, tt)
granted_silent limit x (k ∷ ks) e = absurd (cc e)

subscribe_silent : (limit : ℕ) (x : ChannelSubscribeMessage) → subscribe_speaks x ≡ false → AllByRecursion IsSilent (channel_subscribe_parts limit x)
subscribe_silent limit (subscribe.GetChannelMetadata x) e = (refl, tt)
subscribe_silent limit (subscribe.GetChannelMetadataResponse x) e = all_map IsSilent _ (λ g. refl) _
subscribe_silent limit (subscribe.SubscribeChannels x) e = (refl, tt)
subscribe_silent limit (subscribe.ChannelData x) e = absurd (cc e)
subscribe_silent limit (subscribe.RangeReplaced x) e = absurd (cc e)
subscribe_silent limit (subscribe.UnsubscribeChannels x) e = (refl, tt)
subscribe_silent limit (subscribe.SubscriptionsStopped x) e = absurd (cc e)
subscribe_silent limit (subscribe.GetRanges x) e = (refl, tt)
subscribe_silent limit (subscribe.GetRangesResponse x) e = all_map IsSilent _ (λ g. refl) _
subscribe_silent limit (subscribe.SubscribeChannelsResponse x) e = granted_silent limit x x.success e
subscribe_silent limit (subscribe.ChannelsTruncated x) e = absurd (cc e)

parts_silent : (limit number k : ℕ) (m : Message) → speaks m ≡ false → AllByRecursion IsSilent (parts limit number k m)
parts_silent limit number k (message.Core x) e = core_each IsSilent (λ x. refl) limit x
parts_silent limit number k (message.Transaction x) e = (refl, tt)
parts_silent limit number k (message.Dataspace x) e = space_each IsSilent (λ x. refl) limit x
parts_silent limit number k (message.Store x) e = object_each IsSilent (λ x. refl) limit number k x
parts_silent limit number k (message.DataArray x) e = array_each IsSilent (λ x. refl) limit x
parts_silent limit number k (message.ChannelSubscribe x) e = subscribe_silent limit x e
parts_silent limit number k (message.ChannelDataLoad x) e = load_each IsSilent (λ x. refl) limit x

ended_silent : (a : Addressee) (ms : List Message) → AllByRecursion IsSilent ms → AllByRecursion (λ (p : Part). speaks p.message ≡ false) (ended a ms)
ended_silent a [] all = tt
ended_silent a (x ∷ []) all = (all.0, tt)
ended_silent a (x ∷ y ∷ ms) all = (all.0, ended_silent a (y ∷ ms) all.1)

said_silent : (limit number blobs : ℕ) (xs : List Saying) → AllByRecursion IsAside xs → AllByRecursion (λ (p : Part). speaks p.message ≡ false) (cut_all limit number blobs xs)
said_silent limit number blobs [] all = tt
said_silent limit number blobs (x ∷ xs) all =
    all-append (λ (p : Part). speaks p.message ≡ false) (ended x.to (parts limit number blobs x.message)) (cut_all limit number (blobs_after limit blobs x.message) xs)
    (ended_silent x.to (parts limit number blobs x.message) (parts_silent limit number blobs x.message all.0.0))
    (said_silent limit number (blobs_after limit blobs x.message) xs all.1)

numbered_each : (r : Request) (id : ℕ) (ps : List Part) → AllByRecursion (λ (p : Part). speaks p.message ≡ false) ps → AllByRecursion (λ (o : Outgoing). speaks o.message ≡ false) (numbered r id ps)
numbered_each r id [] all = tt
numbered_each r id (p ∷ ps) all = by (nat_le id max_id) (numbered_each r (id + 2) ps all.1)
  where
    by : (t : Bool) → AllByRecursion (λ (o : Outgoing). speaks o.message ≡ false) (numbered r (id + 2) ps)
        → AllByRecursion (λ (o : Outgoing). speaks o.message ≡ false) (if t then outgoing r id (replies_in ps) p ∷ numbered r (id + 2) ps else [])
    by true rest = (all.0, rest)
    by false rest = tt

-- what is said aside is sent so
pub numbered_silent : (r : Request) (id limit number blobs : ℕ) (xs : List Saying) → AllByRecursion IsAside xs → AllByRecursion (λ (o : Outgoing). speaks o.message ≡ false) (numbered r id (cut_all limit number blobs xs))
numbered_silent r id limit number blobs xs all = numbered_each r id (cut_all limit number blobs xs) (said_silent limit number blobs xs all)

-- ---- in two pieces

replies_append : (ps qs : List Part) → replies_in (ps ++ qs) ≡ replies_in ps + replies_in qs
replies_append [] qs = omega arith
replies_append (p ∷ ps) qs = let rest : replies_in (ps ++ qs) ≡ replies_in ps + replies_in qs = replies_append ps qs in omega (arith, rest)

-- parts that end with some that are not replies are numbered as two lists
abbrev pub Splits : Request → ℕ → List Part → List Part → Type 0
Splits r id ps qs = (is_spent id ps ≡ false) × (is_spent (next_after id ps) qs ≡ false) × (numbered r id (ps ++ qs) ≡ numbered r id ps ++ numbered r (next_after id ps) qs)

pub numbered_split : (r : Request) (id : ℕ) (ps qs : List Part) → replies_in qs ≡ 0 → is_spent id (ps ++ qs) ≡ false → Splits r id ps qs
numbered_split r id [] qs none e = (refl, e, refl)
numbered_split r id (p ∷ ps) qs none e = by (nat_le id max_id) e (λ f. numbered_split r (id + 2) ps qs none f)
  where
    same : replies_in (ps ++ qs) ≡ replies_in ps
    same = let f = replies_append ps qs in omega (arith, f, none)

    by : (t : Bool) → (if t then is_spent (id + 2) (ps ++ qs) else true) ≡ false → (is_spent (id + 2) (ps ++ qs) ≡ false → Splits r (id + 2) ps qs)
        → ((if t then is_spent (id + 2) ps else true) ≡ false) × (is_spent (if t then next_after (id + 2) ps else id) qs ≡ false)
        × ((if t then outgoing r id (replies_in (ps ++ qs)) p ∷ numbered r (id + 2) (ps ++ qs) else [])
        ≡ (if t then outgoing r id (replies_in ps) p ∷ numbered r (id + 2) ps else []) ++ numbered r (if t then next_after (id + 2) ps else id) qs)
    by true e rest = let f = rest e in (f.0, f.1, (λ i. outgoing r id (same i) p ∷ f.2 i))
    by false e rest = absurd (cc e)

pub parts_append : (limit number blobs : ℕ) (xs ys : List Saying) → cut_all limit number blobs (xs ++ ys) ≡ cut_all limit number blobs xs ++ cut_all limit number (blobs_sent limit blobs xs) ys
parts_append limit number blobs [] ys = refl
parts_append limit number blobs (x ∷ xs) ys =
    ap (λ l. ended x.to (parts limit number blobs x.message) ++ l) (parts_append limit number (blobs_after limit blobs x.message) xs ys)
    ∙ sym (append_assoc (ended x.to (parts limit number blobs x.message)) (cut_all limit number (blobs_after limit blobs x.message) xs) (cut_all limit number (blobs_sent limit (blobs_after limit blobs x.message) xs) ys))

-- ---- notices are not replies

ended_replies : (ms : List Message) → replies_in (ended to.Nobody ms) ≡ 0
ended_replies [] = refl
ended_replies (m ∷ []) = refl
ended_replies (m ∷ n ∷ ms) = let rest : replies_in (ended to.Nobody (n ∷ ms)) ≡ 0 = ended_replies (n ∷ ms) in omega (arith, rest)

pub notices_replies : (limit number blobs : ℕ) (cs : List ChannelChange) → replies_in (cut_all limit number blobs (sayings_of message.ChannelSubscribe (map notice cs))) ≡ 0
notices_replies limit number blobs [] = refl
notices_replies limit number blobs (c ∷ cs) =
    let x : Saying = note c in
    let first : List Part = ended to.Nobody (parts limit number blobs x.message) in
    let later : List Part = cut_all limit number (blobs_after limit blobs x.message) (sayings_of message.ChannelSubscribe (map notice cs)) in
    let f = replies_append first later in
    let g = ended_replies (parts limit number blobs x.message) in
    let k = notices_replies limit number (blobs_after limit blobs x.message) cs in
    omega (arith, f, g, k)
