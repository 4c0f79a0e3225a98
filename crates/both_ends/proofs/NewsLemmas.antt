-- The notices of changes, one after the other.
use Rattle.std.proofs.Common.{◌≡◌, ◌+◌, ◌%◌, ℕ, ℤ, pos, Bool, true, false, ◌&&◌, ◌||◌, int_lt, int_rem, nat_le, List, [], ◌∷◌, ◌++◌, None, Result, Ok, Err, map, if◌then◌else◌, refl, sym, ap, subst, ◌∙◌, arith}
use Rattle.std.specs.List.{AllByRecursion}
use Rattle.std.specs.Ordering.{int_eq}
use Rattle.std.proofs.lemmas.Bool.{false≢true, and_parts}
use Rattle.std.proofs.lemmas.Int.{ints}
use Rattle.channel_rows.specs.Notices.{interval_of, notice_of}
use Rattle.channel_rows.specs.Points.{items_of}
use Rattle.channel_store.specs.Points.{after}
use Rattle.channel_store.specs.declared.change.ChannelChange.{ChannelChange}
use Rattle.channel_store.specs.declared.change.What.{What}
use Rattle.channel_store.specs.declared.change.What.TheVariants.{Append, Replace, Truncate}
use Rattle.channel_store.specs.declared.copy.ChangeMsg.{ChangeMsg}
use Rattle.client_core.specs.Notices.{follow_all, follows, is_live}
use Rattle.client_core.specs.State.{Heard}
use Rattle.client_core.specs.Taking.{is_fresh, on_read}
use Rattle.client_core.specs.declared.got.ClientError.{ClientError}
use Rattle.client_core.specs.declared.got.Got.{Got}
use Rattle.client_core.specs.declared.got.Got.TheVariants as got
use Rattle.client_core.specs.declared.state.Channel.{Channel}
use Rattle.client_core.specs.declared.state.Phase.TheVariants as phase
use Rattle.client_laws.specs.Parts.{AreOfParts, Given, Sent, at_last, given_by, left_by}
use Rattle.etp_frame.specs.Grouping.{Amount, goes_in, groups, groups_from, item_amount}
use Rattle.etp_frame.specs.Message.{message_body, protocol_of}
use Rattle.etp_frame.specs.Splitting.{parts}
use Rattle.etp_frame.specs.declared.header.Header.{Header}
use Rattle.etp_frame.specs.declared.message.Message.{Message}
use Rattle.etp_frame.specs.declared.message.Message.TheVariants as message
use Rattle.msg_channel.specs.ChannelRecords.{data_item_form, truncate_info_form}
use Rattle.msg_channel.specs.declared.channel_subscribe_messages.ChannelSubscribeMessage.TheVariants as subscribe
use Rattle.msg_channel.specs.declared.indexes.IndexValue.TheVariants as index
use Rattle.session_core.specs.Granting.{HasNews}
use Rattle.session_core.specs.Sending.{blobs_after, ended, is_spent, max_id, numbered, outgoing, replies_in, sent_under}
use Rattle.session_core.specs.declared.state.Addressee.TheVariants as to
use Rattle.session_core.specs.declared.state.Outgoing.{Outgoing}
use Rattle.session_core.specs.declared.state.Part.{Part}
use Rattle.session_core.specs.declared.state.Request.{Request}
use Rattle.both_ends.specs.News.{IsTold, NewsAreHandedOn, all_given, behind, msg_of, news_parts}
use Rattle.both_ends.specs.Notices.{NoticesAreChanges, with_change}

abbrev pub as_sent : Outgoing → Sent
as_sent o = (o.header, o.message)

abbrev pub all_sent : List Outgoing → List Sent
all_sent os = map (λ (o : Outgoing). (o.header, o.message)) os

-- ---- messages after others

left_more : (s : Heard) (xs ys : List Sent) → left_by s (xs ++ ys) ≡ left_by (left_by s xs) ys
left_more s [] ys = refl
left_more s (x ∷ xs) ys = left_more (on_read x.0 x.1 s).state xs ys

given_more : (s : Heard) (xs ys : List Sent) → given_by s (xs ++ ys) ≡ given_by s xs ++ given_by (left_by s xs) ys
given_more s [] ys = refl
given_more s (x ∷ xs) ys = ap (λ l. (on_read x.0 x.1 s).result ∷ l) (given_more (on_read x.0 x.1 s).state xs ys)

nothing_before : (r : Result (List Got) ClientError) → behind [] r ≡ r
nothing_before (Ok gots) = refl
nothing_before (Err e) = refl

last_given : (gots : List Got) (x : Sent) (xs : List Sent) (rest : List Given) → all_given (at_last (Ok gots) (x ∷ xs) ++ rest) ≡ behind gots (all_given rest)
last_given gots x [] rest = refl
last_given gots x (y ∷ xs) rest = ap (behind []) (last_given gots y xs rest) ∙ nothing_before (behind gots (all_given rest))

-- ---- ids

abbrev Odd : ℕ → Type 0
Odd id = int_eq (int_rem (pos id) (pos 2)) (pos 1) ≡ true

odd_next : (id : ℕ) → Odd id → Odd (id + 2)
odd_next id odd = let e : (id + 2) % 2 ≡ id % 2 = omega arith in ap (λ z. int_eq (pos z) (pos 1)) e ∙ odd

fresh_next : (id : ℕ) → Odd id → is_fresh (pos id) (pos (id + 2)) ≡ true
fresh_next id odd = let below : int_lt (pos id) (pos (id + 2)) ≡ true = grind (arith, ints) in (λ i. below i && int_eq (int_rem (pos (id + 2)) (pos 2)) (pos 1)) ∙ odd_next id odd

fresh_odd : (last : ℤ) (id : ℕ) → is_fresh last (pos id) ≡ true → Odd id
fresh_odd last id h = (and_parts (int_lt last (pos id)) (int_eq (int_rem (pos id) (pos 2)) (pos 1)) h).1

-- the id after those of a part and further ones, and the last of these
abbrev pub id_after : ℕ → List Message → ℕ
id_after id [] = id + 2
id_after id (m ∷ ms) = id_after (id + 2) ms

abbrev pub last_id : ℕ → List Message → ℕ
last_id id [] = id
last_id id (m ∷ ms) = last_id (id + 2) ms

-- enough ids for a part and those after it
reach_first : (id : ℕ) (p : Part) (ps : List Part) → is_spent id (p ∷ ps) ≡ false → nat_le id max_id ≡ true
reach_first id p ps reach = by (nat_le id max_id) refl reach
  where
    by : (b : Bool) → nat_le id max_id ≡ b → (if b then is_spent (id + 2) ps else true) ≡ false → b ≡ true
    by true is h = refl
    by false is h = sym h

pub reach_rest : (id : ℕ) (p : Part) (ps : List Part) → is_spent id (p ∷ ps) ≡ false → is_spent (id + 2) ps ≡ false
reach_rest id p ps reach = ap (λ b. if b then is_spent (id + 2) ps else true) (sym (reach_first id p ps reach)) ∙ reach

pub numbered_one : (r : Request) (id : ℕ) (p : Part) (ps : List Part) → is_spent id (p ∷ ps) ≡ false → numbered r id (p ∷ ps) ≡ outgoing r id (replies_in ps) p ∷ numbered r (id + 2) ps
numbered_one r id p ps reach = ap (λ b. if b then outgoing r id (replies_in ps) p ∷ numbered r (id + 2) ps else []) (reach_first id p ps reach)

-- ---- the parts of one notice, and what is sent after them

abbrev pub header_at : ℤ → ℤ → ℕ → ℤ → Header
header_at protocol kind id flags = record { protocol = protocol; kind = kind; correlation = pos 0; id = pos id; flags = flags }

-- parts under this protocol and of this kind
abbrev pub IsUnder : Request → ℤ → ℤ → Message → Type 0
IsUnder r protocol kind m = (sent_under r.protocol m ≡ protocol) × (pos (message_body m).number ≡ kind)

module _ (r : Request) (protocol kind : ℤ) where
  abbrev pub heads : ℕ → Message → List Message → List Sent
  heads id m [] = (header_at protocol kind id (pos 2), m) ∷ []
  heads id m (n ∷ ms) = (header_at protocol kind id (pos 0), m) ∷ heads (id + 2) n ms

  one_head : (id left : ℕ) (last : Bool) (m : Message) → IsUnder r protocol kind m
      → as_sent (outgoing r id left (record { to = to.Nobody; message = m; last = last })) ≡ (header_at protocol kind id (if last then pos 2 else pos 0), m)
  one_head id left last m under = λ i. (record { protocol = under.0 i; kind = under.1 i; correlation = pos 0; id = pos id; flags = if last then pos 2 else pos 0 }, m)

  pub sent_notice : (id : ℕ) (m : Message) (ms : List Message) (ps : List Part) → AllByRecursion (IsUnder r protocol kind) (m ∷ ms) → is_spent id (ended to.Nobody (m ∷ ms) ++ ps) ≡ false
      → all_sent (numbered r id (ended to.Nobody (m ∷ ms) ++ ps)) ≡ heads id m ms ++ all_sent (numbered r (id_after id ms) ps)
  sent_notice id m [] ps under reach =
      ap all_sent (numbered_one r id (record { to = to.Nobody; message = m; last = true }) ps reach)
      ∙ ap (λ x. x ∷ all_sent (numbered r (id + 2) ps)) (one_head id (replies_in ps) true m under.0)
  sent_notice id m (n ∷ ms) ps under reach =
      let p : Part = record { to = to.Nobody; message = m; last = false } in
      let rest : List Part = ended to.Nobody (n ∷ ms) ++ ps in
      ap all_sent (numbered_one r id p rest reach)
      ∙ ap (λ x. x ∷ all_sent (numbered r (id + 2) rest)) (one_head id (replies_in rest) false m under.0)
      ∙ ap (λ l. (header_at protocol kind id (pos 0), m) ∷ l) (sent_notice (id + 2) n ms ps under.1 (reach_rest id p rest reach))

  pub reach_behind : (id : ℕ) (m : Message) (ms : List Message) (ps : List Part) → is_spent id (ended to.Nobody (m ∷ ms) ++ ps) ≡ false → is_spent (id_after id ms) ps ≡ false
  reach_behind id m [] ps reach = reach_rest id (record { to = to.Nobody; message = m; last = true }) ps reach
  reach_behind id m (n ∷ ms) ps reach = reach_behind (id + 2) n ms ps (reach_rest id (record { to = to.Nobody; message = m; last = false }) (ended to.Nobody (n ∷ ms) ++ ps) reach)

  pub heads_messages : (id : ℕ) (m : Message) (ms : List Message) → map (λ x. x.1) (heads id m ms) ≡ m ∷ ms
  heads_messages id m [] = refl
  heads_messages id m (n ∷ ms) = ap (λ l. m ∷ l) (heads_messages (id + 2) n ms)

  pub heads_of_parts : (id : ℕ) (last : ℤ) (m : Message) (ms : List Message) → is_fresh last (pos id) ≡ true → AreOfParts (header_at protocol kind (last_id id ms) (pos 2)) last (map (λ x. x.0) (heads id m ms))
  heads_of_parts id last m [] fresh = (refl, fresh, refl)
  heads_of_parts id last m (n ∷ []) fresh = (refl, fresh, refl, heads_of_parts (id + 2) (pos id) n [] (fresh_next id (fresh_odd last id fresh)))
  heads_of_parts id last m (n ∷ o ∷ ms) fresh = (refl, fresh, refl, heads_of_parts (id + 2) (pos id) n (o ∷ ms) (fresh_next id (fresh_odd last id fresh)))

  fresh_after : (id : ℕ) (ms : List Message) → Odd id → is_fresh (pos (last_id id ms)) (pos (id_after id ms)) ≡ true
  fresh_after id [] odd = fresh_next id odd
  fresh_after id (m ∷ ms) odd = fresh_after (id + 2) ms (odd_next id odd)

-- ---- the parts of a notice are under one protocol and of one kind, and there is one

abbrev pub is_none : {A : Type 0} → List A → Bool
is_none [] = true
is_none (x ∷ xs) = false

module _ {A : Type 0} (wrap : List A → Message) (size : A → Amount) (limit : ℕ) where
  some_group : (held xs : List A) → is_none (map wrap (groups_from size limit held xs)) ≡ false
  some_group held [] = refl
  some_group held (x ∷ xs) = by (goes_in size limit held x) (some_group (held ++ x ∷ []) xs)
    where
      by : (b : Bool) → is_none (map wrap (groups_from size limit (held ++ x ∷ []) xs)) ≡ false → is_none (map wrap (if b then groups_from size limit (held ++ x ∷ []) xs else held ∷ groups_from size limit (x ∷ []) xs)) ≡ false
      by true some = some
      by false some = refl

  all_under : (r : Request) (protocol kind : ℤ) → ((g : List A) → IsUnder r protocol kind (wrap g)) → (gs : List (List A)) → AllByRecursion (IsUnder r protocol kind) (map wrap gs)
  all_under r protocol kind each [] = tt
  all_under r protocol kind each (g ∷ gs) = (each g, all_under r protocol kind each gs)

abbrev pub message_of : ChannelChange → Message
message_of c = message.ChannelSubscribe (notice_of c.at c.channel c.what)

abbrev pub protocol_in : ChannelChange → ℤ
protocol_in c = pos (protocol_of (message_of c))

abbrev pub kind_in : ChannelChange → ℤ
kind_in c = pos (message_body (message_of c)).number

pub notice_under : (r : Request) (limit number blobs : ℕ) (at channel : ℤ) (what : What)
    → AllByRecursion (IsUnder r (pos (protocol_of (message.ChannelSubscribe (notice_of at channel what)))) (pos (message_body (message.ChannelSubscribe (notice_of at channel what))).number)) (parts limit number blobs (message.ChannelSubscribe (notice_of at channel what)))
notice_under r limit number blobs at channel (Append ps) = all_under (λ g. message.ChannelSubscribe (subscribe.ChannelData (record { payload = g }))) (item_amount data_item_form) limit r _ _ (λ g. (refl, refl)) (groups (item_amount data_item_form) limit (items_of channel ps))
notice_under r limit number blobs at channel (Replace from to ps) =
    all_under (λ g. message.ChannelSubscribe (subscribe.RangeReplaced (record { change_time = at; channel_ids = channel ∷ []; changed_interval = interval_of from to; payload = g }))) (item_amount data_item_form) limit r _ _ (λ g. (refl, refl)) (groups (item_amount data_item_form) limit (items_of channel ps))
notice_under r limit number blobs at channel (Truncate end) =
    all_under (λ g. message.ChannelSubscribe (subscribe.ChannelsTruncated (record { change_time = at; channels = g }))) (item_amount truncate_info_form) limit r _ _ (λ g. (refl, refl)) (groups (item_amount truncate_info_form) limit (record { channel_id = channel; new_end_index = index.Long end } ∷ []))

pub notice_some : (limit number blobs : ℕ) (at channel : ℤ) (what : What) → is_none (parts limit number blobs (message.ChannelSubscribe (notice_of at channel what))) ≡ false
notice_some limit number blobs at channel (Append ps) = some_group (λ g. message.ChannelSubscribe (subscribe.ChannelData (record { payload = g }))) (item_amount data_item_form) limit [] (items_of channel ps)
notice_some limit number blobs at channel (Replace from to ps) =
    some_group (λ g. message.ChannelSubscribe (subscribe.RangeReplaced (record { change_time = at; channel_ids = channel ∷ []; changed_interval = interval_of from to; payload = g }))) (item_amount data_item_form) limit [] (items_of channel ps)
notice_some limit number blobs at channel (Truncate end) =
    some_group (λ g. message.ChannelSubscribe (subscribe.ChannelsTruncated (record { change_time = at; channels = g }))) (item_amount truncate_info_form) limit [] (record { channel_id = channel; new_end_index = index.Long end } ∷ [])

-- ---- subscriptions stay active

abbrev live_at : ℤ → Channel → Bool
live_at q f = int_eq f.id q && f.live

pub live_follows : (q : ℤ) (change : ChangeMsg) (cs : List Channel) → is_live q (follows cs change) ≡ is_live q cs
live_follows q change [] = refl
live_follows q change (f ∷ cs) = λ i. one (int_eq f.id change.channel) i || live_follows q change cs i
  where
    one : (b : Bool) → live_at q (if b then record f { copy = after f.copy change.what } else f) ≡ live_at q f
    one true = refl
    one false = refl

abbrev Stand : List Channel → ChannelChange → Type 0
Stand cs c = HasNews c.what × (is_live c.channel cs ≡ true)

stand_on : (change : ChangeMsg) (channels : List Channel) (cs : List ChannelChange) → AllByRecursion (Stand channels) cs → AllByRecursion (Stand (follows channels change)) cs
stand_on change channels [] all = tt
stand_on change channels (c ∷ cs) all = ((all.0.0, live_follows c.channel change channels ∙ all.0.1), stand_on change channels cs all.1)

-- ---- all notices

abbrev Told : Request → ℕ → List Part → List ChangeMsg → Heard → Type 0
Told r id ps msgs s =
    let sent : List Sent = all_sent (numbered r id ps) in
    (all_given (given_by s sent) ≡ Ok (map got.Change msgs)) × (left_by s sent ≡ record s { last = (left_by s sent).last; channels = follow_all s.channels msgs })

last_of_some : (gots : List Got) (xs : List Sent) (rest : List Given) → is_none xs ≡ false → all_given (at_last (Ok gots) xs ++ rest) ≡ behind gots (all_given rest)
last_of_some gots [] rest some = absurd (false≢true (sym some))
last_of_some gots (x ∷ xs) rest some = last_given gots x xs rest

module _ (law : NoticesAreChanges) (r : Request) (limit number : ℕ) where
  heads_some : (protocol kind : ℤ) (id : ℕ) (m : Message) (ms : List Message) → is_none (heads r protocol kind id m ms) ≡ false
  heads_some protocol kind id m [] = refl
  heads_some protocol kind id m (n ∷ ms) = refl

  by_parts : (blobs id : ℕ) (c : ChannelChange) (cs : List ChannelChange) (s : Heard) (ms : List Message) → ms ≡ parts limit number blobs (message_of c) → AllByRecursion (IsUnder r (protocol_in c) (kind_in c)) ms → is_none ms ≡ false
      → (later : ℕ) → is_spent id (ended to.Nobody ms ++ news_parts limit number later cs) ≡ false → is_fresh s.last (pos id) ≡ true → s.phase ≡ phase.Open → s.kept ≡ None → AllByRecursion (Stand s.channels) (c ∷ cs)
      → ((t : Heard) (next : ℕ) → IsTold limit number later next cs t → Told r next (news_parts limit number later cs) (map msg_of cs) t)
      → Told r id (ended to.Nobody ms ++ news_parts limit number later cs) (msg_of c ∷ map msg_of cs) s
  by_parts blobs id c cs s [] are under some later reach fresh begun free stand rest = absurd (false≢true (sym some))
  by_parts blobs id c cs s (m ∷ ms) are under some later reach fresh begun free stand rest =
      let h : Header = header_at (protocol_in c) (kind_in c) (last_id id ms) (pos 2) in
      let a : List Sent = heads r (protocol_in c) (kind_in c) id m ms in
      let ps : List Part = news_parts limit number later cs in
      let b : List Sent = all_sent (numbered r (id_after id ms) ps) in
      let t : Heard = with_change c.channel h c.what s in
      let sent : all_sent (numbered r id (ended to.Nobody (m ∷ ms) ++ ps)) ≡ a ++ b = sent_notice r (protocol_in c) (kind_in c) id m ms ps under reach in
      let one = law limit number blobs c.at c.channel c.what h a s (record {
        news = stand.0.0;
        messages = heads_messages r (protocol_in c) (kind_in c) id m ms ∙ are;
        headers = heads_of_parts r (protocol_in c) (kind_in c) id s.last m ms fresh;
        unasked = refl;
        begun = begun;
        free = free;
        stands = stand.0.1;
      }) in
      let more = rest t (id_after id ms) (record {
        reach = reach_behind r (protocol_in c) (kind_in c) id m ms ps reach;
        fresh = fresh_after r (protocol_in c) (kind_in c) id ms (fresh_odd s.last id fresh);
        begun = begun;
        free = free;
        stand = stand_on (msg_of c) s.channels cs stand.1;
      }) in
      let left : left_by s (a ++ b) ≡ left_by t b = left_more s a b ∙ ap (λ u. left_by u b) one.0 in
      let given : all_given (given_by s (a ++ b)) ≡ Ok (got.Change (msg_of c) ∷ map got.Change (map msg_of cs)) =
      ap all_given (given_more s a b)
      ∙ (λ i. all_given (one.1 i ++ given_by (one.0 i) b))
      ∙ last_of_some (got.Change (msg_of c) ∷ []) a (given_by t b) (heads_some (protocol_in c) (kind_in c) id m ms)
      ∙ ap (behind (got.Change (msg_of c) ∷ [])) more.0 in
      let all : left_by s (a ++ b) ≡ record s { last = (left_by s (a ++ b)).last; channels = follow_all t.channels (map msg_of cs) } =
      left ∙ more.1 ∙ ap (λ (u : Heard). record s { last = u.last; channels = follow_all t.channels (map msg_of cs) }) (sym left) in
      subst (λ l. (all_given (given_by s l) ≡ Ok (got.Change (msg_of c) ∷ map got.Change (map msg_of cs))) × (left_by s l ≡ record s { last = (left_by s l).last; channels = follow_all t.channels (map msg_of cs) }))
      (sym sent) (given, all)

  told_all : (changes : List ChannelChange) (blobs id : ℕ) (s : Heard) → IsTold limit number blobs id changes s → Told r id (news_parts limit number blobs changes) (map msg_of changes) s
  told_all [] blobs id s t = (refl, refl)
  told_all (c ∷ cs) blobs id s t =
      by_parts blobs id c cs s (parts limit number blobs (message_of c)) refl (notice_under r limit number blobs c.at c.channel c.what) (notice_some limit number blobs c.at c.channel c.what)
      (blobs_after limit blobs (message_of c)) t.reach t.fresh t.begun t.free t.stand (λ u next told. told_all cs (blobs_after limit blobs (message_of c)) next u told)

pub news_are_handed_on : NoticesAreChanges → NewsAreHandedOn
news_are_handed_on law r limit number blobs id changes s t = told_all law r limit number changes blobs id s t
