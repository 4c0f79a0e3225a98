-- The notices that a session sends, and the replies that grant a subscription, as seen by a client.
use Rattle.std.proofs.Common.{◌≡◌, ◌+◌, ◌⊎◌, inl, inr, ℕ, ℤ, pos, Bool, true, false, cond, not, ◌&&◌, ◌||◌, List, [], ◌∷◌, ◌++◌, Option, Some, None, Ok, codes, filter, fold, map, option_map, if◌then◌else◌, refl, sym, ap, subst, ◌∙◌, append-nil}
use Rattle.std.specs.List.{AllByRecursion, find, list_any}
use Rattle.std.specs.Ordering.{int_eq}
use Rattle.std.proofs.lemmas.Bool.{false≢true}
use Rattle.std.proofs.lemmas.Option.{none-some, same_Some}
use Rattle.std.proofs.Math.Bool.{or-false, or-true, and-false}
use Rattle.etp_values.proofs.IntLemmas.{int_eq_is, int_eq_self}
use Rattle.channel_rows.specs.Notices.{interval_of, notice_of}
use Rattle.channel_rows.specs.Points.{items_of}
use Rattle.channel_store.specs.declared.change.ChannelChange.{ChannelChange}
use Rattle.channel_store.specs.declared.change.What.{What}
use Rattle.channel_store.specs.declared.change.What.TheVariants.{Append, Replace, Truncate}
use Rattle.channel_store.specs.declared.copy.ChangeMsg.{ChangeMsg}
use Rattle.client_core.specs.Answers.{done, due_at, is_granted, subscribed}
use Rattle.client_core.specs.Joining.{grown, is_broken, is_exception}
use Rattle.client_core.specs.Laws.{Asks, Takes, handed, is_subscription, stepped}
use Rattle.client_core.specs.Notices.{changes_of, is_live}
use Rattle.client_core.specs.State.{Heard, is_ended}
use Rattle.client_core.specs.Taking.{Taken, by_answer, by_changes, by_due, by_kind, fails, gives, has_objects, in_phase, is_closing, is_fresh, is_opening, is_silent, may_come, on_message, on_read, on_whole}
use Rattle.client_core.specs.declared.got.ClientError.TheVariants as error
use Rattle.client_core.specs.declared.got.Got.TheVariants as got
use Rattle.client_core.specs.declared.state.Asked.{Asked}
use Rattle.client_core.specs.declared.state.Channel.{Channel}
use Rattle.client_core.specs.declared.state.Due.{Due}
use Rattle.client_core.specs.declared.state.Due.TheVariants as due
use Rattle.client_core.specs.declared.state.Kept.{Kept}
use Rattle.client_core.specs.declared.state.Phase.{Phase}
use Rattle.client_core.specs.declared.state.Phase.TheVariants as phase
use Rattle.client_laws.specs.Parts.{Sent}
use Rattle.client_laws.proofs.TakenLemmas.{on_part_of}
use Rattle.etp_frame.specs.Grouping.{groups, item_amount}
use Rattle.etp_frame.specs.Header.{final_part, has_flag}
use Rattle.etp_frame.specs.Message.{message_body}
use Rattle.etp_frame.specs.Splitting.{parts}
use Rattle.etp_frame.specs.declared.header.Header.{Header}
use Rattle.etp_frame.specs.declared.joining.JoinError.TheVariants as join
use Rattle.etp_frame.specs.declared.message.Message.{Message}
use Rattle.etp_frame.specs.declared.message.Message.TheVariants as message
use Rattle.msg_channel.specs.ChannelRecords.{data_item_form, truncate_info_form}
use Rattle.msg_channel.specs.declared.channel_subscribe_messages.ChannelSubscribeMessage.{ChannelSubscribeMessage}
use Rattle.msg_channel.specs.declared.channel_subscribe_messages.ChannelSubscribeMessage.TheVariants as subscribe
use Rattle.msg_channel.specs.declared.channel_subscribe_messages.SubscribeChannelsResponse.{SubscribeChannelsResponse}
use Rattle.msg_channel.specs.declared.indexes.IndexValue.TheVariants as index
use Rattle.msg_core.specs.declared.core_messages.CoreMessage.{CoreMessage}
use Rattle.msg_core.specs.declared.core_messages.CoreMessage.TheVariants as core
use Rattle.session_core.specs.Sending.{blobs_after, ended, is_spent, numbered, outgoing, replies_in, sent_under}
use Rattle.session_core.specs.Streams.{Heard as Told}
use Rattle.session_core.specs.declared.state.Addressee.{Addressee}
use Rattle.session_core.specs.declared.state.Addressee.TheVariants as to
use Rattle.session_core.specs.declared.state.Outgoing.{Outgoing}
use Rattle.session_core.specs.declared.state.Part.{Part}
use Rattle.session_core.specs.declared.state.Request.{Request}
use Rattle.both_ends.specs.Ends.{Put}
use Rattle.session_core.specs.Granting.{HasNews, speaks, subscribe_speaks}
use Rattle.both_ends.specs.News.{news_parts}
use Rattle.both_ends.specs.Notices.{NoticesAreChanges, change_msg, with_change}
use Rattle.both_ends.proofs.AsideLemmas.{AsideKept, IsApart, IsAsideHeader, is_aside, all_filter, is_empty, is_stop, no_key, no_more, subscribe_aside, subscribe_stops}
use Rattle.both_ends.proofs.BeginLemmas.{begun_with, reply_of}
use Rattle.both_ends.proofs.FollowLemmas.{AreHeld, AreAside, Carries, Flows, Follows, Handed, IsAsideSent, Awaits, Steps, ask_follows, block_goes, bytes_read, carries_more, carries_none, carries_one, lives_before, told_more}
use Rattle.both_ends.proofs.HearLemmas.{hear_all, hear_sent, heads_heard, notice_heard, with_told}
use Rattle.both_ends.proofs.NewsLemmas.{IsUnder, all_sent, header_at, heads, heads_messages, heads_of_parts, id_after, is_none, kind_in, last_id, live_follows, message_of, notice_some, notice_under, numbered_one, protocol_in, reach_behind, reach_rest, sent_notice}
use Rattle.both_ends.proofs.PutLemmas.{Agrees, all_at, IsKnown, Rising, channel_named, more_asks, put_later}

-- ---- tests

-- ---- a message that comes

-- a client does not ignore it, it does not close or open a session, and it is not an exception
abbrev pub IsPlain : Message → Type 0
IsPlain m = (is_silent m ≡ false) × (is_closing m ≡ false) × (is_opening m ≡ false) × (is_exception m ≡ false)

record Comes (h : Header) (m : Message) (s : Heard) : Type 0 where
  fresh : is_fresh s.last h.id ≡ true
  begun : s.phase ≡ phase.Open
  whole : is_broken s.kept h m ≡ false

open_by : (p : Phase) (m : Message) → is_opening m ≡ false → is_exception m ≡ false → may_come p m ≡ true → p ≡ phase.Open
open_by phase.Waiting m opening exception may = absurd (false≢true (sym (λ i. opening i || exception i) ∙ may))
open_by phase.Open m opening exception may = refl
open_by phase.Ended m opening exception may = absurd (false≢true may)

comes : (h : Header) (m : Message) (s : Heard) → IsPlain m → is_ended (on_read h m s).state.phase ≡ false → Comes h m s
comes h m s plain = by (is_fresh s.last h.id) refl
  where
    t : Heard
    t = record s { last = h.id }

    ordered : (b : Bool) → is_broken s.kept h m ≡ b → is_ended (if b then fails (error.Join join.Interleaved) t else by_kind (has_objects m) h m t).state.phase ≡ false → b ≡ false
    ordered true is lives = absurd (false≢true (sym lives))
    ordered false is lives = refl

    phased : (b : Bool) → may_come s.phase m ≡ b → is_ended (in_phase b h m t).state.phase ≡ false → (s.phase ≡ phase.Open) × (is_broken s.kept h m ≡ false)
    phased true is lives = (open_by s.phase m plain.2 plain.3 is, ordered (is_broken s.kept h m) refl lives)
    phased false is lives = absurd (false≢true (sym lives))

    by : (b : Bool) → is_fresh s.last h.id ≡ b → is_ended (if b then on_message h m t else fails (error.Id h.id) s).state.phase ≡ false → Comes h m s
    by false is lives = absurd (false≢true (sym lives))
    by true is lives =
        let on : is_ended (in_phase (may_come s.phase m) h m t).state.phase ≡ false =
        subst (λ b. is_ended (if b then gives [] (record t { phase = phase.Ended }) else in_phase (may_come s.phase m) h m t).state.phase ≡ false) plain.1
        (subst (λ b. is_ended (if b then gives [] t else if is_closing m then gives [] (record t { phase = phase.Ended }) else in_phase (may_come s.phase m) h m t).state.phase ≡ false) plain.0 lives) in
        let p = phased (may_come s.phase m) refl on in
        record { fresh = is; begun = p.0; whole = p.1 }

-- no part is kept of a message under another header
apart_broken : (n : ℕ) (h : Header) (m : Message) (k : Kept) → h.protocol ≡ pos 21 → h.kind ≡ pos n → is_exception m ≡ false → IsApart k.header n → is_broken (Some k) h m ≡ true
apart_broken n h m k protocol kind exception apart =
    (λ i. not (int_eq h.correlation k.header.correlation && (exception i || (int_eq (protocol i) k.header.protocol && int_eq (kind i) k.header.kind))))
    ∙ ap (λ b. not (int_eq h.correlation k.header.correlation && b)) apart
    ∙ ap not (and-false (int_eq h.correlation k.header.correlation))

none_kept : (n : ℕ) (h : Header) (m : Message) (o : Option Kept) → h.protocol ≡ pos 21 → h.kind ≡ pos n → is_exception m ≡ false → ((k : Kept) → IsAsideHeader k.header k.message → IsApart k.header n)
    → AsideKept o → is_broken o h m ≡ false → o ≡ None
none_kept n h m None protocol kind exception pick aside whole = refl
none_kept n h m (Some k) protocol kind exception pick aside whole = absurd (false≢true (sym whole ∙ apart_broken n h m k protocol kind exception (pick k aside.0)))

-- ---- the parts of a notice

abbrev IsNote : Message → Type 0
IsNote m = (has_objects m ≡ false) × IsPlain m

notes_map : {A : Type 0} (wrap : A → Message) → ((g : A) → IsNote (wrap g)) → (gs : List A) → AllByRecursion IsNote (map wrap gs)
notes_map wrap each [] = tt
notes_map wrap each (g ∷ gs) = (each g, notes_map wrap each gs)

notes : (limit number blobs : ℕ) (at channel : ℤ) (what : What) → AllByRecursion IsNote (parts limit number blobs (message.ChannelSubscribe (notice_of at channel what)))
notes limit number blobs at channel (Append ps) = notes_map (λ g. message.ChannelSubscribe (subscribe.ChannelData (record { payload = g }))) (λ g. (refl, (refl, refl, refl, refl))) (groups (item_amount data_item_form) limit (items_of channel ps))
notes limit number blobs at channel (Replace from end ps) =
    notes_map (λ g. message.ChannelSubscribe (subscribe.RangeReplaced (record { change_time = at; channel_ids = channel ∷ []; changed_interval = interval_of from end; payload = g }))) (λ g. (refl, (refl, refl, refl, refl)))
    (groups (item_amount data_item_form) limit (items_of channel ps))
notes limit number blobs at channel (Truncate end) =
    notes_map (λ g. message.ChannelSubscribe (subscribe.ChannelsTruncated (record { change_time = at; channels = g }))) (λ g. (refl, (refl, refl, refl, refl)))
    (groups (item_amount truncate_info_form) limit (record { channel_id = channel; new_end_index = index.Long end } ∷ []))

note_kept : (at channel : ℤ) (what : What) (h : Header) (m : Message) (o : Option Kept) → h.protocol ≡ pos 21 → h.kind ≡ pos (message_body (message.ChannelSubscribe (notice_of at channel what))).number → is_exception m ≡ false
    → AsideKept o → is_broken o h m ≡ false → o ≡ None
note_kept at channel (Append ps) h m o protocol kind exception = none_kept 4 h m o protocol kind exception (λ k u. u.0)
note_kept at channel (Replace from end ps) h m o protocol kind exception = none_kept 6 h m o protocol kind exception (λ k u. u.1)
note_kept at channel (Truncate end) h m o protocol kind exception = none_kept 13 h m o protocol kind exception (λ k u. u.2)

flow_live : (b live : Bool) (before : Option (List What)) (k : Told) → b ≡ true → Flows b live before k → live ≡ true
flow_live true live before k is f = f.1
flow_live false live before k is f = absurd (false≢true is)

flow_part : (b live : Bool) (before : Option (List What)) (k : Told) → Flows b live before k → k.part ≡ []
flow_part true live before k f = f.0
flow_part false live before k f = f.0

flow_untold : (b live : Bool) (before : Option (List What)) (k : Told) → b ≡ false → Flows b live before k → k.told ≡ []
flow_untold true live before k is f = absurd (false≢true (sym is))
flow_untold false live before k is f = f.1

flow_told : (c channel : ℤ) (what : What) (b live : Bool) (before : Option (List What)) (k : Told) → (b ≡ false → int_eq channel c ≡ false) → Flows b live before k
    → Flows b live (told_more c (change_msg channel what) before) (with_told c channel what k)
flow_told c channel what true live before k other f = (
  f.0,
  f.1,
  ap (told_more c (change_msg channel what)) f.2 ∙ ap (λ l. Some (k.told ++ l)) (append-nil (if int_eq channel c then what ∷ [] else [])),
)
flow_told c channel what false live before k other f = (f.0, λ i. f.1 i ++ (if other refl i then what ∷ [] else []))

module _ (all : List Put) (rising : Rising 2 all) (law : NoticesAreChanges) (r : Request) (limit number : ℕ) (subs : ℤ → Bool) where
  -- ---- a block of parts

  -- a client that has the channel's subscription takes the parts this way
  abbrev Block : (ℤ → Told) → ChangeMsg → Sent → List Sent → Type 0
  Block told z x xs = (s : Heard) (before : Handed) → Follows all subs told s before → is_fresh s.last x.0.id ≡ true → s.phase ≡ phase.Open → s.kept ≡ None
      → (left : Heard) × Awaits left z s (x ∷ xs) × Follows all subs (λ c. fold (hear_sent c) (told c) (x ∷ xs)) left (λ c. told_more c z (before c))

  block_carries : (told : ℤ → Told) (z : ChangeMsg) (x : Sent) (xs : List Sent) → IsPlain x.1 → ((o : Option Kept) → AsideKept o → is_broken o x.0 x.1 ≡ false → o ≡ None) → AreHeld (x ∷ xs) → Block told z x xs → Carries all told (x ∷ xs) subs subs
  block_carries told z x xs plain free held block s before [] f d put lives = absurd d
  block_carries told z x xs plain free held block s before (Asks a moment ∷ es) f d put lives =
      block_carries told z x xs plain free held block (stepped s (Asks a moment)) before es (ask_follows all rising s a moment es subs told before f put (lives_before (stepped s (Asks a moment)) es lives)) d
      (put_later all s (Asks a moment) es put) lives
  block_carries told z x xs plain free held block s before (Takes bytes ∷ es) f d put lives =
      let is = bytes_read s.heard bytes x (lives_before s (Takes bytes ∷ es) lives) d.0 in
      let on : is_ended (on_read x.0 x.1 s.heard).state.phase ≡ false = subst (λ (t : Taken). is_ended t.state.phase ≡ false) is (lives_before (stepped s (Takes bytes)) es lives) in
      let k : Comes x.0 x.1 s.heard = comes x.0 x.1 s.heard plain on in
      let b = block s.heard before f k.fresh k.begun (free s.heard.kept f.ready.kept k.whole) in
      block_goes all rising b.0 z x xs subs (λ c. fold (hear_sent c) (told c) (x ∷ xs)) s before (Takes bytes ∷ es) b.1 held b.2 d put lives

  -- ---- a notice

  abbrev end_header : ChannelChange → ℕ → List Message → Header
  end_header c id ms = header_at (protocol_in c) (kind_in c) (last_id id ms) (pos 2)

  notice_left : (told : ℤ → Told) (blobs : ℕ) (c : ChannelChange) (id : ℕ) (m : Message) (ms : List Message) → m ∷ ms ≡ parts limit number blobs (message_of c) → HasNews c.what → subs c.channel ≡ true
      → (s : Heard) (before : Handed) → Follows all subs told s before → is_fresh s.last (pos id) ≡ true → s.phase ≡ phase.Open → s.kept ≡ None
      → (left : Heard) × Awaits left (change_msg c.channel c.what) s (heads r (protocol_in c) (kind_in c) id m ms)
      × Follows all subs (λ q. fold (hear_sent q) (told q) (heads r (protocol_in c) (kind_in c) id m ms)) left (λ q. told_more q (change_msg c.channel c.what) (before q))
  notice_left told blobs c id m ms are news sub s before f fresh begun free =
      let a : List Sent = heads r (protocol_in c) (kind_in c) id m ms in
      let h : Header = end_header c id ms in
      let left : Heard = with_change c.channel h c.what s in
      let live : is_live c.channel s.channels ≡ true = flow_live (subs c.channel) (is_live c.channel s.channels) (before c.channel) (told c.channel) sub (f.flows c.channel) in
      let hears_as : (q : ℤ) → fold (hear_sent q) (told q) a ≡ with_told q c.channel c.what (told q) = λ q.
      let part : (told q).part ≡ [] = flow_part (subs q) (is_live q s.channels) (before q) (told q) (f.flows q) in
      heads_heard r (protocol_in c) (kind_in c) q id m ms (told q) ∙ ap (hear_all q (told q)) are ∙ notice_heard limit number blobs q c.at c.channel (told q) part c.what news in
      let other : (q : ℤ) (b : Bool) → int_eq c.channel q ≡ b → subs q ≡ false → b ≡ false = λ q b.
      elim b as (λ b. int_eq c.channel q ≡ b → subs q ≡ false → b ≡ false) [
        | true ↦ λ same none. absurd (false≢true (sym none ∙ sym (ap subs (int_eq_is c.channel q same)) ∙ sub))
        | false ↦ λ same none. refl
      ] in
      let flows : (q : ℤ) → Flows (subs q) (is_live q left.channels) (told_more q (change_msg c.channel c.what) (before q)) (fold (hear_sent q) (told q) a) = λ q.
      subst (λ X. X) (λ i. Flows (subs q) (sym (live_follows q (change_msg c.channel c.what) s.channels) i) (told_more q (change_msg c.channel c.what) (before q)) (sym (hears_as q) i))
      (flow_told q c.channel c.what (subs q) (is_live q s.channels) (before q) (told q) (other q (int_eq c.channel q) refl) (f.flows q)) in (
        left,
        λ more. law limit number blobs c.at c.channel c.what h a (more_asks more s) (record {
          news = news;
          messages = heads_messages r (protocol_in c) (kind_in c) id m ms ∙ are;
          headers = heads_of_parts r (protocol_in c) (kind_in c) id s.last m ms fresh;
          unasked = refl;
          begun = begun;
          free = free;
          stands = live;
        }),
        record { ready = record { kept = f.ready.kept; asks = f.ready.asks }; flows = flows },
      )

  heads_held : (c : ChannelChange) (id : ℕ) (m : Message) (ms : List Message) → AllByRecursion IsNote (m ∷ ms) → AreHeld (heads r (protocol_in c) (kind_in c) id m ms)
  heads_held c id m [] note = tt
  heads_held c id m (n ∷ []) note = (refl, note.0.0, tt)
  heads_held c id m (n ∷ o ∷ ms) note = (refl, note.0.0, heads_held c (id + 2) n (o ∷ ms) note.1)

  notice_carries : (told : ℤ → Told) (blobs : ℕ) (c : ChannelChange) (id : ℕ) (m : Message) (ms : List Message) → m ∷ ms ≡ parts limit number blobs (message_of c) → AllByRecursion IsNote (m ∷ ms) → HasNews c.what → subs c.channel ≡ true
      → Carries all told (heads r (protocol_in c) (kind_in c) id m ms) subs subs
  notice_carries told blobs c id m [] are note news sub =
      block_carries told (change_msg c.channel c.what) (header_at (protocol_in c) (kind_in c) id (pos 2), m) [] note.0.1
      (λ o. note_kept c.at c.channel c.what (header_at (protocol_in c) (kind_in c) id (pos 2)) m o refl refl note.0.1.3) tt (notice_left told blobs c id m [] are news sub)
  notice_carries told blobs c id m (n ∷ ms) are note news sub =
      block_carries told (change_msg c.channel c.what) (header_at (protocol_in c) (kind_in c) id (pos 0), m) (heads r (protocol_in c) (kind_in c) (id + 2) n ms) note.0.1
      (λ o. note_kept c.at c.channel c.what (header_at (protocol_in c) (kind_in c) id (pos 0)) m o refl refl note.0.1.3) (heads_held c id m (n ∷ ms) note) (notice_left told blobs c id m (n ∷ ms) are news sub)

  -- ---- all notices

  abbrev IsTo : ChannelChange → Type 0
  IsTo c = HasNews c.what × (subs c.channel ≡ true)

  news_by : (told : ℤ → Told) (blobs : ℕ) (c : ChannelChange) (id : ℕ) (ms : List Message) (ps : List Part) → ms ≡ parts limit number blobs (message_of c) → AllByRecursion (IsUnder r (protocol_in c) (kind_in c)) ms → is_none ms ≡ false
      → AllByRecursion IsNote ms → IsTo c → is_spent id (ended to.Nobody ms ++ ps) ≡ false
      → ((told : ℤ → Told) (next : ℕ) → is_spent next ps ≡ false → Carries all told (all_sent (numbered r next ps)) subs subs)
      → Carries all told (all_sent (numbered r id (ended to.Nobody ms ++ ps))) subs subs
  news_by told blobs c id [] ps are under some note is reach rest = absurd (false≢true (sym some))
  news_by told blobs c id (m ∷ ms) ps are under some note is reach rest =
      let a : List Sent = heads r (protocol_in c) (kind_in c) id m ms in
      subst (λ l. Carries all told l subs subs) (sym (sent_notice r (protocol_in c) (kind_in c) id m ms ps under reach))
      (carries_more all rising told a (all_sent (numbered r (id_after id ms) ps)) subs subs subs (notice_carries told blobs c id m ms are note is.0 is.1)
      (rest (λ q. fold (hear_sent q) (told q) a) (id_after id ms) (reach_behind r (protocol_in c) (kind_in c) id m ms ps reach)))

  pub news_carry : (changes : List ChannelChange) (told : ℤ → Told) (blobs id : ℕ) → is_spent id (news_parts limit number blobs changes) ≡ false → AllByRecursion IsTo changes
      → Carries all told (all_sent (numbered r id (news_parts limit number blobs changes))) subs subs
  news_carry [] told blobs id reach are = carries_none all rising subs told
  news_carry (c ∷ cs) told blobs id reach are =
      news_by told blobs c id (parts limit number blobs (message_of c)) (news_parts limit number (blobs_after limit blobs (message_of c)) cs) refl
      (notice_under r limit number blobs c.at c.channel c.what) (notice_some limit number blobs c.at c.channel c.what) (notes limit number blobs c.at c.channel c.what) are.0 reach
      (λ told next reaches. news_carry cs told (blobs_after limit blobs (message_of c)) next reaches are.1)

-- ---- a reply that grants

abbrev pub some_reply : SubscribeChannelsResponse
some_reply = record { success = (codes "c", []) ∷ [] }

record Grows (o : Option Kept) : Type 0 where
  reply : SubscribeChannelsResponse
  is : grown o (reply_of some_reply) ≡ reply_of reply
  grants : is_granted reply.success ≡ true

grows_empty : (header : Header) (m : Message) → is_empty m ≡ true → Grows (Some (record { header = header; message = m }))
grows_empty header (message.ChannelSubscribe (subscribe.SubscribeChannelsResponse x)) empty =
    let none : x.success ≡ [] = no_key x.success empty in
    record { reply = some_reply; is = ap (λ (l : List (List ℕ × List ℕ)). grown (Some (record { header = header; message = reply_of (record { success = l }) })) (reply_of some_reply)) none; grants = refl }
grows_empty header (message.ChannelSubscribe x) empty = absurd (false≢true empty)
grows_empty header m empty = absurd (false≢true empty)

grows_kept : (h : Header) (o : Option Kept) → h.protocol ≡ pos 21 → h.kind ≡ pos 12 → AsideKept o → is_broken o h (reply_of some_reply) ≡ false → Grows o
grows_kept h None protocol kind aside whole = record { reply = some_reply; is = refl; grants = refl }
grows_kept h (Some k) protocol kind aside whole = by aside.0.3
  where
    by : IsApart k.header 12 ⊎ (is_empty k.message ≡ true) → Grows (Some k)
    by (inl apart) = absurd (false≢true (sym whole ∙ apart_broken 12 h (reply_of some_reply) k protocol kind refl apart))
    by (inr empty) = grows_empty k.header k.message empty

-- what an ask waits for that is open
record Found (P : Asked → Type 0) (id : ℤ) (d : Due) : Type 0 where
  asked : Asked
  holds : P asked
  same : int_eq asked.id id ≡ true
  waits : asked.due ≡ d

due_found : (P : Asked → Type 0) (id : ℤ) (asks : List Asked) (d : Due) → AllByRecursion P asks → due_at id asks ≡ Some d → Found P id d
due_found P id [] d all at = absurd (none-some d at)
due_found P id (x ∷ xs) d all at = by (int_eq x.id id) refl at (due_found P id xs d all.1)
  where
    by : (b : Bool) → int_eq x.id id ≡ b → option_map (λ (a : Asked). a.due) (cond b (Some x) (find (λ (a : Asked). int_eq a.id id) xs)) ≡ Some d → (due_at id xs ≡ Some d → Found P id d) → Found P id d
    by true same here rest = record { asked = x; holds = all.0; same = same; waits = same_Some x.due d here }
    by false other later rest = rest later

-- a reply to no ask for a subscription is refused
unasked_ends : (h : Header) (x : SubscribeChannelsResponse) (t : Heard) (A : Type 0) → is_ended (by_changes h.correlation (if int_eq h.correlation (pos 0) then changes_of (reply_of x) else None) t).state.phase ≡ false → A
unasked_ends h x t A = by (int_eq h.correlation (pos 0))
  where
    by : (b : Bool) → is_ended (by_changes h.correlation (if b then changes_of (reply_of x) else None) t).state.phase ≡ false → A
    by true lives = absurd (false≢true (sym lives))
    by false lives = absurd (false≢true (sym lives))

-- the ask that it answers
record Answers (h : Header) (x : SubscribeChannelsResponse) (t : Heard) : Type 0 where
  channel : ℤ
  at : due_at h.correlation t.asks ≡ Some (due.Subscription channel)

answers : (h : Header) (x : SubscribeChannelsResponse) (t : Heard) (d : Option Due) → due_at h.correlation t.asks ≡ d → is_ended (by_due h (reply_of x) d t).state.phase ≡ false → Answers h x t
answers h x t (Some (due.Subscription channel)) at lives = record { channel = channel; at = at }
answers h x t None at lives = unasked_ends h x t (Answers h x t) lives
answers h x t (Some due.Session) at lives = unasked_ends h x t (Answers h x t) lives
answers h x t (Some due.SpacePut) at lives = unasked_ends h x t (Answers h x t) lives
answers h x t (Some due.ObjectPut) at lives = unasked_ends h x t (Answers h x t) lives
answers h x t (Some due.Object) at lives = unasked_ends h x t (Answers h x t) lives
answers h x t (Some due.Opening) at lives = unasked_ends h x t (Answers h x t) lives
answers h x t (Some due.Metadata) at lives = unasked_ends h x t (Answers h x t) lives
answers h x t (Some due.Load) at lives = unasked_ends h x t (Answers h x t) lives
answers h x t (Some due.Replacement) at lives = unasked_ends h x t (Answers h x t) lives
answers h x t (Some due.Truncation) at lives = unasked_ends h x t (Answers h x t) lives
answers h x t (Some (due.Range channel)) at lives = unasked_ends h x t (Answers h x t) lives
answers h x t (Some due.Spaces) at lives = unasked_ends h x t (Answers h x t) lives
answers h x t (Some due.Deletion) at lives = unasked_ends h x t (Answers h x t) lives
answers h x t (Some due.Pong) at lives = unasked_ends h x t (Answers h x t) lives

-- ---- one more subscription

abbrev stands_at : ℤ → Channel → Bool
stands_at c f = int_eq f.id c && f.live

any_more : (f : Channel → Bool) (xs ys : List Channel) → list_any f (xs ++ ys) ≡ (list_any f xs || list_any f ys)
any_more f [] ys = refl
any_more f (x ∷ xs) ys = ap (λ b. f x || b) (any_more f xs ys) ∙ grouped (f x) (list_any f xs) (list_any f ys)
  where
    grouped : (a b c : Bool) → (a || (b || c)) ≡ ((a || b) || c)
    grouped true b c = refl
    grouped false b c = refl

live_new : (channel : ℤ) (cs : List Channel) → is_live channel (subscribed channel cs) ≡ true
live_new channel cs =
    any_more (stands_at channel) (filter (λ f. not (int_eq f.id channel)) cs) (record { id = channel; live = true; copy = [] } ∷ [])
    ∙ ap (λ b. list_any (stands_at channel) (filter (λ f. not (int_eq f.id channel)) cs) || ((b && true) || false)) (int_eq_self channel)
    ∙ or-true (list_any (stands_at channel) (filter (λ f. not (int_eq f.id channel)) cs))

others_live : (c channel : ℤ) → int_eq channel c ≡ false → (cs : List Channel) → list_any (stands_at c) (filter (λ f. not (int_eq f.id channel)) cs) ≡ is_live c cs
others_live c channel other [] = refl
others_live c channel other (f ∷ cs) = by (int_eq f.id channel) refl (others_live c channel other cs)
  where
    by : (b : Bool) → int_eq f.id channel ≡ b → list_any (stands_at c) (filter (λ f. not (int_eq f.id channel)) cs) ≡ is_live c cs
        → list_any (stands_at c) (cond (not b) (f ∷ filter (λ f. not (int_eq f.id channel)) cs) (filter (λ f. not (int_eq f.id channel)) cs)) ≡ (stands_at c f || is_live c cs)
    by true same rest = rest ∙ ap (λ b. (b && f.live) || is_live c cs) (sym (ap (λ z. int_eq z c) (int_eq_is f.id channel same) ∙ other))
    by false same rest = ap (λ b. stands_at c f || b) rest

live_other : (c channel : ℤ) (cs : List Channel) → int_eq channel c ≡ false → is_live c (subscribed channel cs) ≡ is_live c cs
live_other c channel cs other =
    any_more (stands_at c) (filter (λ f. not (int_eq f.id channel)) cs) (record { id = channel; live = true; copy = [] } ∷ [])
    ∙ (λ i. others_live c channel other cs i || ((other i && true) || false))
    ∙ or-false (is_live c cs)

-- with a subscription of this channel
abbrev pub granted : ℤ → (ℤ → Bool) → ℤ → Bool
granted channel subs c = subs c || int_eq channel c

flow_other : (b live : Bool) (before : Option (List What)) (k : Told) → Flows b live before k → Flows (b || false) live before k
flow_other true live before k f = f
flow_other false live before k f = f

flow_new : (b live : Bool) (before : Option (List What)) (k : Told) → live ≡ true → before ≡ Some [] → k.part ≡ [] → k.told ≡ [] → Flows (b || true) live before k
flow_new true live before k stands begun part told = (part, stands, begun ∙ ap Some (sym told))
flow_new false live before k stands begun part told = (part, stands, begun ∙ ap Some (sym told))

flow_granted : (c channel id : ℤ) (asks : List Asked) (cs : List Channel) (subs : ℤ → Bool) (before : Option (List What)) (k : Told) → due_at id asks ≡ Some (due.Subscription channel) → subs channel ≡ false → Flows (subs c) (is_live c cs) before k
    → Flows (granted channel subs c) (is_live c (subscribed channel cs)) (handed c asks before (Ok (got.Done id ∷ []))) k
flow_granted c channel id asks cs subs before k at none f = by (int_eq channel c) refl
  where
    goal : Bool → Type 0
    goal b = Flows (subs c || b) (is_live c (subscribed channel cs)) (if b || false then Some [] else option_map (λ ws. ws ++ []) before) k

    turned : (b : Bool) → int_eq channel c ≡ b → goal b → Flows (granted channel subs c) (is_live c (subscribed channel cs)) (handed c asks before (Ok (got.Done id ∷ []))) k
    turned b is g =
        subst (λ X. X)
        (λ i. Flows (subs c || sym is i) (is_live c (subscribed channel cs)) (if sym (ap (is_subscription c) at ∙ is) i || false then Some [] else option_map (λ ws. ws ++ []) before) k) g

    by : (b : Bool) → int_eq channel c ≡ b → Flows (granted channel subs c) (is_live c (subscribed channel cs)) (handed c asks before (Ok (got.Done id ∷ []))) k
    by true is =
        let same : channel ≡ c = int_eq_is channel c is in
        let unsubscribed : subs c ≡ false = sym (ap subs same) ∙ none in
        turned true is (flow_new (subs c) (is_live c (subscribed channel cs)) (Some []) k (subst (λ z. is_live z (subscribed channel cs) ≡ true) same (live_new channel cs)) refl
        (flow_part (subs c) (is_live c cs) before k f) (flow_untold (subs c) (is_live c cs) before k unsubscribed f))
    by false is =
        turned false is (flow_other (subs c) (is_live c (subscribed channel cs)) (option_map (λ ws. ws ++ []) before) k
        (subst (λ X. X) (λ i. Flows (subs c) (sym (live_other c channel cs is) i) (sym (no_more before) i) k) f))

abbrev begins_at : Header → Heard → Heard
begins_at h s = record s { last = h.id; kept = None }

-- as a client reads the reply, after what it keeps
record Reads (h : Header) (s : Heard) : Type 0 where
  reply : SubscribeChannelsResponse
  grants : is_granted reply.success ≡ true
  is : on_read h (reply_of some_reply) s ≡ by_due h (reply_of reply) (due_at h.correlation s.asks) (begins_at h s)

reads_by : (h : Header) (s : Heard) → Comes h (reply_of some_reply) s → has_flag h.flags final_part ≡ true → Grows s.kept → Reads h s
reads_by h s k final grows = record {
  reply = grows.reply;
  grants = grows.grants;
  is =
      on_part_of true false h (reply_of some_reply) s k.fresh (refl, refl, ap (λ p. may_come p (reply_of some_reply)) k.begun, refl, refl) k.whole final
      ∙ ap (λ m. on_whole h m (begins_at h s)) grows.is;
}

reads : (h : Header) (s : Heard) → h.protocol ≡ pos 21 → h.kind ≡ pos 12 → has_flag h.flags final_part ≡ true → AsideKept s.kept → is_ended (on_read h (reply_of some_reply) s).state.phase ≡ false → Reads h s
reads h s protocol kind final kept lives =
    let k : Comes h (reply_of some_reply) s = comes h (reply_of some_reply) s (refl, refl, refl, refl) lives in
    reads_by h s k final (grows_kept h s.kept protocol kind kept k.whole)

answered : (h : Header) (s : Heard) (r : Reads h s) → is_ended (on_read h (reply_of some_reply) s).state.phase ≡ false → Answers h r.reply (begins_at h s)
answered h s r lives = answers h r.reply (begins_at h s) (due_at h.correlation s.asks) refl (subst (λ (u : Taken). is_ended u.state.phase ≡ false) r.is lives)

-- the ask is for the channel that its message names
its_channel : (h : Header) (p : Put) (channel c : ℤ) (a : Asked) → channel_named p.message ≡ Some channel → h.correlation ≡ pos p.id → int_eq a.id h.correlation ≡ true → a.due ≡ due.Subscription c → Agrees a p
    → due.Subscription c ≡ due.Subscription channel
its_channel h p channel c a named correlation same waits agrees =
    sym waits ∙ agrees (ap (λ z. int_eq z a.id) (sym correlation) ∙ ap (int_eq h.correlation) (int_eq_is a.id h.correlation same) ∙ int_eq_self h.correlation) channel named

found_channel : (all front : List Put) (p : Put) (back : List Put) (channel c : ℤ) (h : Header) → all ≡ front ++ p ∷ back → channel_named p.message ≡ Some channel → h.correlation ≡ pos p.id
    → Found (IsKnown all) h.correlation (due.Subscription c) → due.Subscription c ≡ due.Subscription channel
found_channel all front p back channel c h split named correlation f =
    its_channel h p channel c f.asked named correlation f.same f.waits (all_at (Agrees f.asked) front p back (subst (λ l. IsKnown l f.asked) split f.holds))

answers_at : (all front : List Put) (p : Put) (back : List Put) (channel : ℤ) (h : Header) (x : SubscribeChannelsResponse) (s : Heard) → all ≡ front ++ p ∷ back → channel_named p.message ≡ Some channel → h.correlation ≡ pos p.id
    → AllByRecursion (IsKnown all) s.asks → Answers h x (begins_at h s) → due_at h.correlation s.asks ≡ Some (due.Subscription channel)
answers_at all front p back channel h x s split named correlation known a =
    a.at ∙ ap Some (found_channel all front p back channel a.channel h split named correlation (due_found (IsKnown all) h.correlation s.asks (due.Subscription a.channel) known a.at))

begins : (h : Header) (s : Heard) (channel : ℤ) (r : Reads h s) → due_at h.correlation s.asks ≡ Some (due.Subscription channel) → on_read h (reply_of some_reply) s ≡ begun_with channel h (begins_at h s)
begins h s channel r at =
    r.is
    ∙ ap (λ d. by_due h (reply_of r.reply) d (begins_at h s)) at
    ∙ ap (λ b. by_answer h (reply_of r.reply) (due.Subscription channel) (done h.correlation b) (begins_at h s)) r.grants

follows_granted : (all : List Put) (told : ℤ → Told) (subs : ℤ → Bool) (channel : ℤ) (h : Header) (s : Heard) (before : Handed) → Follows all subs told s before → due_at h.correlation s.asks ≡ Some (due.Subscription channel) → subs channel ≡ false
    → Follows all (granted channel subs) told (begun_with channel h (begins_at h s)).state (λ c. handed c s.asks (before c) (begun_with channel h (begins_at h s)).result)
follows_granted all told subs channel h s before f at none = record {
  ready = record { kept = tt; asks = all_filter (IsKnown all) (λ a. not (int_eq a.id h.correlation)) s.asks f.ready.asks };
  flows = λ c. flow_granted c channel h.correlation s.asks s.channels subs (before c) (told c) at none (f.flows c);
}

module _ (all : List Put) (rising : Rising 2 all) where
  grant_steps : (told : ℤ → Told) (subs : ℤ → Bool) (front : List Put) (p : Put) (back : List Put) (channel : ℤ) (h : Header) → all ≡ front ++ p ∷ back → channel_named p.message ≡ Some channel
      → h.protocol ≡ pos 21 → h.kind ≡ pos 12 → h.correlation ≡ pos p.id → has_flag h.flags final_part ≡ true → subs channel ≡ false → Steps all rising told (h, reply_of some_reply) subs (granted channel subs)
  grant_steps told subs front p back channel h split named protocol kind correlation final none s before f lives =
      let r : Reads h s = reads h s protocol kind final f.ready.kept lives in
      let at : due_at h.correlation s.asks ≡ Some (due.Subscription channel) = answers_at all front p back channel h r.reply s split named correlation f.ready.asks (answered h s r lives) in
      subst (λ (u : Taken). Follows all (granted channel subs) told u.state (λ c. handed c s.asks (before c) u.result)) (sym (begins h s channel r at)) (follows_granted all told subs channel h s before f at none)

  pub grant_carries : (told : ℤ → Told) (subs : ℤ → Bool) (front : List Put) (p : Put) (back : List Put) (channel : ℤ) (h : Header) → all ≡ front ++ p ∷ back → channel_named p.message ≡ Some channel
      → h.protocol ≡ pos 21 → h.kind ≡ pos 12 → h.correlation ≡ pos p.id → has_flag h.flags final_part ≡ true → subs channel ≡ false → Carries all told ((h, reply_of some_reply) ∷ []) subs (granted channel subs)
  grant_carries told subs front p back channel h split named protocol kind correlation final none =
      carries_one all rising told (h, reply_of some_reply) subs (granted channel subs) (grant_steps told subs front p back channel h split named protocol kind correlation final none)

-- ---- other messages as a session sends them

subscribe_quiet : (x : ChannelSubscribeMessage) → subscribe_speaks x ≡ false → (subscribe_aside x ≡ true) × (subscribe_stops x ≡ false)
subscribe_quiet (subscribe.ChannelData x) quiet = absurd (false≢true (sym quiet))
subscribe_quiet (subscribe.RangeReplaced x) quiet = absurd (false≢true (sym quiet))
subscribe_quiet (subscribe.ChannelsTruncated x) quiet = absurd (false≢true (sym quiet))
subscribe_quiet (subscribe.SubscriptionsStopped x) quiet = absurd (false≢true (sym quiet))
subscribe_quiet (subscribe.SubscribeChannelsResponse x) quiet = (ap not quiet, refl)
subscribe_quiet x quiet = (refl, refl)

quiet_aside : (m : Message) → speaks m ≡ false → (is_aside m ≡ true) × (is_stop m ≡ false)
quiet_aside (message.ChannelSubscribe x) quiet = subscribe_quiet x quiet
quiet_aside m quiet = (refl, refl)

core_under : (protocol : ℤ) (h : Header) (x : CoreMessage) → h.protocol ≡ sent_under protocol (message.Core x) → h.kind ≡ pos (message_body (message.Core x)).number → IsAsideHeader h (message.Core x)
core_under protocol h (core.ProtocolException x) is kind =
    let by : (n : ℕ) → int_eq (pos n) (pos 1000) ≡ false → IsApart h n = λ n other. ap (λ z. int_eq (pos 21) h.protocol && int_eq (pos n) z) kind ∙ ap (λ b. int_eq (pos 21) h.protocol && b) other ∙ and-false (int_eq (pos 21) h.protocol) in
    (by 4 refl, by 6 refl, by 13 refl, inl (by 12 refl))
core_under protocol h (core.Acknowledge x) is kind =
    let by : (n : ℕ) → int_eq (pos n) (pos 1001) ≡ false → IsApart h n = λ n other. ap (λ z. int_eq (pos 21) h.protocol && int_eq (pos n) z) kind ∙ ap (λ b. int_eq (pos 21) h.protocol && b) other ∙ and-false (int_eq (pos 21) h.protocol) in
    (by 4 refl, by 6 refl, by 13 refl, inl (by 12 refl))
core_under protocol h x is kind = let by : (n : ℕ) → IsApart h n = λ n. ap (λ z. int_eq (pos 21) z && int_eq (pos n) h.kind) is in (by 4, by 6, by 13, inl (by 12))

subscribe_under : (h : Header) (x : ChannelSubscribeMessage) → subscribe_aside x ≡ true → h.protocol ≡ pos 21 → h.kind ≡ pos (message_body (message.ChannelSubscribe x)).number → IsAsideHeader h (message.ChannelSubscribe x)
subscribe_under h (subscribe.ChannelData x) aside is kind = absurd (false≢true aside)
subscribe_under h (subscribe.RangeReplaced x) aside is kind = absurd (false≢true aside)
subscribe_under h (subscribe.ChannelsTruncated x) aside is kind = absurd (false≢true aside)
subscribe_under h (subscribe.SubscribeChannelsResponse x) aside is kind =
    let by : (n : ℕ) → IsApart (record h { protocol = pos 21; kind = pos 12 }) n → IsApart h n = λ n apart. (λ i. int_eq (pos 21) (is i) && int_eq (pos n) (kind i)) ∙ apart in
    (by 4 refl, by 6 refl, by 13 refl, inr aside)
subscribe_under h x aside is kind =
    let number : ℕ = (message_body (message.ChannelSubscribe x)).number in
    let by : (n : ℕ) → IsApart (record h { protocol = pos 21; kind = pos number }) n → IsApart h n = λ n apart. (λ i. int_eq (pos 21) (is i) && int_eq (pos n) (kind i)) ∙ apart in
    (by 4 refl, by 6 refl, by 13 refl, inl (by 12 refl))

other_under : (protocol : ℕ) (h : Header) (m : Message) → h.protocol ≡ pos protocol → int_eq (pos 21) (pos protocol) ≡ false → IsAsideHeader h m
other_under protocol h m is other = let by : (n : ℕ) → IsApart h n = λ n. (λ i. int_eq (pos 21) (is i) && int_eq (pos n) h.kind) ∙ ap (λ b. b && int_eq (pos n) h.kind) other in (by 4, by 6, by 13, inl (by 12))

under : (protocol : ℤ) (h : Header) (m : Message) → is_aside m ≡ true → h.protocol ≡ sent_under protocol m → h.kind ≡ pos (message_body m).number → IsAsideHeader h m
under protocol h (message.Core x) aside is kind = core_under protocol h x is kind
under protocol h (message.ChannelSubscribe x) aside is kind = subscribe_under h x aside is kind
under protocol h (message.Transaction x) aside is kind = other_under 18 h (message.Transaction x) is refl
under protocol h (message.Dataspace x) aside is kind = other_under 24 h (message.Dataspace x) is refl
under protocol h (message.Store x) aside is kind = other_under 4 h (message.Store x) is refl
under protocol h (message.DataArray x) aside is kind = other_under 9 h (message.DataArray x) is refl
under protocol h (message.ChannelDataLoad x) aside is kind = other_under 22 h (message.ChannelDataLoad x) is refl

pub asides_sent : (r : Request) (id : ℕ) (ps : List Part) → is_spent id ps ≡ false → AllByRecursion (λ (p : Part). is_aside p.message ≡ true) ps → AllByRecursion IsAsideSent (all_sent (numbered r id ps))
asides_sent r id [] reach are = tt
asides_sent r id (p ∷ ps) reach are =
    subst (λ l. AllByRecursion IsAsideSent (all_sent l)) (sym (numbered_one r id p ps reach))
    ((are.0, under r.protocol (outgoing r id (replies_in ps) p).header p.message are.0 refl refl), asides_sent r (id + 2) ps (reach_rest id p ps reach) are.1)

pub quiet_sent : (r : Request) (id : ℕ) (ps : List Part) → is_spent id ps ≡ false → AllByRecursion (λ (p : Part). speaks p.message ≡ false) ps → AreAside (all_sent (numbered r id ps))
quiet_sent r id [] reach are = tt
quiet_sent r id (p ∷ ps) reach are =
    let q = quiet_aside p.message are.0 in
    subst (λ l. AreAside (all_sent l)) (sym (numbered_one r id p ps reach))
    (((q.0, under r.protocol (outgoing r id (replies_in ps) p).header p.message q.0 refl refl), q.1), quiet_sent r (id + 2) ps (reach_rest id p ps reach) are.1)

-- what none of these messages does, none of their parts does
pub parts_quiet : (r : Request) (id : ℕ) (ps : List Part) → is_spent id ps ≡ false → AllByRecursion (λ (o : Outgoing). speaks o.message ≡ false) (numbered r id ps) → AllByRecursion (λ (p : Part). speaks p.message ≡ false) ps
parts_quiet r id [] reach are = tt
parts_quiet r id (p ∷ ps) reach are =
    let all : AllByRecursion (λ (o : Outgoing). speaks o.message ≡ false) (outgoing r id (replies_in ps) p ∷ numbered r (id + 2) ps) =
    subst (AllByRecursion (λ (o : Outgoing). speaks o.message ≡ false)) (numbered_one r id p ps reach) are in
    (all.0, parts_quiet r (id + 2) ps (reach_rest id p ps reach) all.1)

pub all_ended : (P : Message → Type 0) (a : Addressee) (ms : List Message) → AllByRecursion P ms → AllByRecursion (λ (p : Part). P p.message) (ended a ms)
all_ended P a [] all = tt
all_ended P a (m ∷ []) all = (all.0, tt)
all_ended P a (m ∷ n ∷ ms) all = (all.0, all_ended P a (n ∷ ms) all.1)
