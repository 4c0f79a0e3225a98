-- What is heard of the notices of changes.
use Rattle.std.proofs.Common.{◌≡◌, ◌+◌, ℕ, ℤ, Bool, true, false, ◌||◌, List, [], ◌∷◌, ◌++◌, Some, fold, map, if◌then◌else◌, refl, sym, ap, subst, ◌∙◌, arith, append-nil, append_assoc}
use Rattle.std.specs.List.{AllByRecursion, flat_map}
use Rattle.std.specs.Ordering.{int_eq}
use Rattle.std.proofs.lemmas.Bool.{false≢true}
use Rattle.std.proofs.lemmas.Int.{ints}
use Rattle.channel_rows.specs.Notices.{interval_of, notice_of}
use Rattle.channel_rows.specs.Points.{items_of}
use Rattle.channel_store.specs.Points.{append_of}
use Rattle.channel_store.specs.declared.change.ChannelChange.{ChannelChange}
use Rattle.channel_store.specs.declared.change.What.{What}
use Rattle.channel_store.specs.declared.change.What.TheVariants.{Append, Replace, Truncate}
use Rattle.client_core.specs.Laws.{change_of, told_of}
use Rattle.client_core.specs.declared.got.Got.TheVariants as got
use Rattle.client_laws.specs.Parts.{Sent}
use Rattle.client_laws.proofs.PartsLemmas.{all_of, groups_all}
use Rattle.etp_frame.specs.Grouping.{groups, item_amount}
use Rattle.etp_frame.specs.Header.{final_part, has_flag}
use Rattle.etp_frame.specs.Splitting.{parts}
use Rattle.etp_frame.specs.declared.message.Message.{Message}
use Rattle.etp_frame.specs.declared.message.Message.TheVariants as message
use Rattle.etp_values.specs.declared.point.Point.{Point}
use Rattle.msg_channel.specs.ChannelRecords.{data_item_form}
use Rattle.msg_channel.specs.declared.channel_subscribe_messages.ChannelSubscribeMessage.TheVariants as subscribe
use Rattle.msg_channel.specs.declared.indexes.IndexValue.TheVariants as index
use Rattle.msg_channel.specs.declared.points.DataItem.{DataItem}
use Rattle.session_core.specs.Granting.{HasNews}
use Rattle.session_core.specs.Sending.{blobs_after, ended, is_spent, numbered}
use Rattle.session_core.specs.Streams.{Heard, cuts_in, gathers, hear, hear_message, points_in, replace_in}
use Rattle.session_core.specs.declared.state.Addressee.TheVariants as to
use Rattle.session_core.specs.declared.state.Outgoing.{Outgoing}
use Rattle.session_core.specs.declared.state.Part.{Part}
use Rattle.session_core.specs.declared.state.Request.{Request}
use Rattle.session_core.proofs.TellingLemmas.{points_join}
use Rattle.both_ends.specs.Hearing.{NewsAreHeard}
use Rattle.both_ends.specs.News.{msg_of, news_parts}
use Rattle.both_ends.specs.Notices.{change_msg}
use Rattle.both_ends.proofs.NewsLemmas.{IsUnder, all_sent, heads, id_after, is_none, kind_in, message_of, notice_some, notice_under, protocol_in, reach_behind, sent_notice}

-- ---- messages with their headers

abbrev pub hear_sent : ℤ → Heard → Sent → Heard
hear_sent channel k x = hear_message channel (has_flag x.0.flags final_part) x.1 k

pub all_heard : (channel : ℤ) (os : List Outgoing) (k : Heard) → fold (hear channel) k os ≡ fold (hear_sent channel) k (all_sent os)
all_heard channel [] k = refl
all_heard channel (o ∷ os) k = all_heard channel os (hear channel k o)

pub more_heard : (channel : ℤ) (xs ys : List Sent) (k : Heard) → fold (hear_sent channel) k (xs ++ ys) ≡ fold (hear_sent channel) (fold (hear_sent channel) k xs) ys
more_heard channel [] ys k = refl
more_heard channel (x ∷ xs) ys k = more_heard channel xs ys (hear_sent channel k x)

-- ---- the parts of one message

abbrev hear_parts : ℤ → Heard → Message → List Message → Heard
hear_parts channel k m [] = hear_message channel true m k
hear_parts channel k m (n ∷ ms) = hear_parts channel (hear_message channel false m k) n ms

pub heads_heard : (r : Request) (protocol kind : ℤ) (channel : ℤ) (id : ℕ) (m : Message) (ms : List Message) (k : Heard) → fold (hear_sent channel) k (heads r protocol kind id m ms) ≡ hear_parts channel k m ms
heads_heard r protocol kind channel id m [] k = refl
heads_heard r protocol kind channel id m (n ∷ ms) k = heads_heard r protocol kind channel (id + 2) n ms (hear_message channel false m k)

abbrev pub hear_all : ℤ → Heard → List Message → Heard
hear_all channel k [] = k
hear_all channel k (m ∷ ms) = hear_parts channel k m ms

-- ---- points in groups

module _ (channel : ℤ) (wrap : List DataItem → Message) (whole : List Point → List What)
    (heard : (last : Bool) (g : List DataItem) (k : Heard) → hear_message channel last (wrap g) k ≡ gathers last whole (points_in channel g) k) where
  gathered : (g : List DataItem) (gs : List (List DataItem)) (k : Heard) → hear_parts channel k (wrap g) (map wrap gs) ≡ gathers true whole (points_in channel (g ++ all_of gs)) k
  gathered g [] k = heard true g k ∙ ap (λ l. gathers true whole (points_in channel l) k) (sym (append-nil g))
  gathered g (f ∷ gs) k =
      ap (λ j. hear_parts channel j (wrap f) (map wrap gs)) (heard false g k)
      ∙ gathered f gs (record k { part = k.part ++ points_in channel g })
      ∙ ap (λ l. record k { told = k.told ++ whole l; part = [] }) (append_assoc k.part (points_in channel g) (points_in channel (f ++ all_of gs)) ∙ ap (λ l. k.part ++ l) (sym (points_join channel g (f ++ all_of gs))))

  gathered_all : (gs : List (List DataItem)) (xs : List DataItem) (k : Heard) → all_of gs ≡ xs → is_none (map wrap gs) ≡ false → hear_all channel k (map wrap gs) ≡ gathers true whole (points_in channel xs) k
  gathered_all [] xs k is some = absurd (false≢true (sym some))
  gathered_all (g ∷ gs) xs k is some = gathered g gs k ∙ ap (λ l. gathers true whole (points_in channel l) k) is

-- parts in which nothing is heard of the channel
module _ (channel : ℤ) (wrap : List DataItem → Message) (silent : (last : Bool) (g : List DataItem) (k : Heard) → hear_message channel last (wrap g) k ≡ k) where
  unheard_from : (g : List DataItem) (gs : List (List DataItem)) (k : Heard) → hear_parts channel k (wrap g) (map wrap gs) ≡ k
  unheard_from g [] k = silent true g k
  unheard_from g (f ∷ gs) k = ap (λ j. hear_parts channel j (wrap f) (map wrap gs)) (silent false g k) ∙ unheard_from f gs k

  unheard : (gs : List (List DataItem)) (k : Heard) → hear_all channel k (map wrap gs) ≡ k
  unheard [] k = refl
  unheard (g ∷ gs) k = unheard_from g gs k

-- ---- the points of a change

its_points : (channel c : ℤ) (b : Bool) → int_eq c channel ≡ b → (ps : List Point) → points_in channel (items_of c ps) ≡ (if b then ps else [])
its_points channel c true is [] = refl
its_points channel c false is [] = refl
its_points channel c true is (p ∷ ps) = (λ i. (if is i then p ∷ [] else []) ++ its_points channel c true is ps i)
its_points channel c false is (p ∷ ps) = (λ i. (if is i then p ∷ [] else []) ++ its_points channel c false is ps i)

same_turned : (a b : ℤ) → int_eq a b ≡ int_eq b a
same_turned a b = grind (arith, ints)

-- what is heard of a change after what was heard
abbrev pub with_told : ℤ → ℤ → What → Heard → Heard
with_told channel c what k = record k { told = k.told ++ change_of channel (change_msg c what) }

untold : (channel c : ℤ) (what : What) (k : Heard) → int_eq c channel ≡ false → k ≡ with_told channel c what k
untold channel c what k is = ap (λ l. record k { told = l }) (sym (append-nil k.told)) ∙ ap (λ b. record k { told = k.told ++ (if b then what ∷ [] else []) }) (sym is)

abbrev range_with : ℤ → ℤ → ℤ → ℤ → List DataItem → Message
range_with at c from to g = message.ChannelSubscribe (subscribe.RangeReplaced (record { change_time = at; channel_ids = c ∷ []; changed_interval = interval_of from to; payload = g }))

module _ (limit number blobs : ℕ) (channel at c : ℤ) (k : Heard) (none : k.part ≡ []) where
  heard_append : (p : Point) (ps : List Point) (b : Bool) → int_eq c channel ≡ b → gathers true append_of (points_in channel (items_of c (p ∷ ps))) k ≡ with_told channel c (Append (p ∷ ps)) k
  heard_append p ps true is =
      (λ i. record k { told = k.told ++ append_of (none i ++ its_points channel c true is (p ∷ ps) i); part = [] })
      ∙ (λ i. record k { told = k.told ++ (if sym is i then Append (p ∷ ps) ∷ [] else []); part = sym none i })
  heard_append p ps false is =
      (λ i. record k { told = k.told ++ append_of (none i ++ its_points channel c false is (p ∷ ps) i); part = [] })
      ∙ (λ i. record k { told = k.told ++ (if sym is i then Append (p ∷ ps) ∷ [] else []); part = sym none i })

  pub notice_heard : (what : What) → HasNews what → hear_all channel k (parts limit number blobs (message.ChannelSubscribe (notice_of at c what))) ≡ with_told channel c what k
  notice_heard (Append []) news = absurd news
  notice_heard (Append (p ∷ ps)) news =
      gathered_all channel (λ g. message.ChannelSubscribe (subscribe.ChannelData (record { payload = g }))) append_of (λ last g j. refl) (groups (item_amount data_item_form) limit (items_of c (p ∷ ps))) (items_of c (p ∷ ps)) k
      (groups_all (item_amount data_item_form) limit (items_of c (p ∷ ps))) (notice_some limit number blobs at c (Append (p ∷ ps)))
      ∙ heard_append p ps (int_eq c channel) refl
  notice_heard (Replace from to ps) news = by (int_eq c channel) refl
    where
      by : (b : Bool) → int_eq c channel ≡ b → hear_all channel k (parts limit number blobs (message.ChannelSubscribe (notice_of at c (Replace from to ps)))) ≡ with_told channel c (Replace from to ps) k
      by true is =
          gathered_all channel (range_with at c from to) (replace_in (Some (from, to))) (λ last g j. ap (λ b. if b || false then gathers last (replace_in (Some (from, to))) (points_in channel g) j else j) (same_turned channel c ∙ is))
          (groups (item_amount data_item_form) limit (items_of c ps)) (items_of c ps) k (groups_all (item_amount data_item_form) limit (items_of c ps)) (notice_some limit number blobs at c (Replace from to ps))
          ∙ (λ i. record k { told = k.told ++ Replace from to (none i ++ its_points channel c true is ps i) ∷ []; part = [] })
          ∙ (λ i. record k { told = k.told ++ (if sym is i then Replace from to ps ∷ [] else []); part = sym none i })
      by false is =
          unheard channel (range_with at c from to) (λ last g j. ap (λ b. if b || false then gathers last (replace_in (Some (from, to))) (points_in channel g) j else j) (same_turned channel c ∙ is)) (groups (item_amount data_item_form) limit (items_of c ps)) k
          ∙ untold channel c (Replace from to ps) k is
  notice_heard (Truncate end) news = by (int_eq c channel) refl
    where
      by : (b : Bool) → int_eq c channel ≡ b → record k { told = k.told ++ cuts_in channel (record { channel_id = c; new_end_index = index.Long end } ∷ []) } ≡ with_told channel c (Truncate end) k
      by true is = (λ i. record k { told = k.told ++ ((if is i then Truncate end ∷ [] else []) ++ []) }) ∙ (λ i. record k { told = k.told ++ (if sym is i then Truncate end ∷ [] else []) })
      by false is = (λ i. record k { told = k.told ++ ((if is i then Truncate end ∷ [] else []) ++ []) }) ∙ (λ i. record k { told = k.told ++ (if sym is i then Truncate end ∷ [] else []) })

-- ---- all changes

module _ (r : Request) (limit number : ℕ) (channel : ℤ) where
  sent_heard : (id : ℕ) (c : ChannelChange) (ms : List Message) (ps : List Part) (k : Heard) → AllByRecursion (IsUnder r (protocol_in c) (kind_in c)) ms → is_none ms ≡ false → is_spent id (ended to.Nobody ms ++ ps) ≡ false
      → (P : Heard → Type 0) → ((next : ℕ) → is_spent next ps ≡ false → P (fold (hear channel) (hear_all channel k ms) (numbered r next ps))) → P (fold (hear channel) k (numbered r id (ended to.Nobody ms ++ ps)))
  sent_heard id c [] ps k under some reach P rest = absurd (false≢true (sym some))
  sent_heard id c (m ∷ ms) ps k under some reach P rest =
      let os : List Outgoing = numbered r id (ended to.Nobody (m ∷ ms) ++ ps) in
      let a : List Sent = heads r (protocol_in c) (kind_in c) id m ms in
      let more : List Outgoing = numbered r (id_after id ms) ps in
      let is : fold (hear channel) k os ≡ fold (hear channel) (hear_parts channel k m ms) more =
      all_heard channel os k
      ∙ ap (fold (hear_sent channel) k) (sent_notice r (protocol_in c) (kind_in c) id m ms ps under reach)
      ∙ more_heard channel a (all_sent more) k
      ∙ ap (λ j. fold (hear_sent channel) j (all_sent more)) (heads_heard r (protocol_in c) (kind_in c) channel id m ms k)
      ∙ sym (all_heard channel more (hear_parts channel k m ms)) in
      subst P (sym is) (rest (id_after id ms) (reach_behind r (protocol_in c) (kind_in c) id m ms ps reach))

  news_heard : (changes : List ChannelChange) (blobs id : ℕ) → is_spent id (news_parts limit number blobs changes) ≡ false → AllByRecursion (λ (c : ChannelChange). HasNews c.what) changes → (k : Heard) → k.part ≡ []
      → fold (hear channel) k (numbered r id (news_parts limit number blobs changes)) ≡ record k { told = k.told ++ flat_map (told_of channel) (map got.Change (map msg_of changes)) }
  news_heard [] blobs id reach news k none = ap (λ l. record k { told = l }) (sym (append-nil k.told))
  news_heard (c ∷ cs) blobs id reach news k none =
      let later : ℕ = blobs_after limit blobs (message_of c) in
      let ms : List Message = parts limit number blobs (message_of c) in
      let more : List What = flat_map (told_of channel) (map got.Change (map msg_of cs)) in
      let one : hear_all channel k ms ≡ with_told channel c.channel c.what k = notice_heard limit number blobs channel c.at c.channel k none c.what news.0 in
      sent_heard id c ms (news_parts limit number later cs) k (notice_under r limit number blobs c.at c.channel c.what) (notice_some limit number blobs c.at c.channel c.what) reach
      (λ j. j ≡ record k { told = k.told ++ (change_of channel (msg_of c) ++ more) })
      (λ next reaches.
      ap (λ j. fold (hear channel) j (numbered r next (news_parts limit number later cs))) one
      ∙ news_heard cs later next reaches news.1 (with_told channel c.channel c.what k) none
      ∙ ap (λ l. record k { told = l }) (append_assoc k.told (change_of channel (msg_of c)) more))

pub news_are_heard : NewsAreHeard
news_are_heard r limit number blobs id changes reach news channel k none = news_heard r limit number channel changes blobs id reach news k none
