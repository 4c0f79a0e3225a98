-- What a client sends: the ids of its messages rise, and each open ask is of a message that it sent.
use Rattle.std.proofs.Common.{◌≡◌, ◌+◌, ◌*◌, ◌<◌, ◌≤◌, ℕ, ℤ, pos, Bool, true, false, not, ◌||◌, List, [], ◌∷◌, ◌++◌, Option, Some, None, fold, length, map, refl, sym, ap, subst, ◌∙◌, arith, append-nil, append_assoc}
use Rattle.std.specs.List.{AllByRecursion}
use Rattle.std.specs.Prelude.{◌==◌}
use Rattle.std.specs.Ordering.{int_eq}
use Rattle.std.proofs.lemmas.Bool.{false≢true}
use Rattle.std.proofs.lemmas.Option.{none-some, same_Some}
use Rattle.std.proofs.lemmas.List.{map-append}
use Rattle.etp_values.proofs.EachLemmas.{all-append}
use Rattle.etp_values.proofs.IntLemmas.{int_eq_is}
use lib.Signed.{mag}
use Rattle.client_core.specs.Asking.{asked, asked_by, begun, closed_if, due_of, is_close, is_spent, limit, numbered, pieces, sends_message}
use Rattle.client_core.specs.Laws.{Asks, Event, Takes, stepped}
use Rattle.client_core.specs.Messages.{keyed, message_of, object_of, request_message, subscription_of}
use Rattle.client_core.specs.State.{Heard, State, first_state, is_ended, is_open}
use Rattle.client_core.specs.declared.ask.Ask.{Ask}
use Rattle.client_core.specs.declared.ask.Ask.TheVariants as ask
use Rattle.client_core.specs.declared.state.Asked.{Asked}
use Rattle.client_core.specs.declared.state.Due.{Due}
use Rattle.client_core.specs.declared.state.Due.TheVariants as due
use Rattle.etp_frame.specs.Chunking.{as_sent, chunk_messages}
use Rattle.etp_frame.specs.Wire.{message_bytes}
use Rattle.etp_frame.specs.declared.message.Message.{Message}
use Rattle.etp_frame.specs.declared.message.Message.TheVariants as message
use Rattle.msg_channel.specs.declared.channel_subscribe_messages.ChannelSubscribeInfo.{ChannelSubscribeInfo}
use Rattle.msg_channel.specs.declared.channel_subscribe_messages.ChannelSubscribeMessage.{ChannelSubscribeMessage}
use Rattle.msg_channel.specs.declared.channel_subscribe_messages.ChannelSubscribeMessage.TheVariants as subscribe
use Rattle.msg_store.specs.declared.store_messages.StoreMessage.TheVariants as store
use Rattle.both_ends.specs.Ends.{Put, event_puts, put_header, puts, puts_by, puts_from, puts_of}

-- ---- ids rise

-- the first id is not below `low`, and each is above the one before
abbrev pub Rising : ℕ → List Put → Type 0
Rising low [] = Unit {0}
Rising low (p ∷ ps) = (low ≤ p.id) × Rising (p.id + 1) ps

rising_lower : (a b : ℕ) (ps : List Put) → a ≤ b → Rising b ps → Rising a ps
rising_lower a b [] le r = tt
rising_lower a b (p ∷ ps) le r = let f = r.0 in (omega (arith, le, f), r.1)

rising_of : (first id : ℕ) (ms : List Message) (rest : List Put) (next : ℕ) → next ≡ id + 2 * length ms → Rising next rest → Rising id (puts_of first id ms ++ rest)
rising_of first id [] rest next is r = rising_lower id next rest (omega (arith, is)) r
rising_of first id (m ∷ ms) rest next is r = (omega arith, rising_lower (id + 1) (id + 2) (puts_of first (id + 2) ms ++ rest) (omega arith) (rising_of first (id + 2) ms rest next (omega (arith, is)) r))

closed_next : (b : Bool) (s : State) → (closed_if b s).next ≡ s.next
closed_next true s = refl
closed_next false s = refl

rising_from : (s : State) (es : List Event) → Rising s.next (puts_from s es)
unfolding asked
rising_from s [] = tt
rising_from s (Takes bytes ∷ es) = rising_from (stepped s (Takes bytes)) es
rising_from s (Asks a moment ∷ es) = by (not (is_open s.heard.phase) || is_spent s.next (pieces s (message_of moment a))) (λ u. rising_from u es)
  where
    by : (b : Bool) → ((u : State) → Rising u.next (puts_from u es))
        → Rising s.next (puts_by b s.next (pieces s (message_of moment a)) ++ puts_from (asked_by b (due_of a) (is_close a) (message_of moment a) s).state es)
    by true rest = rest s
    by false rest =
        let u : State = closed_if (is_close a) (sends_message (due_of a) (message_of moment a) s) in
        rising_of s.next s.next (pieces s (message_of moment a)) (puts_from u es) u.next (closed_next (is_close a) (sends_message (due_of a) (message_of moment a) s)) (rest u)

pub rising_puts : (moment : ℤ) (es : List Event) → Rising 2 (puts moment es)
unfolding begun
rising_puts moment es = rising_of 2 2 (pieces first_state (request_message moment)) (puts_from (begun moment) es) (begun moment).next refl (rising_from (begun moment) es)

rising_at : (low : ℕ) (front : List Put) (p : Put) (back : List Put) → Rising low (front ++ p ∷ back) → low ≤ p.id
rising_at low [] p back r = r.0
rising_at low (q ∷ front) p back r = let f = r.0 in let g = rising_at (q.id + 1) front p back r.1 in omega (arith, f, g)

-- ---- what is sent is what a client has to send

abbrev pub put_bytes : Put → List ℕ
put_bytes p = message_bytes (put_header p) p.message

numbered_puts : (first id : ℕ) (ms : List Message) → numbered first id ms ≡ map put_bytes (puts_of first id ms)
numbered_puts first id [] = refl
numbered_puts first id (m ∷ ms) = ap (λ l. put_bytes (record { first = first; id = id; last = length ms == 0; message = m }) ∷ l) (numbered_puts first (id + 2) ms)

closed_out : (b : Bool) (s : State) → (closed_if b s).out ≡ s.out
closed_out true s = refl
closed_out false s = refl

out_from : (s : State) (es : List Event) → (fold stepped s es).out ≡ s.out ++ map put_bytes (puts_from s es)
unfolding asked
out_from s [] = sym (append-nil s.out)
out_from s (Takes bytes ∷ es) = out_from (stepped s (Takes bytes)) es
out_from s (Asks a moment ∷ es) = by (not (is_open s.heard.phase) || is_spent s.next (pieces s (message_of moment a))) (λ u. out_from u es)
  where
    by : (b : Bool) → ((u : State) → (fold stepped u es).out ≡ u.out ++ map put_bytes (puts_from u es))
        → (fold stepped (asked_by b (due_of a) (is_close a) (message_of moment a) s).state es).out
        ≡ s.out ++ map put_bytes (puts_by b s.next (pieces s (message_of moment a)) ++ puts_from (asked_by b (due_of a) (is_close a) (message_of moment a) s).state es)
    by true rest = rest s
    by false rest =
        let ms : List Message = pieces s (message_of moment a) in
        let t : State = sends_message (due_of a) (message_of moment a) s in
        let u : State = closed_if (is_close a) t in
        rest u
        ∙ ap (λ l. l ++ map put_bytes (puts_from u es)) (closed_out (is_close a) t ∙ ap (λ l. s.out ++ l) (numbered_puts s.next s.next ms))
        ∙ append_assoc s.out (map put_bytes (puts_of s.next s.next ms)) (map put_bytes (puts_from u es))
        ∙ ap (λ l. s.out ++ l) (sym (map-append put_bytes (puts_of s.next s.next ms) (puts_from u es)))

pub out_puts : (moment : ℤ) (es : List Event) → (fold stepped (begun moment) es).out ≡ map put_bytes (puts moment es)
unfolding begun
out_puts moment es =
    out_from (begun moment) es
    ∙ ap (λ l. l ++ map put_bytes (puts_from (begun moment) es)) (numbered_puts 2 2 (pieces first_state (request_message moment)))
    ∙ sym (map-append put_bytes (puts_of 2 2 (pieces first_state (request_message moment))) (puts_from (begun moment) es))

puts_more : (s : State) (es fs : List Event) → puts_from s (es ++ fs) ≡ puts_from s es ++ puts_from (fold stepped s es) fs
puts_more s [] fs = refl
puts_more s (e ∷ es) fs = ap (λ l. event_puts s e ++ l) (puts_more (stepped s e) es fs) ∙ sym (append_assoc (event_puts s e) (puts_from (stepped s e) es) (puts_from (fold stepped (stepped s e) es) fs))

-- ---- what a message asks for

abbrev first_channel : List (List ℕ × ChannelSubscribeInfo) → Option ℤ
first_channel [] = None
first_channel (x ∷ xs) = Some x.1.channel_id

abbrev subscribe_channel : ChannelSubscribeMessage → Option ℤ
subscribe_channel (subscribe.SubscribeChannels x) = first_channel x.channels
subscribe_channel _ = None

-- the channel that a message asks to subscribe to
abbrev pub channel_named : Message → Option ℤ
channel_named (message.ChannelSubscribe x) = subscribe_channel x
channel_named _ = None

abbrev due_channel : Due → Option ℤ
due_channel (due.Subscription channel) = Some channel
due_channel _ = None

due_is : (d : Due) (channel : ℤ) → due_channel d ≡ Some channel → d ≡ due.Subscription channel
due_is (due.Subscription c) channel is = ap due.Subscription (same_Some c channel is)
due_is due.Session channel is = absurd (none-some channel is)
due_is due.SpacePut channel is = absurd (none-some channel is)
due_is due.ObjectPut channel is = absurd (none-some channel is)
due_is due.Object channel is = absurd (none-some channel is)
due_is due.Opening channel is = absurd (none-some channel is)
due_is due.Metadata channel is = absurd (none-some channel is)
due_is due.Load channel is = absurd (none-some channel is)
due_is due.Replacement channel is = absurd (none-some channel is)
due_is due.Truncation channel is = absurd (none-some channel is)
due_is (due.Range c) channel is = absurd (none-some channel is)
due_is due.Spaces channel is = absurd (none-some channel is)
due_is due.Deletion channel is = absurd (none-some channel is)
due_is due.Pong channel is = absurd (none-some channel is)

-- an ask waits for the subscription that the message of its id asks for, if that asks for one
abbrev pub Agrees : Asked → Put → Type 0
Agrees a p = int_eq (pos p.id) a.id ≡ true → (channel : ℤ) → channel_named p.message ≡ Some channel → a.due ≡ due.Subscription channel

abbrev pub IsKnown : List Put → Asked → Type 0
IsKnown all a = AllByRecursion (Agrees a) all

other_id : (a : Asked) (p q : Put) → a.id ≡ pos p.id → (q.id ≡ p.id → ⊥) → Agrees a q
other_id a p q is other same = absurd (other (ap mag (int_eq_is (pos q.id) a.id same ∙ is)))

known_above : (a : Asked) (p : Put) (low : ℕ) (ps : List Put) → a.id ≡ pos p.id → p.id < low → Rising low ps → IsKnown ps a
known_above a p low [] is lt r = tt
known_above a p low (q ∷ ps) is lt r =
    let f = r.0 in (
      other_id a p q is (λ e. omega (arith, lt, f, e)),
      known_above a p (q.id + 1) ps is (omega (arith, lt, f)) r.1,
    )

known_at : (a : Asked) (low : ℕ) (front : List Put) (p : Put) (back : List Put) → a.id ≡ pos p.id → Agrees a p → Rising low (front ++ p ∷ back) → IsKnown (front ++ p ∷ back) a
known_at a low [] p back is agrees r = (agrees, known_above a p (p.id + 1) back is (omega arith) r.1)
known_at a low (q ∷ front) p back is agrees r =
    let f = rising_at (q.id + 1) front p back r.1 in (
      other_id a p q is (λ e. omega (arith, f, e)),
      known_at a (q.id + 1) front p back is agrees r.1,
    )

-- ---- an ask

abbrev pub more_asks : List Asked → Heard → Heard
more_asks more s = record s { asks = s.asks ++ more }

-- what is sent from here on, among all
abbrev pub IsPut : List Put → State → List Event → Type 0
IsPut all s es = (front : List Put) × (back : List Put) × (all ≡ front ++ (puts_from s es ++ back))

-- an ask leaves what was heard, with more asks
abbrev pub AsksMore : List Put → State → State → Type 0
AsksMore all s t = (more : List Asked) × AllByRecursion (IsKnown all) more × (t.heard ≡ more_asks more s.heard)

put_known : (all : List Put) → Rising 2 all → (next : ℕ) (m : Message) (ms : List Message) (d : Due) (rest front back : List Put) → channel_named m ≡ due_channel d
    → all ≡ front ++ ((puts_of next next (m ∷ ms) ++ rest) ++ back) → IsKnown all (record { id = pos next; due = d })
put_known all rising next m ms d rest front back agrees is =
    let p : Put = record { first = next; id = next; last = length ms == 0; message = m } in
    let a : Asked = record { id = pos next; due = d } in
    let later : List Put = (puts_of next (next + 2) ms ++ rest) ++ back in
    subst (λ l. IsKnown l a) (sym is)
    (known_at a 2 front p later refl (λ same channel named. due_is d channel (sym agrees ∙ named)) (subst (λ l. Rising 2 l) is rising))

ask_sends : (all : List Put) → Rising 2 all → (s : State) (a : Ask) (moment : ℤ) (rest front back : List Put)
    → all ≡ front ++ ((puts_of s.next s.next (pieces s (message_of moment a)) ++ rest) ++ back)
    → is_ended (closed_if (is_close a) (sends_message (due_of a) (message_of moment a) s)).heard.phase ≡ false
    → AsksMore all s (closed_if (is_close a) (sends_message (due_of a) (message_of moment a) s))
ask_sends all rising s (ask.PutSpace path) moment rest front back is lives = (record { id = pos s.next; due = due.SpacePut } ∷ [], (put_known all rising s.next (message_of moment (ask.PutSpace path)) [] due.SpacePut rest front back refl is, tt), refl)
ask_sends all rising s (ask.Put uri payload) moment rest front back is lives = (record { id = pos s.next; due = due.ObjectPut } ∷ [], (put_known all rising s.next _ _ due.ObjectPut rest front back refl is, tt), refl)
ask_sends all rising s (ask.Get uri) moment rest front back is lives = (record { id = pos s.next; due = due.Object } ∷ [], (put_known all rising s.next (message_of moment (ask.Get uri)) [] due.Object rest front back refl is, tt), refl)
ask_sends all rising s (ask.OpenChannel uri) moment rest front back is lives = (record { id = pos s.next; due = due.Opening } ∷ [], (put_known all rising s.next (message_of moment (ask.OpenChannel uri)) [] due.Opening rest front back refl is, tt), refl)
ask_sends all rising s (ask.Load points) moment rest front back is lives = (record { id = pos s.next; due = due.Load } ∷ [], (put_known all rising s.next (message_of moment (ask.Load points)) [] due.Load rest front back refl is, tt), refl)
ask_sends all rising s (ask.Meta uri) moment rest front back is lives = (record { id = pos s.next; due = due.Metadata } ∷ [], (put_known all rising s.next (message_of moment (ask.Meta uri)) [] due.Metadata rest front back refl is, tt), refl)
ask_sends all rising s (ask.Subscribe channel start) moment rest front back is lives =
    (record { id = pos s.next; due = due.Subscription channel } ∷ [], (put_known all rising s.next (message_of moment (ask.Subscribe channel start)) [] (due.Subscription channel) rest front back refl is, tt), refl)
ask_sends all rising s (ask.Replace channel from to points) moment rest front back is lives = (record { id = pos s.next; due = due.Replacement } ∷ [], (put_known all rising s.next (message_of moment (ask.Replace channel from to points)) [] due.Replacement rest front back refl is, tt), refl)
ask_sends all rising s (ask.Cut channel end) moment rest front back is lives = (record { id = pos s.next; due = due.Truncation } ∷ [], (put_known all rising s.next (message_of moment (ask.Cut channel end)) [] due.Truncation rest front back refl is, tt), refl)
ask_sends all rising s (ask.Range channel from to) moment rest front back is lives = (record { id = pos s.next; due = due.Range channel } ∷ [], (put_known all rising s.next (message_of moment (ask.Range channel from to)) [] (due.Range channel) rest front back refl is, tt), refl)
ask_sends all rising s ask.Spaces moment rest front back is lives = (record { id = pos s.next; due = due.Spaces } ∷ [], (put_known all rising s.next (message_of moment ask.Spaces) [] due.Spaces rest front back refl is, tt), refl)
ask_sends all rising s (ask.Delete uri) moment rest front back is lives = (record { id = pos s.next; due = due.Deletion } ∷ [], (put_known all rising s.next (message_of moment (ask.Delete uri)) [] due.Deletion rest front back refl is, tt), refl)
ask_sends all rising s ask.Ping moment rest front back is lives = (record { id = pos s.next; due = due.Pong } ∷ [], (put_known all rising s.next (message_of moment ask.Ping) [] due.Pong rest front back refl is, tt), refl)
ask_sends all rising s ask.Close moment rest front back is lives = absurd (false≢true (sym lives))

pub ask_more : (all : List Put) → Rising 2 all → (s : State) (a : Ask) (moment : ℤ) (es : List Event) → IsPut all s (Asks a moment ∷ es) → is_ended (stepped s (Asks a moment)).heard.phase ≡ false → AsksMore all s (stepped s (Asks a moment))
unfolding asked
ask_more all rising s a moment es put = by (not (is_open s.heard.phase) || is_spent s.next (pieces s (message_of moment a))) put
  where
    by : (b : Bool) → (front : List Put) × (back : List Put) × (all ≡ front ++ ((puts_by b s.next (pieces s (message_of moment a)) ++ puts_from (asked_by b (due_of a) (is_close a) (message_of moment a) s).state es) ++ back))
        → is_ended (asked_by b (due_of a) (is_close a) (message_of moment a) s).state.heard.phase ≡ false → AsksMore all s (asked_by b (due_of a) (is_close a) (message_of moment a) s).state
    by true put lives = ([], tt, ap (λ l. record s.heard { asks = l }) (sym (append-nil s.heard.asks)))
    by false put lives = ask_sends all rising s a moment (puts_from (closed_if (is_close a) (sends_message (due_of a) (message_of moment a) s)) es) put.0 put.1 put.2 lives

-- after a first event, and after several
pub put_later : (all : List Put) (s : State) (e : Event) (es : List Event) → IsPut all s (e ∷ es) → IsPut all (stepped s e) es
put_later all s e es put = (
  put.0 ++ event_puts s e,
  put.1,
  put.2 ∙ ap (λ l. put.0 ++ l) (append_assoc (event_puts s e) (puts_from (stepped s e) es) put.1) ∙ sym (append_assoc put.0 (event_puts s e) (puts_from (stepped s e) es ++ put.1)),
)

pub put_front : (all : List Put) (s : State) (es fs : List Event) → IsPut all s (es ++ fs) → IsPut all s es
put_front all s es fs put = (
  put.0,
  puts_from (fold stepped s es) fs ++ put.1,
  put.2 ∙ ap (λ l. put.0 ++ l) (ap (λ l. l ++ put.1) (puts_more s es fs) ∙ append_assoc (puts_from s es) (puts_from (fold stepped s es) fs) put.1),
)

pub put_back : (all : List Put) (s : State) (es fs : List Event) → IsPut all s (es ++ fs) → IsPut all (fold stepped s es) fs
put_back all s [] fs put = put
put_back all s (e ∷ es) fs put = put_back all (stepped s e) es fs (put_later all s e (es ++ fs) put)

-- the ask for the session, with which a client begins
pub begun_known : (moment : ℤ) (es : List Event) → IsPut (puts moment es) (begun moment) es × AllByRecursion (IsKnown (puts moment es)) (begun moment).heard.asks
unfolding begun
begun_known moment es =
    let first : List Put = puts_of 2 2 (pieces first_state (request_message moment)) in
    let rest : List Put = puts_from (begun moment) es in (
      (first, [], ap (λ l. first ++ l) (sym (append-nil rest))),
      (put_known (puts moment es) (rising_puts moment es) 2 (request_message moment) [] due.Session rest [] [] refl (sym (append-nil (first ++ rest))), tt),
    )

-- ---- what a client asks for

abbrev SubscribeModest : ChannelSubscribeMessage → Type 0
SubscribeModest (subscribe.GetChannelMetadata x) = Unit {0}
SubscribeModest (subscribe.GetRanges x) = Unit {0}
SubscribeModest (subscribe.SubscribeChannels x) = (channel : ℤ) × (start : ℤ) × (x.channels ≡ keyed (subscription_of channel start))
SubscribeModest _ = ⊥

-- of the ChannelSubscribe protocol it asks for one channel's metadata, for points or for one subscription, and no more
abbrev pub IsModest : Message → Type 0
IsModest (message.ChannelSubscribe x) = SubscribeModest x
IsModest _ = Unit {0}

all_of_map : {A : Type 0} (f : A → Message) → ((x : A) → IsModest (f x)) → (xs : List A) → AllByRecursion IsModest (map f xs)
all_of_map f each [] = tt
all_of_map f each (x ∷ xs) = (each x, all_of_map f each xs)

pub all_at : {A : Type 0} (P : A → Type 0) (front : List A) (x : A) (back : List A) → AllByRecursion P (front ++ x ∷ back) → P x
all_at P [] x back all = all.0
all_at P (y ∷ front) x back all = all_at P front x back all.1

chunks_modest : (xs : _) → AllByRecursion IsModest (chunk_messages xs)
chunks_modest [] = tt
chunks_modest (x ∷ xs) = all-append IsModest (map (λ c. message.Store (store.Chunk c)) x.chunks) (chunk_messages xs) (all_of_map (λ c. message.Store (store.Chunk c)) (λ c. tt) x.chunks) (chunks_modest xs)

pieces_modest : (s : State) (a : Ask) (moment : ℤ) → AllByRecursion IsModest (pieces s (message_of moment a))
pieces_modest s (ask.PutSpace path) moment = (tt, tt)
pieces_modest s (ask.Put uri payload) moment = (tt, chunks_modest (as_sent limit 0 s.blobs (keyed (object_of uri payload))))
pieces_modest s (ask.Get uri) moment = (tt, tt)
pieces_modest s (ask.OpenChannel uri) moment = (tt, tt)
pieces_modest s (ask.Load points) moment = (tt, tt)
pieces_modest s (ask.Meta uri) moment = (tt, tt)
pieces_modest s (ask.Subscribe channel start) moment = ((channel, start, refl), tt)
pieces_modest s (ask.Replace channel from to points) moment = (tt, tt)
pieces_modest s (ask.Cut channel end) moment = (tt, tt)
pieces_modest s (ask.Range channel from to) moment = (tt, tt)
pieces_modest s ask.Spaces moment = (tt, tt)
pieces_modest s (ask.Delete uri) moment = (tt, tt)
pieces_modest s ask.Ping moment = (tt, tt)
pieces_modest s ask.Close moment = (tt, tt)

abbrev pub AreModest : List Put → Type 0
AreModest ps = AllByRecursion (λ (p : Put). IsModest p.message) ps

modest_of : (first id : ℕ) (ms : List Message) → AllByRecursion IsModest ms → AreModest (puts_of first id ms)
modest_of first id [] all = tt
modest_of first id (m ∷ ms) all = (all.0, modest_of first (id + 2) ms all.1)

modest_by : (b : Bool) (next : ℕ) (ms : List Message) → AllByRecursion IsModest ms → AreModest (puts_by b next ms)
modest_by true next ms all = tt
modest_by false next ms all = modest_of next next ms all

event_modest : (s : State) (e : Event) → AreModest (event_puts s e)
event_modest s (Asks a moment) = modest_by (not (is_open s.heard.phase) || is_spent s.next (pieces s (message_of moment a))) s.next (pieces s (message_of moment a)) (pieces_modest s a moment)
event_modest s (Takes bytes) = tt

modest_from : (s : State) (es : List Event) → AreModest (puts_from s es)
modest_from s [] = tt
modest_from s (e ∷ es) = all-append (λ (p : Put). IsModest p.message) (event_puts s e) (puts_from (stepped s e) es) (event_modest s e) (modest_from (stepped s e) es)

pub puts_modest : (moment : ℤ) (es : List Event) → AreModest (puts moment es)
puts_modest moment es = (tt, modest_from (begun moment) es)
