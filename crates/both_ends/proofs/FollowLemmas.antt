-- A client next to the messages that a session sends: what it returns since a subscription was accepted is what the session has sent.
use Rattle.std.proofs.Common.{◌≡◌, ℕ, ℤ, Bool, true, false, not, ◌||◌, ◌⊎◌, inl, inr, List, [], ◌∷◌, ◌++◌, Option, Some, Ok, fold, option_map, if◌then◌else◌, refl, sym, ap, subst, ◌∙◌, append-nil, append_assoc}
use Rattle.std.specs.List.{AllByRecursion, flat_map}
use Rattle.std.proofs.lemmas.Bool.{false≢true}
use Rattle.etp_values.proofs.EachLemmas.{all-append}
use Rattle.channel_store.specs.declared.change.What.{What}
use Rattle.channel_store.specs.declared.copy.ChangeMsg.{ChangeMsg}
use Rattle.client_core.specs.Asking.{asked, asked_by, due_of, is_close, is_spent, pieces}
use Rattle.client_core.specs.Joining.{grown, is_broken}
use Rattle.client_core.specs.Laws.{Asks, Event, Takes, handed, since, since_event, stepped, told_of}
use Rattle.client_core.specs.Messages.{message_of}
use Rattle.client_core.specs.Notices.{is_live}
use Rattle.client_core.specs.State.{Heard, State, is_ended, is_open}
use Rattle.client_core.specs.Taking.{Taken, by_flag, by_kind, by_phase, fails, gives, has_objects, hears, in_phase, is_closing, is_fresh, is_silent, may_come, on_bytes, on_message, on_read}
use Rattle.client_core.specs.declared.ask.Ask.{Ask}
use Rattle.client_core.specs.declared.got.ClientError.TheVariants as error
use Rattle.client_core.specs.declared.got.Got.TheVariants as got
use Rattle.client_core.specs.declared.state.Asked.{Asked}
use Rattle.client_core.specs.declared.state.Phase.{Phase}
use Rattle.client_core.specs.declared.state.Phase.TheVariants as phase
use Rattle.client_laws.specs.Parts.{Given, Sent, at_last, given_by, left_by}
use Rattle.etp_schema.specs.declared.body.Side.TheVariants.{Server}
use Rattle.etp_frame.specs.Header.{final_part, has_flag}
use Rattle.etp_frame.specs.Reading.{read_of}
use Rattle.etp_frame.specs.declared.header.Header.{Header}
use Rattle.etp_frame.specs.declared.joining.JoinError.TheVariants as join
use Rattle.etp_frame.specs.declared.message.Message.{Message}
use Rattle.etp_frame.specs.declared.message.Message.TheVariants as message
use Rattle.msg_channel.specs.declared.channel_subscribe_messages.ChannelSubscribeMessage.{ChannelSubscribeMessage}
use Rattle.msg_channel.specs.declared.channel_subscribe_messages.ChannelSubscribeMessage.TheVariants as subscribe
use Rattle.session_core.specs.Streams.{hear_message}
use Rattle.session_core.specs.Streams.{Heard as Told}
use Rattle.both_ends.specs.Ends.{Put}
use Rattle.both_ends.proofs.AsideLemmas.{AsideKept, IsAsideHeader, aside_taken, is_aside, is_stop, no_more, silent_taken, subscribe_aside, subscribe_stops}
use Rattle.both_ends.proofs.HearLemmas.{hear_sent, more_heard}
use Rattle.both_ends.proofs.PutLemmas.{AsksMore, IsKnown, IsPut, Rising, ask_more, more_asks, put_back, put_front, put_later}

-- ---- a client that has ended

ended_shut : (p : Phase) → is_ended p ≡ true → is_open p ≡ false
ended_shut phase.Waiting ended = refl
ended_shut phase.Open ended = absurd (false≢true ended)
ended_shut phase.Ended ended = refl

ended_event : (s : State) (e : Event) → is_ended s.heard.phase ≡ true → is_ended (stepped s e).heard.phase ≡ true
unfolding asked hears
ended_event s (Takes bytes) ended = subst (λ b. is_ended (by_phase b bytes s.heard).state.phase ≡ true) (sym ended) refl
ended_event s (Asks a moment) ended =
    subst (λ b. is_ended (asked_by (not b || is_spent s.next (pieces s (message_of moment a))) (due_of a) (is_close a) (message_of moment a) s).state.heard.phase ≡ true) (sym (ended_shut s.heard.phase ended)) ended

ended_events : (s : State) (es : List Event) → is_ended s.heard.phase ≡ true → is_ended (fold stepped s es).heard.phase ≡ true
ended_events s [] ended = ended
ended_events s (e ∷ es) ended = ended_events (stepped s e) es (ended_event s e ended)

pub lives_before : (s : State) (es : List Event) → is_ended (fold stepped s es).heard.phase ≡ false → is_ended s.heard.phase ≡ false
lives_before s es lives = by (is_ended s.heard.phase) refl
  where
    by : (b : Bool) → is_ended s.heard.phase ≡ b → b ≡ false
    by true ended = absurd (false≢true (sym lives ∙ ended_events s es ended))
    by false ended = refl

-- ---- messages that are delivered

-- a client takes these messages, as it reads them, and asks between
abbrev pub Delivers : List Event → List Sent → Type 0
Delivers [] [] = Unit {0}
Delivers [] (x ∷ xs) = ⊥
Delivers (Asks a moment ∷ es) xs = Delivers es xs
Delivers (Takes bytes ∷ es) [] = ⊥
Delivers (Takes bytes ∷ es) (x ∷ xs) = (read_of Server bytes ≡ Ok x) × Delivers es xs

-- the events of a prefix, and those of the rest
record SplitAt (es : List Event) (xs ys : List Sent) : Type 0 where
  front : List Event
  back : List Event
  split : es ≡ front ++ back
  first : Delivers front xs
  rest : Delivers back ys

split_at : (es : List Event) (xs ys : List Sent) → Delivers es (xs ++ ys) → SplitAt es xs ys
split_at es [] ys d = record { front = []; back = es; split = refl; first = tt; rest = d }
split_at [] (x ∷ xs) ys d = absurd d
split_at (Asks a moment ∷ es) (x ∷ xs) ys d =
    let s : SplitAt es (x ∷ xs) ys = split_at es (x ∷ xs) ys d in
    record { front = Asks a moment ∷ s.front; back = s.back; split = ap (λ l. Asks a moment ∷ l) s.split; first = s.first; rest = s.rest }
split_at (Takes bytes ∷ es) (x ∷ xs) ys d =
    let s : SplitAt es xs ys = split_at es xs ys d.1 in
    record { front = Takes bytes ∷ s.front; back = s.back; split = ap (λ l. Takes bytes ∷ l) s.split; first = (d.0, s.first); rest = s.rest }

pub bytes_read : (s : Heard) (bytes : List ℕ) (x : Sent) → is_ended s.phase ≡ false → read_of Server bytes ≡ Ok x → hears s bytes ≡ on_read x.0 x.1 s
unfolding hears
bytes_read s bytes x lives read = ap (λ b. by_phase b bytes s) lives ∙ ap (λ r. on_bytes r s) read

stepped_more : (s : State) (es fs : List Event) → fold stepped s (es ++ fs) ≡ fold stepped (fold stepped s es) fs
stepped_more s [] fs = refl
stepped_more s (e ∷ es) fs = stepped_more (stepped s e) es fs

since_more : (c : ℤ) (s : State) (before : Option (List What)) (es fs : List Event) → since c s before (es ++ fs) ≡ since c (fold stepped s es) (since c s before es) fs
since_more c s before [] fs = refl
since_more c s before (e ∷ es) fs = since_more c (stepped s e) (since_event c s before e) es fs

-- ---- both ends

-- what each channel's subscription returns
abbrev pub Handed : Type 0
Handed = ℤ → Option (List What)

-- A channel that the session has subscribed to is active with the client, which was handed what was sent; of any other nothing was sent.
abbrev pub Flows : Bool → Bool → Option (List What) → Told → Type 0
Flows true live before k = (k.part ≡ []) × (live ≡ true) × (before ≡ Some k.told)
Flows false live before k = (k.part ≡ []) × (k.told ≡ [])

-- a client keeps no part of what concerns subscriptions, and its asks are of messages that it sent
pub record Ready (all : List Put) (s : Heard) : Type 0 where
  pub kept : AsideKept s.kept
  pub asks : AllByRecursion (IsKnown all) s.asks

-- and it follows the session's subscriptions
pub record Follows (all : List Put) (subs : ℤ → Bool) (told : ℤ → Told) (s : Heard) (before : Handed) : Type 0 where
  pub ready : Ready all s
  pub flows : (c : ℤ) → Flows (subs c) (is_live c s.channels) (before c) (told c)

-- messages after which it follows them again
abbrev pub Carries : List Put → (ℤ → Told) → List Sent → (ℤ → Bool) → (ℤ → Bool) → Type 0
Carries all told xs subs left = (s : State) (before : Handed) (es : List Event) → Follows all subs told s.heard before → Delivers es xs → IsPut all s es → is_ended (fold stepped s es).heard.phase ≡ false
    → Follows all left (λ c. fold (hear_sent c) (told c) xs) (fold stepped s es).heard (λ c. since c s (before c) es)

-- ---- messages, apart from what is sent

-- a message aside under its own header
abbrev pub IsAsideSent : Sent → Type 0
IsAsideSent x = (is_aside x.1 ≡ true) × IsAsideHeader x.0 x.1

subscribe_unheard : (c : ℤ) (last : Bool) (m : ChannelSubscribeMessage) (k : Told) → subscribe_aside m ≡ true → subscribe_stops m ≡ false → hear_message c last (message.ChannelSubscribe m) k ≡ k
subscribe_unheard c last (subscribe.ChannelData m) k aside still = absurd (false≢true aside)
subscribe_unheard c last (subscribe.RangeReplaced m) k aside still = absurd (false≢true aside)
subscribe_unheard c last (subscribe.ChannelsTruncated m) k aside still = absurd (false≢true aside)
subscribe_unheard c last (subscribe.SubscriptionsStopped m) k aside still = absurd (false≢true (sym still))
subscribe_unheard c last m k aside still = refl

unheard_aside : (c : ℤ) (last : Bool) (m : Message) (k : Told) → is_aside m ≡ true → is_stop m ≡ false → hear_message c last m k ≡ k
unheard_aside c last (message.ChannelSubscribe m) k aside still = subscribe_unheard c last m k aside still
unheard_aside c last m k aside still = refl

-- messages that concern no subscription
abbrev pub AreAside : List Sent → Type 0
AreAside xs = AllByRecursion (λ (x : Sent). IsAsideSent x × (is_stop x.1 ≡ false)) xs

silent_unheard : (c : ℤ) (last : Bool) (m : Message) (k : Told) → is_silent m ≡ true → hear_message c last m k ≡ k
silent_unheard c last (message.ChannelSubscribe m) k silent = absurd (false≢true silent)
silent_unheard c last m k silent = refl

-- a message that a client ignores, or one aside
abbrev pub IsMinor : Sent → Type 0
IsMinor x = (is_silent x.1 ≡ true) ⊎ IsAsideSent x

-- with more asks, these parts leave a client this way and return this change with the last
abbrev pub Awaits : Heard → ChangeMsg → Heard → List Sent → Type 0
Awaits left z s xs = (more : List Asked) → (left_by (more_asks more s) xs ≡ more_asks more left) × (given_by (more_asks more s) xs ≡ at_last (Ok (got.Change z ∷ [])) xs)

-- all but the last are not flagged, and have no objects
abbrev pub AreHeld : List Sent → Type 0
AreHeld [] = Unit {0}
AreHeld (x ∷ []) = Unit {0}
AreHeld (x ∷ y ∷ xs) = (has_flag x.0.flags final_part ≡ false) × (has_objects x.1 ≡ false) × AreHeld (y ∷ xs)

if_more : (more : List Asked) (b : Bool) (x y u v : Taken) → x.state ≡ more_asks more u.state → y.state ≡ more_asks more v.state → (if b then x else y).state ≡ more_asks more (if b then u else v).state
if_more more true x y u v p q = p
if_more more false x y u v p q = q

kind_more : (more : List Asked) (h : Header) (m : Message) (s : Heard) → has_flag h.flags final_part ≡ false → has_objects m ≡ false → (by_kind (has_objects m) h m (more_asks more s)).state ≡ more_asks more (by_kind (has_objects m) h m s).state
kind_more more h m s part plain =
    subst (λ b. (by_kind b h m (more_asks more s)).state ≡ more_asks more (by_kind b h m s).state) (sym plain)
    (subst (λ b. (by_flag b h (grown s.kept m) (more_asks more s)).state ≡ more_asks more (by_flag b h (grown s.kept m) s).state) (sym part) refl)

phase_more : (more : List Asked) (h : Header) (m : Message) (s : Heard) → has_flag h.flags final_part ≡ false → has_objects m ≡ false → (b : Bool) → (in_phase b h m (more_asks more s)).state ≡ more_asks more (in_phase b h m s).state
phase_more more h m s part plain true = if_more more (is_broken s.kept h m) _ _ (fails (error.Join join.Interleaved) s) (by_kind (has_objects m) h m s) refl (kind_more more h m s part plain)
phase_more more h m s part plain false = refl

held_more : (more : List Asked) (h : Header) (m : Message) (s : Heard) → has_flag h.flags final_part ≡ false → has_objects m ≡ false → (on_read h m (more_asks more s)).state ≡ more_asks more (on_read h m s).state
held_more more h m s part plain =
    let t : Heard = record s { last = h.id } in
    if_more more (is_fresh s.last h.id) _ _ (on_message h m t) (fails (error.Id h.id) s)
    (if_more more (is_silent m) _ _ (gives [] t) _ refl (if_more more (is_closing m) _ _ (gives [] (record t { phase = phase.Ended })) _ refl (phase_more more h m t part plain (may_come t.phase m)))) refl

abbrev first_given : List Given → Given
first_given [] = Ok []
first_given (g ∷ gs) = g

abbrev rest_given : List Given → List Given
rest_given [] = []
rest_given (g ∷ gs) = gs

no_asks : (s : Heard) → more_asks [] s ≡ s
no_asks s = ap (λ l. record s { asks = l }) (append-nil s.asks)

-- what is returned with a change
abbrev pub told_more : ℤ → ChangeMsg → Option (List What) → Option (List What)
told_more c z before = option_map (λ ws. ws ++ flat_map (told_of c) (got.Change z ∷ [])) before

awaits_more : (left : Heard) (z : ChangeMsg) (s : Heard) (xs : List Sent) (more : List Asked) → Awaits left z s xs → Awaits (more_asks more left) z (more_asks more s) xs
awaits_more left z s xs more awaits = λ later.
    let both : (u : Heard) → more_asks later (more_asks more u) ≡ more_asks (more ++ later) u = λ u. ap (λ l. record u { asks = l }) (append_assoc u.asks more later) in
    let m = awaits (more ++ later) in (
      ap (λ u. left_by u xs) (both s) ∙ m.0 ∙ sym (both left),
      ap (λ u. given_by u xs) (both s) ∙ m.1,
    )

module _ (all : List Put) (rising : Rising 2 all) where
  -- ---- asks

  ready_more : (s t : Heard) (more : List Asked) → Ready all s → AllByRecursion (IsKnown all) more → t ≡ more_asks more s → Ready all t
  ready_more s t more ready known is = subst (λ u. Ready all u) (sym is) (record { kept = ready.kept; asks = all-append (IsKnown all) s.asks more ready.asks known })

  ask_ready : (s : State) (a : Ask) (moment : ℤ) (es : List Event) → Ready all s.heard → IsPut all s (Asks a moment ∷ es) → is_ended (stepped s (Asks a moment)).heard.phase ≡ false
      → Ready all (stepped s (Asks a moment)).heard
  ask_ready s a moment es ready put lives =
      let x : AsksMore all s (stepped s (Asks a moment)) = ask_more all rising s a moment es put lives in
      ready_more s.heard (stepped s (Asks a moment)).heard x.0 ready x.1 x.2

  pub ask_follows : (s : State) (a : Ask) (moment : ℤ) (es : List Event) (subs : ℤ → Bool) (told : ℤ → Told) (before : Handed) → Follows all subs told s.heard before → IsPut all s (Asks a moment ∷ es)
      → is_ended (stepped s (Asks a moment)).heard.phase ≡ false → Follows all subs told (stepped s (Asks a moment)).heard before
  ask_follows s a moment es subs told before f put lives =
      let x : AsksMore all s (stepped s (Asks a moment)) = ask_more all rising s a moment es put lives in
      record {
        ready = ready_more s.heard (stepped s (Asks a moment)).heard x.0 f.ready x.1 x.2;
        flows = λ c. subst (λ (u : Heard). Flows (subs c) (is_live c u.channels) (before c) (told c)) (sym x.2) (f.flows c);
      }

  pub carries_none : (subs : ℤ → Bool) (told : ℤ → Told) → Carries all told [] subs subs
  carries_none subs told s before [] f d put lives = f
  carries_none subs told s before (Asks a moment ∷ es) f d put lives =
      carries_none subs told (stepped s (Asks a moment)) before es (ask_follows s a moment es subs told before f put (lives_before (stepped s (Asks a moment)) es lives)) d
      (put_later all s (Asks a moment) es put) lives
  carries_none subs told s before (Takes bytes ∷ es) f d put lives = absurd d

  -- ---- messages after others

  pub carries_more : (told : ℤ → Told) (xs ys : List Sent) (subs between left : ℤ → Bool) → Carries all told xs subs between → Carries all (λ c. fold (hear_sent c) (told c) xs) ys between left
      → Carries all told (xs ++ ys) subs left
  carries_more told xs ys subs between left one two s before es f d put lives =
      let p : SplitAt es xs ys = split_at es xs ys d in
      let whole : IsPut all s (p.front ++ p.back) = subst (λ l. IsPut all s l) p.split put in
      let t : State = fold stepped s p.front in
      let ends : fold stepped s es ≡ fold stepped t p.back = ap (λ l. fold stepped s l) p.split ∙ stepped_more s p.front p.back in
      let more : is_ended (fold stepped t p.back).heard.phase ≡ false = subst (λ (u : State). is_ended u.heard.phase ≡ false) ends lives in
      let first = one s before p.front f p.first (put_front all s p.front p.back whole) (lives_before t p.back more) in
      let rest = two t (λ c. since c s (before c) p.front) p.back first p.rest (put_back all s p.front p.back whole) more in
      let handed_on : (c : ℤ) → since c s (before c) es ≡ since c t (since c s (before c) p.front) p.back = λ c. ap (λ l. since c s (before c) l) p.split ∙ since_more c s (before c) p.front p.back in
      subst (λ X. X)
      (λ i. Follows all left (λ c. sym (more_heard c xs ys (told c)) i) (sym ends i).heard (λ c. sym (handed_on c) i))
      rest

  -- ---- one message

  -- what a client does at a message
  abbrev pub Steps : (ℤ → Told) → Sent → (ℤ → Bool) → (ℤ → Bool) → Type 0
  Steps told x subs left = (s : Heard) (before : Handed) → Follows all subs told s before → is_ended (on_read x.0 x.1 s).state.phase ≡ false
      → Follows all left (λ c. hear_sent c (told c) x) (on_read x.0 x.1 s).state (λ c. handed c s.asks (before c) (on_read x.0 x.1 s).result)

  pub carries_one : (told : ℤ → Told) (x : Sent) (subs left : ℤ → Bool) → Steps told x subs left → Carries all told (x ∷ []) subs left
  carries_one told x subs left step s before [] f d put lives = absurd d
  carries_one told x subs left step s before (Asks a moment ∷ es) f d put lives =
      carries_one told x subs left step (stepped s (Asks a moment)) before es (ask_follows s a moment es subs told before f put (lives_before (stepped s (Asks a moment)) es lives)) d
      (put_later all s (Asks a moment) es put) lives
  carries_one told x subs left step s before (Takes bytes ∷ es) f d put lives =
      let t : State = stepped s (Takes bytes) in
      let is : hears s.heard bytes ≡ on_read x.0 x.1 s.heard = bytes_read s.heard bytes x (lives_before s (Takes bytes ∷ es) lives) d.0 in
      let on : is_ended (on_read x.0 x.1 s.heard).state.phase ≡ false = subst (λ (r : Taken). is_ended r.state.phase ≡ false) is (lives_before t es lives) in
      carries_none left (λ c. hear_sent c (told c) x) t (λ c. since_event c s (before c) (Takes bytes)) es
      (subst (λ (r : Taken). Follows all left (λ c. hear_sent c (told c) x) r.state (λ c. handed c s.heard.asks (before c) r.result)) (sym is) (step s.heard before f on))
      d.1 (put_later all s (Takes bytes) es put) lives

  -- ---- messages aside

  aside_ready : (x : Sent) → IsAsideSent x → (s : Heard) → Ready all s → is_ended (on_read x.0 x.1 s).state.phase ≡ false → Ready all (on_read x.0 x.1 s).state
  aside_ready x at s ready lives =
      let t = aside_taken (IsKnown all) x.0 x.1 s at.1 at.0 ready.kept lives in
      record { kept = t.1.1; asks = t.1.2 ready.asks }

  aside_steps : (told : ℤ → Told) (x : Sent) (subs : ℤ → Bool) → IsAsideSent x → is_stop x.1 ≡ false → Steps told x subs subs
  aside_steps told x subs at still s before f lives =
      let t = aside_taken (IsKnown all) x.0 x.1 s at.1 at.0 f.ready.kept lives in
      let same = t.1.3 still in
      record {
        ready = record { kept = t.1.1; asks = t.1.2 f.ready.asks };
        flows = λ c. subst (λ X. X)
            (λ i. Flows (subs c) (is_live c (sym same.0 i)) (sym (same.1 c (before c)) i) (sym (unheard_aside c (has_flag x.0.flags final_part) x.1 (told c) at.0 still) i)) (f.flows c);
      }

  pub asides_carry : (told : ℤ → Told) (xs : List Sent) (subs : ℤ → Bool) → AreAside xs → Carries all told xs subs subs
  asides_carry told [] subs are = carries_none subs told
  asides_carry told (x ∷ xs) subs are =
      carries_more told (x ∷ []) xs subs subs subs (carries_one told x subs subs (aside_steps told x subs are.0.0 are.0.1)) (asides_carry (λ c. hear_sent c (told c) x) xs subs are.1)

  -- ---- receipts

  silent_steps : (told : ℤ → Told) (x : Sent) (subs : ℤ → Bool) → is_silent x.1 ≡ true → Steps told x subs subs
  silent_steps told x subs silent s before f lives =
      let is : on_read x.0 x.1 s ≡ gives [] (record s { last = x.0.id }) = silent_taken x.0 x.1 s silent lives in
      let on : Follows all subs told (record s { last = x.0.id }) (λ c. option_map (λ ws. ws ++ []) (before c)) = record {
        ready = record { kept = f.ready.kept; asks = f.ready.asks };
        flows = λ c. subst (λ b. Flows (subs c) (is_live c s.channels) b (told c)) (sym (no_more (before c))) (f.flows c);
      } in
      subst (λ X. X)
      (λ i. Follows all subs (λ c. sym (silent_unheard c (has_flag x.0.flags final_part) x.1 (told c) silent) i) (sym is i).state (λ c. handed c s.asks (before c) (sym is i).result))
      on

  pub silents_carry : (told : ℤ → Told) (xs : List Sent) (subs : ℤ → Bool) → AllByRecursion (λ (x : Sent). is_silent x.1 ≡ true) xs → Carries all told xs subs subs
  silents_carry told [] subs are = carries_none subs told
  silents_carry told (x ∷ xs) subs are = carries_more told (x ∷ []) xs subs subs subs (carries_one told x subs subs (silent_steps told x subs are.0)) (silents_carry (λ c. hear_sent c (told c) x) xs subs are.1)

  -- ---- stops

  minor_ready : (x : Sent) → IsMinor x → (s : Heard) → Ready all s → is_ended (on_read x.0 x.1 s).state.phase ≡ false → Ready all (on_read x.0 x.1 s).state
  minor_ready x (inl silent) s ready lives = subst (λ (r : Taken). Ready all r.state) (sym (silent_taken x.0 x.1 s silent lives)) (record { kept = ready.kept; asks = ready.asks })
  minor_ready x (inr aside) s ready lives = aside_ready x aside s ready lives

  stops_ready : (xs : List Sent) → AllByRecursion IsMinor xs → (s : State) (es : List Event) → Ready all s.heard → Delivers es xs → IsPut all s es → is_ended (fold stepped s es).heard.phase ≡ false
      → Ready all (fold stepped s es).heard
  stops_ready [] are s [] ready d put lives = ready
  stops_ready (x ∷ xs) are s [] ready d put lives = absurd d
  stops_ready [] are s (Asks a moment ∷ es) ready d put lives =
      stops_ready [] are (stepped s (Asks a moment)) es (ask_ready s a moment es ready put (lives_before (stepped s (Asks a moment)) es lives)) d (put_later all s (Asks a moment) es put) lives
  stops_ready (x ∷ xs) are s (Asks a moment ∷ es) ready d put lives =
      stops_ready (x ∷ xs) are (stepped s (Asks a moment)) es (ask_ready s a moment es ready put (lives_before (stepped s (Asks a moment)) es lives)) d (put_later all s (Asks a moment) es put) lives
  stops_ready [] are s (Takes bytes ∷ es) ready d put lives = absurd d
  stops_ready (x ∷ xs) are s (Takes bytes ∷ es) ready d put lives =
      let t : State = stepped s (Takes bytes) in
      let is : hears s.heard bytes ≡ on_read x.0 x.1 s.heard = bytes_read s.heard bytes x (lives_before s (Takes bytes ∷ es) lives) d.0 in
      let on : is_ended (on_read x.0 x.1 s.heard).state.phase ≡ false = subst (λ (r : Taken). is_ended r.state.phase ≡ false) is (lives_before t es lives) in
      stops_ready xs are.1 t es (subst (λ (r : Taken). Ready all r.state) (sym is) (minor_ready x are.0 s.heard ready on)) d.1 (put_later all s (Takes bytes) es put) lives

  -- if nothing is sent of any channel then
  pub stops_carry : (told : ℤ → Told) (xs : List Sent) (subs : ℤ → Bool) → AllByRecursion IsMinor xs
      → ((c : ℤ) → ((fold (hear_sent c) (told c) xs).part ≡ []) × ((fold (hear_sent c) (told c) xs).told ≡ [])) → Carries all told xs subs (λ c. false)
  stops_carry told xs subs are empty s before es f d put lives = record { ready = stops_ready xs are s es f.ready d put lives; flows = empty }

  -- ---- a notice in parts

  pub block_goes : (left : Heard) (z : ChangeMsg) (x : Sent) (xs : List Sent) (subs : ℤ → Bool) (told : ℤ → Told) (s : State) (before : Handed) (es : List Event)
      → Awaits left z s.heard (x ∷ xs) → AreHeld (x ∷ xs) → Follows all subs told left (λ c. told_more c z (before c)) → Delivers es (x ∷ xs) → IsPut all s es → is_ended (fold stepped s es).heard.phase ≡ false
      → Follows all subs told (fold stepped s es).heard (λ c. since c s (before c) es)
  block_goes left z x xs subs told s before [] awaits held f d put lives = absurd d
  block_goes left z x xs subs told s before (Asks a moment ∷ es) awaits held f d put lives =
      let t : State = stepped s (Asks a moment) in
      let k : AsksMore all s t = ask_more all rising s a moment es put (lives_before t es lives) in
      block_goes (more_asks k.0 left) z x xs subs told t before es (subst (λ u. Awaits (more_asks k.0 left) z u (x ∷ xs)) (sym k.2) (awaits_more left z s.heard (x ∷ xs) k.0 awaits)) held
      (record { ready = ready_more left (more_asks k.0 left) k.0 f.ready k.1 refl; flows = f.flows }) d (put_later all s (Asks a moment) es put) lives
  block_goes left z x [] subs told s before (Takes bytes ∷ es) awaits held f d put lives =
      let t : State = stepped s (Takes bytes) in
      let is : hears s.heard bytes ≡ on_read x.0 x.1 s.heard = bytes_read s.heard bytes x (lives_before s (Takes bytes ∷ es) lives) d.0 in
      let state : on_read x.0 x.1 s.heard ≡ record { state = left; result = Ok (got.Change z ∷ []) } =
      (λ i. record {
        state = (ap (λ u. left_by u (x ∷ [])) (sym (no_asks s.heard)) ∙ (awaits []).0 ∙ no_asks left) i;
        result = (ap (λ u. first_given (given_by u (x ∷ []))) (sym (no_asks s.heard)) ∙ ap first_given (awaits []).1) i;
      }) in
      carries_none subs told t (λ c. since_event c s (before c) (Takes bytes)) es
      (subst (λ (r : Taken). Follows all subs told r.state (λ c. handed c s.heard.asks (before c) r.result)) (sym (is ∙ state)) f)
      d.1 (put_later all s (Takes bytes) es put) lives
  block_goes left z x (y ∷ xs) subs told s before (Takes bytes ∷ es) awaits held f d put lives =
      let t : State = stepped s (Takes bytes) in
      let is : hears s.heard bytes ≡ on_read x.0 x.1 s.heard = bytes_read s.heard bytes x (lives_before s (Takes bytes ∷ es) lives) d.0 in
      let result : (on_read x.0 x.1 s.heard).result ≡ Ok [] = ap (λ u. first_given (given_by u (x ∷ y ∷ xs))) (sym (no_asks s.heard)) ∙ ap first_given (awaits []).1 in
      let on : Awaits left z (on_read x.0 x.1 s.heard).state (y ∷ xs) = λ more. let m = awaits more in let h = held_more more x.0 x.1 s.heard held.0 held.1 in (
        ap (λ u. left_by u (y ∷ xs)) (sym h) ∙ m.0,
        ap (λ u. given_by u (y ∷ xs)) (sym h) ∙ ap rest_given m.1,
      ) in
      let nothing : (c : ℤ) → since_event c s (before c) (Takes bytes) ≡ before c = λ c. ap (λ (r : Taken). handed c s.heard.asks (before c) r.result) is ∙ ap (handed c s.heard.asks (before c)) result ∙ no_more (before c) in
      block_goes left z y xs subs told t (λ c. since_event c s (before c) (Takes bytes)) es (subst (λ (r : Taken). Awaits left z r.state (y ∷ xs)) (sym is) on) held.2
      (subst (λ X. X) (λ i. Follows all subs told left (λ c. told_more c z (sym (nothing c) i))) f) d.1 (put_later all s (Takes bytes) es put) lives
