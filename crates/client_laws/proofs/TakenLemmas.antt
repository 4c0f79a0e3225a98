-- Parts that are taken one after the other. For the crates above, too: that a message is taken as a part, and what the headers of parts
-- say of the whole message's.
use Rattle.std.proofs.Common.{◌≡◌, ℕ, ℤ, pos, Bool, true, false, not, ◌&&◌, ◌||◌, int_lt, int_rem, List, [], ◌∷◌, Option, Some, None, Ok, fold, map, if◌then◌else◌, refl, sym, ap, subst, ◌∙◌}
use Rattle.std.specs.List.{AllByRecursion}
use Rattle.std.specs.Ordering.{int_eq}
use Rattle.std.proofs.lemmas.Bool.{false≢true, and_parts}
use Rattle.etp_values.proofs.IntLemmas.{int_eq_self, int_lt_trans}
use Rattle.etp_schema.specs.declared.body.Side.TheVariants.{Server}
use Rattle.etp_frame.specs.Header.{final_part, has_flag}
use Rattle.etp_frame.specs.Reading.{read_of}
use Rattle.etp_frame.specs.declared.header.Header.{Header}
use Rattle.etp_frame.specs.declared.joining.JoinError.TheVariants as join
use Rattle.etp_frame.specs.declared.message.Message.{Message}
use Rattle.etp_frame.specs.declared.message.Message.TheVariants as message
use Rattle.msg_core.specs.declared.core_messages.CoreMessage.{CoreMessage}
use Rattle.msg_core.specs.declared.core_messages.CoreMessage.TheVariants as core
use Rattle.client_core.specs.Joining.{grown, is_broken, is_exception, joined}
use Rattle.client_core.specs.State.{Heard, is_ended}
use Rattle.client_core.specs.Taking.{Taken, by_flag, by_kind, by_phase, fails, gives, has_objects, hears, in_phase, is_closing, is_fresh, is_silent, may_come, on_bytes, on_message, on_read, on_whole}
use Rattle.client_core.specs.declared.got.ClientError.TheVariants as error
use Rattle.client_core.specs.declared.state.Kept.{Kept}
use Rattle.client_core.specs.declared.state.Phase.{Phase}
use Rattle.client_core.specs.declared.state.Phase.TheVariants as phase
use Rattle.client_laws.specs.Parts.{AreOfParts, AreRead, IsFree, Sent, at_last, given_by, given_by_bytes, left_by, left_by_bytes}

-- ---- numbers and tests

same_int : (a b : ℤ) → a ≡ b → int_eq a b ≡ true
same_int a b is = ap (λ z. int_eq a z) (sym is) ∙ int_eq_self a

or_true : (b : Bool) → not (b || true) ≡ false
or_true true = refl
or_true false = refl

fresh_on : (a b c : ℤ) → is_fresh a b ≡ true → is_fresh b c ≡ true → is_fresh a c ≡ true
fresh_on a b c x y =
    (λ i. int_lt_trans a b c (and_parts (int_lt a b) (int_eq (int_rem b (pos 2)) (pos 1)) x).0 (and_parts (int_lt b c) (int_eq (int_rem c (pos 2)) (pos 1)) y).0 i && int_eq (int_rem c (pos 2)) (pos 1))
    ∙ (and_parts (int_lt b c) (int_eq (int_rem c (pos 2)) (pos 1)) y).1

-- ---- a part

-- a message that a client in this phase takes as a part, and which may be an exception
abbrev pub IsPart : Phase → Bool → Message → Type 0
IsPart p e m = (is_silent m ≡ false) × (is_closing m ≡ false) × (may_come p m ≡ true) × (has_objects m ≡ false) × (is_exception m ≡ e)

pub on_part_of : (f e : Bool) (h : Header) (m : Message) (s : Heard) → is_fresh s.last h.id ≡ true → IsPart s.phase e m → is_broken s.kept h m ≡ false → has_flag h.flags final_part ≡ f
    → on_read h m s ≡ by_flag f h (grown s.kept m) (record s { last = h.id })
on_part_of f e h m s fresh part goes flag =
    let t : Heard = record s { last = h.id } in
    ap (λ b. if b then on_message h m t else fails (error.Id h.id) s) fresh
    ∙ ap (λ b. if b then gives [] t else if is_closing m then gives [] (record t { phase = phase.Ended }) else in_phase (may_come t.phase m) h m t) part.0
    ∙ ap (λ b. if b then gives [] (record t { phase = phase.Ended }) else in_phase (may_come t.phase m) h m t) part.1
    ∙ ap (λ b. in_phase b h m t) part.2
    ∙ ap (λ b. if b then fails (error.Join join.Interleaved) t else by_kind (has_objects m) h m t) goes
    ∙ ap (λ b. by_kind b h m t) part.3
    ∙ ap (λ b. by_flag b h (grown t.kept m) t) flag

-- ---- headers of parts

-- the first of them has what the message's header has
abbrev pub IsAlike : Header → Header → Type 0
IsAlike h x = (x.protocol ≡ h.protocol) × (x.kind ≡ h.kind) × (x.correlation ≡ h.correlation)

pub first_alike : (h : Header) (last : ℤ) (x : Header) (xs : List Header) → AreOfParts h last (x ∷ xs) → IsAlike h x
first_alike h last x [] heads = (ap (λ k. k.protocol) heads.0, ap (λ k. k.kind) heads.0, ap (λ k. k.correlation) heads.0)
first_alike h last x (y ∷ xs) heads = (ap (λ k. k.protocol) heads.0, ap (λ k. k.kind) heads.0, ap (λ k. k.correlation) heads.0)

-- the whole message's header is as fresh as the parts' are, and flagged
pub ends_fresh : (h : Header) (last : ℤ) (xs : List Header) → AreOfParts h last xs → (is_fresh last h.id ≡ true) × (has_flag h.flags final_part ≡ true)
ends_fresh h last [] heads = absurd heads
ends_fresh h last (x ∷ []) heads = (heads.1, heads.2)
ends_fresh h last (x ∷ y ∷ xs) heads =
    let rest = ends_fresh h x.id (y ∷ xs) heads.3 in
    (fresh_on last x.id h.id heads.1 rest.0, rest.1)

goes_with : (k x : Header) (p m : Message) → x.protocol ≡ k.protocol → x.kind ≡ k.kind → x.correlation ≡ k.correlation → is_broken (Some (record { header = k; message = p })) x m ≡ false
goes_with k x p m protocol kind correlation =
    (λ i. not (same_int x.correlation k.correlation correlation i && (is_exception m || (same_int x.protocol k.protocol protocol i && same_int x.kind k.kind kind i))))
    ∙ or_true (is_exception m)

-- ---- all parts

-- bytes that are read as these messages leave and give what this says
abbrev BytesEnd : Heard → List Sent → Taken → Type 0
BytesEnd s xs t = (bs : List (List ℕ)) → AreRead bs xs → is_ended s.phase ≡ false → (left_by_bytes s bs ≡ t.state) × (given_by_bytes s bs ≡ at_last t.result xs)

-- these messages leave and give what this says, and so do bytes that are read as these
abbrev pub Ends : Heard → List Sent → Taken → Type 0
Ends s xs t = (left_by s xs ≡ t.state) × (given_by s xs ≡ at_last t.result xs) × BytesEnd s xs t

bytes_read : (s : Heard) (b : List ℕ) (x : Sent) → read_of Server b ≡ Ok x → is_ended s.phase ≡ false → hears s b ≡ on_read x.0 x.1 s
unfolding hears
bytes_read s b x read begun = ap (λ t. by_phase t b s) begun ∙ ap (λ r. on_bytes r s) read

one_ends : (s : Heard) (x : Sent) (t : Taken) → on_read x.0 x.1 s ≡ t → Ends s (x ∷ []) t
one_ends s x t step = (ap (λ r. r.state) step, ap (λ r. r.result ∷ []) step, bytes)
  where
    bytes : (bs : List (List ℕ)) → AreRead bs (x ∷ []) → is_ended s.phase ≡ false → (left_by_bytes s bs ≡ t.state) × (given_by_bytes s bs ≡ t.result ∷ [])
    bytes [] are begun = absurd are
    bytes (b ∷ []) are begun = let is = bytes_read s b x are.0 begun ∙ step in (ap (λ r. r.state) is, ap (λ r. r.result ∷ []) is)
    bytes (b ∷ c ∷ bs) are begun = absurd are.1

-- a part that is kept, in front of others
more_ends : (s left : Heard) (x y : Sent) (xs : List Sent) (t : Taken) → on_read x.0 x.1 s ≡ gives [] left → left.phase ≡ s.phase → Ends left (y ∷ xs) t → Ends s (x ∷ y ∷ xs) t
more_ends s left x y xs t step phase rest =
    (ap (λ r. left_by r.state (y ∷ xs)) step ∙ rest.0, ap (λ r. r.result ∷ given_by r.state (y ∷ xs)) step ∙ ap (λ l. Ok [] ∷ l) rest.1, bytes)
  where
    bytes : (bs : List (List ℕ)) → AreRead bs (x ∷ y ∷ xs) → is_ended s.phase ≡ false → (left_by_bytes s bs ≡ t.state) × (given_by_bytes s bs ≡ Ok [] ∷ at_last t.result (y ∷ xs))
    bytes [] are begun = absurd are
    bytes (b ∷ bs) are begun =
        let is = bytes_read s b x are.0 begun ∙ step in
        let more = rest.2 bs are.1 (ap is_ended phase ∙ begun) in
        (ap (λ r. left_by_bytes r.state bs) is ∙ more.0, ap (λ r. r.result ∷ given_by_bytes r.state bs) is ∙ ap (λ l. Ok [] ∷ l) more.1)

abbrev pub messages : List Sent → List Message
messages xs = map (λ x. x.1) xs

abbrev pub headers : List Sent → List Header
headers xs = map (λ x. x.0) xs

behind : (h : Header) (e : Bool) (s : Heard) (x : Sent) (xs : List Sent) → AreOfParts h s.last (headers (x ∷ xs)) → AllByRecursion (IsPart s.phase e) (messages (x ∷ xs)) → is_broken s.kept x.0 x.1 ≡ false
    → Ends s (x ∷ xs) (on_whole h (fold joined (grown s.kept x.1) (messages xs)) (record s { last = h.id; kept = None }))
behind h e s x [] heads parts goes =
    let step : on_read x.0 x.1 s ≡ on_whole h (grown s.kept x.1) (record s { last = h.id; kept = None }) =
    ap (λ k. on_read k x.1 s) heads.0 ∙ on_part_of true e h x.1 s heads.1 parts.0 (subst (λ k. is_broken s.kept k x.1 ≡ false) heads.0 goes) heads.2 in
    one_ends s x (on_whole h (grown s.kept x.1) (record s { last = h.id; kept = None })) step
behind h e s x (y ∷ xs) heads parts goes =
    let kept : Kept = record { header = x.0; message = grown s.kept x.1 } in
    let left : Heard = record s { last = x.0.id; kept = Some kept } in
    let step : on_read x.0 x.1 s ≡ gives [] left = on_part_of false e x.0 x.1 s heads.1 parts.0 goes heads.2 in
    let a : IsAlike h x.0 = first_alike h s.last x.0 (headers (y ∷ xs)) heads in
    let b : IsAlike h y.0 = first_alike h x.0.id y.0 (headers xs) heads.3 in
    let rest = behind h e left y xs heads.3 parts.1 (goes_with x.0 y.0 kept.message y.1 (b.0 ∙ sym a.0) (b.1 ∙ sym a.1) (b.2 ∙ sym a.2)) in
    more_ends s left x y xs (on_whole h (fold joined (grown s.kept x.1) (messages (y ∷ xs))) (record s { last = h.id; kept = None })) step refl rest

-- ---- after an answer whose place an exception takes

behind_core : (k p : CoreMessage) → is_exception (message.Core k) ≡ false → is_exception (message.Core p) ≡ true → joined (message.Core k) (message.Core p) ≡ message.Core p
behind_core (core.ProtocolException x) p answer exception = absurd (false≢true (sym answer))
behind_core k p answer exception = refl

behind_answer : (k p : Message) → is_exception k ≡ false → is_exception p ≡ true → joined k p ≡ p
behind_answer (message.Core k) (message.Core p) answer exception = behind_core k p answer exception
behind_answer k (message.Transaction p) answer exception = absurd (false≢true exception)
behind_answer k (message.Dataspace p) answer exception = absurd (false≢true exception)
behind_answer k (message.Store p) answer exception = absurd (false≢true exception)
behind_answer k (message.DataArray p) answer exception = absurd (false≢true exception)
behind_answer k (message.ChannelSubscribe p) answer exception = absurd (false≢true exception)
behind_answer k (message.ChannelDataLoad p) answer exception = absurd (false≢true exception)
behind_answer k (message.Core p) answer exception = refl

-- a part of a message that is free to come
free_part : (o : Option Kept) (h x : Header) (m p : Message) → IsFree o h m → x.correlation ≡ h.correlation → is_exception p ≡ is_exception m → (is_broken o x p ≡ false) × (grown o p ≡ p)
free_part None h x m p free correlation alike = (refl, refl)
free_part (Some k) h x m p free correlation alike =
    let exception : is_exception p ≡ true = alike ∙ free.1 in
    let same : int_eq x.correlation k.header.correlation ≡ true =
    ap (λ z. int_eq z k.header.correlation) correlation ∙ (and_parts (int_eq h.correlation k.header.correlation) (is_exception m || (int_eq h.protocol k.header.protocol && int_eq h.kind k.header.kind)) free.0).0 in
    ((λ i. not (same i && (exception i || (int_eq x.protocol k.header.protocol && int_eq x.kind k.header.kind)))), behind_answer k.message p free.2 exception)

-- ---- the whole message

-- the messages put together; with none there is another
abbrev pub put : Message → List Message → Message
put m [] = m
put m (p ∷ ps) = fold joined p ps

-- messages that a client takes alike
abbrev pub Same : Header → Message → Message → Type 0
Same h p m = (t : Heard) → on_whole h p t ≡ on_whole h m t

pub join_whole : (h : Header) (e : Bool) (m : Message) (s : Heard) (xs : List Sent) → AreOfParts h s.last (headers xs) → AllByRecursion (IsPart s.phase e) (messages xs) → IsPart s.phase e m → IsFree s.kept h m
    → Same h (put m (messages xs)) m → Ends s xs (on_read h m s)
join_whole h e m s [] heads parts part free same = absurd heads
join_whole h e m s (x ∷ xs) heads parts part free same =
    let a : IsAlike h x.0 = first_alike h s.last x.0 (headers xs) heads in
    let end = ends_fresh h s.last (headers (x ∷ xs)) heads in
    let first = free_part s.kept h x.0 m x.1 free a.2 (parts.0.4 ∙ sym part.4) in
    let all = free_part s.kept h h m m free refl refl in
    let t : Heard = record s { last = h.id; kept = None } in
    let taken = behind h e s x xs heads parts first.0 in
    let step : on_read h m s ≡ on_whole h m t = on_part_of true e h m s end.0 part all.0 end.1 ∙ ap (λ p. on_whole h p t) all.1 in
    let is : on_whole h (fold joined (grown s.kept x.1) (messages xs)) t ≡ on_read h m s = ap (λ p. on_whole h (fold joined p (messages xs)) t) first.1 ∙ same t ∙ sym step in
    subst (λ r. Ends s (x ∷ xs) r) is taken

-- ---- one part alone

abbrev first_or : Message → List Message → Message
first_or m [] = m
first_or m (p ∷ ps) = p

abbrev pub is_more : List Message → Bool
is_more (p ∷ q ∷ ps) = true
is_more _ = false

pub one_part : (h : Header) (m : Message) (s : Heard) (xs : List Sent) → messages xs ≡ m ∷ [] → AreOfParts h s.last (headers xs) → Ends s xs (on_read h m s)
one_part h m s [] is heads = absurd heads
one_part h m s (x ∷ []) is heads =
    let message : x.1 ≡ m = ap (first_or m) is in
    one_ends s x (on_read h m s) (λ i. on_read (heads.0 i) (message i) s)
one_part h m s (x ∷ y ∷ xs) is heads = absurd (false≢true (sym (ap is_more is)))
