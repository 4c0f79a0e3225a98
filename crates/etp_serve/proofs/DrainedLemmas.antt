-- Draining a session, message by message.
use Rattle.std.proofs.Common.{◌≡◌, ◌<◌, ℕ, List, [], ◌∷◌, ◌++◌, length, map, arith, Some, None, refl, ap, sym, ◌∙◌, subst, append_assoc}
use Rattle.std.proofs.lemmas.List.{append-nil}
use Rattle.std.specs.declared.option.Option.{Option}
use mathlib.Core.List.{map-append}
use Rattle.etp_outside.specs.Told.{Told}
use Rattle.etp_outside.specs.Talk.{Talk, Says}
use Rattle.etp_outside.specs.declared.link.Sent.TheVariants as send
use Rattle.session_core.specs.Run.{drained}
use Rattle.session_core.specs.Session.{bytes_of, next_bytes, sent_one}
use Rattle.session_core.specs.Sending.{rest_of}
use Rattle.session_core.specs.State.{State}
use Rattle.session_core.specs.declared.state.Outgoing.{Outgoing}
use Rattle.etp_serve.specs.Steps.{SendsFront, Drains}
use Rattle.etp_serve.specs.Talks.{Talked}
use Rattle.etp_serve.proofs.TalkLemmas.{told_none, told_same, told_says}

-- some of the messages were sent
pub record Draining (s t : State) (a b : Option Talk) : Type 0 where
  pub done : List Outgoing
  pub state : s ≡ record t { out = done ++ t.out }
  pub talk : Told a b (Talked [] (map bytes_of done))

pub drain_start : (s : State) (a : Option Talk) → Draining s s a a
drain_start s a = record { done = []; state = refl; talk = told_none a }

-- the next message, and those after it
first_is : (out : List Outgoing) (m : List ℕ) → next_bytes out ≡ Some m → (o : Outgoing) × (out ≡ o ∷ rest_of out) × (m ≡ bytes_of o)
first_is [] m is = absurd (cc is)
first_is (o ∷ os) m is = (o, refl, cc is)

pub drain_step : (s t u : State) (a b c : Option Talk) (m : List ℕ) → Draining s t a b → Some m ≡ next_bytes t.out → u ≡ sent_one t → Told b c (Says m) → Draining s u a c
drain_step s t u a b c m d is now says =
    let first = first_is t.out m (sym is) in
    let o : Outgoing = first.0 in
    let sent : Told a c (Talked [] (map bytes_of d.done ++ m ∷ [])) = told_says (map bytes_of d.done) m a b c d.talk says in
    let whole : (d.done ++ o ∷ []) ++ rest_of t.out ≡ d.done ++ t.out = append_assoc d.done (o ∷ []) (rest_of t.out) ∙ ap (λ l. d.done ++ l) (sym first.1) in
    subst (λ (x : State). Draining s x a c) (sym now) record {
      done = d.done ++ o ∷ [];
      state = d.state ∙ ap (λ (l : List Outgoing). record t { out = l }) (sym whole);
      talk = subst (λ (l : List (List ℕ)). Told a c (Talked [] l)) (ap (λ (k : List ℕ). map bytes_of d.done ++ k ∷ []) first.2 ∙ sym (map-append bytes_of d.done (o ∷ []))) sent;
    }

pub drain_smaller : (t u : State) (m : List ℕ) → Some m ≡ next_bytes t.out → u ≡ sent_one t → length u.out < length t.out
drain_smaller t u m is now =
    let first = first_is t.out m (sym is) in
    let long : length t.out ≡ length (first.0 ∷ rest_of t.out) = ap length first.1 in
    let left : length u.out ≡ length (rest_of t.out) = ap (λ (x : State). length x.out) now in
    omega arith

none_is : (out : List Outgoing) → next_bytes out ≡ None → out ≡ []
none_is [] is = refl
none_is (o ∷ os) is = absurd (cc is)

pub drain_done : (s t u : State) (a b : Option Talk) → Draining s t a b → None ≡ next_bytes t.out → u ≡ sent_one t → Drains send.Done s u a b
drain_done s t u a b d is now =
    let empty : t.out ≡ [] = none_is t.out (sym is) in
    let out : s.out ≡ d.done = ap (λ (x : State). x.out) d.state ∙ (ap (λ l. d.done ++ l) empty ∙ append-nil d.done) in
    let same : u ≡ drained s = now ∙ (ap (λ (l : List Outgoing). record t { out = rest_of l }) empty ∙ ap (λ (x : State). drained x) (sym d.state)) in
    (same, subst (λ (l : List Outgoing). Told a b (Talked [] (map bytes_of l))) (sym out) d.talk)

-- what was sent so far are some of the first messages
pub drain_stopped : (s t : State) (a b : Option Talk) → Draining s t a b → SendsFront s.out a b
drain_stopped s t a b d = record { front = d.done; rest = t.out; whole = sym (ap (λ (x : State). x.out) d.state); talk = d.talk }

pub drain_cut : (s t : State) (a b c : Option Talk) → Draining s t a b → Told b c (λ x y. y ≡ x) → SendsFront s.out a c
drain_cut s t a b c d same = record { front = d.done; rest = t.out; whole = sym (ap (λ (x : State). x.out) d.state); talk = told_same [] (map bytes_of d.done) a b c d.talk same }
