-- Messages that are sent one by one.
use Rattle.std.proofs.Common.{◌≡◌, ℕ, List, [], ◌∷◌, ◌++◌, Option, Some, refl, ap, sym, subst, ◌∙◌, append_assoc}
use Rattle.std.proofs.lemmas.List.{append-nil}
use Rattle.etp_outside.specs.Talk.{Talk}
use Rattle.etp_outside.specs.Talk.{Says as SaysOne}
use Rattle.etp_outside.specs.Told.{Told}
use Rattle.etp_outside.proofs.ToldLemmas.{told_self, told_trans}
use Rattle.client_core.specs.State.{State}
use Rattle.client_core.specs.Asking.{first_of, rest_of}
use Rattle.client_forms.specs.Sending.{Sending}
use Rattle.client_forms.specs.Work.{Says}

-- a link sent nothing
pub quiet : (x : Option Talk) → Told x x (Says [])
quiet x = told_self x (Says []) (λ t. record { coming = refl; taken = refl; sent = sym (append-nil t.sent); to = refl })

first_is : (ms : List (List ℕ)) (m : List ℕ) → first_of ms ≡ Some m → ms ≡ m ∷ rest_of ms
first_is [] m h = cc
first_is (b ∷ bs) m h = cc

-- a front, and one more
said_more : (front : List (List ℕ)) (m : List ℕ) (x y z : Talk) → Says front x y → SaysOne m y z → Says (front ++ m ∷ []) x z
said_more front m x y z p q = record {
  coming = q.coming ∙ p.coming;
  taken = q.taken ∙ p.taken;
  sent = q.sent ∙ ap (λ l. l ++ m ∷ []) p.sent ∙ append_assoc x.sent front (m ∷ []);
  to = q.to ∙ p.to;
}

pub sending_more : (s t u : State) (m : List ℕ) (x y z : Option Talk) → Sending s t x y → first_of t.out ≡ Some m → u ≡ record t { out = rest_of t.out } → Told y z (SaysOne m) → Sending s u x z
sending_more s t u m x y z h first is_u said =
    subst (λ v. Sending s v x z) (sym is_u)
    (record {
      front = h.front ++ m ∷ [];
      whole = append_assoc h.front (m ∷ []) (rest_of t.out) ∙ ap (λ l. h.front ++ l) (sym (first_is t.out m first)) ∙ h.whole;
      same = h.same;
      said = told_trans x y z (Says h.front) (SaysOne m) (Says (h.front ++ m ∷ [])) (λ a b c p q. said_more h.front m a b c p q) h.said said;
    })
