-- What came and went over a link, put together.
use Rattle.std.proofs.Common.{◌≡◌, ℕ, ℤ, List, [], ◌∷◌, ◌++◌, refl, ap, sym, ◌∙◌, append_assoc}
use Rattle.std.proofs.lemmas.List.{append-nil}
use Rattle.std.specs.declared.option.Option.{Option}
use Rattle.etp_outside.specs.Told.{Told}
use Rattle.etp_outside.specs.Talk.{Talk, Takes, Says}
use Rattle.etp_outside.specs.declared.link.Item.{Item}
use Rattle.etp_outside.proofs.ToldLemmas.{told_weaker, told_trans, told_self}
use Rattle.etp_serve.specs.Talks.{Talked}

pub talked_none : (x : Talk) → Talked [] [] x x
talked_none x = record { coming = refl; taken = sym (append-nil x.taken); sent = sym (append-nil x.sent); to = refl }

pub talked_both : (i j : List Item) (m k : List (List ℕ)) (x y z : Talk) → Talked i m x y → Talked j k y z → Talked (i ++ j) (m ++ k) x z
talked_both i j m k x y z p q = record {
  coming = p.coming ∙ (ap (λ l. i ++ l) q.coming ∙ sym (append_assoc i j z.coming));
  taken = q.taken ∙ (ap (λ l. l ++ j) p.taken ∙ append_assoc x.taken i j);
  sent = q.sent ∙ (ap (λ l. l ++ k) p.sent ∙ append_assoc x.sent m k);
  to = q.to ∙ p.to;
}

pub talked_takes : (item : Item) (x y : Talk) → Takes item x y → Talked (item ∷ []) [] x y
talked_takes item x y t = record { coming = t.coming; taken = t.taken; sent = t.sent ∙ sym (append-nil x.sent); to = t.to }

pub talked_says : (message : List ℕ) (x y : Talk) → Says message x y → Talked [] (message ∷ []) x y
talked_says message x y s = record { coming = sym s.coming; taken = s.taken ∙ sym (append-nil x.taken); sent = s.sent; to = s.to }

pub told_none : (a : Option Talk) → Told a a (Talked [] [])
told_none a = told_self a (Talked [] []) talked_none

pub told_both : (i j : List Item) (m k : List (List ℕ)) (a b c : Option Talk) → Told a b (Talked i m) → Told b c (Talked j k) → Told a c (Talked (i ++ j) (m ++ k))
told_both i j m k a b c p q = told_trans a b c (Talked i m) (Talked j k) (Talked (i ++ j) (m ++ k)) (λ x y z f g. talked_both i j m k x y z f g) p q

-- the link reveals nothing new
pub told_same : (i : List Item) (m : List (List ℕ)) (a b c : Option Talk) → Told a b (Talked i m) → Told b c (λ x y. y ≡ x) → Told a c (Talked i m)
told_same i m a b c p q = told_trans a b c (Talked i m) (λ x y. y ≡ x) (Talked i m) (λ x y z f g. record {
  coming = f.coming ∙ ap (λ (k : Talk). i ++ k.coming) (sym g);
  taken = ap (λ (k : Talk). k.taken) g ∙ f.taken;
  sent = ap (λ (k : Talk). k.sent) g ∙ f.sent;
  to = ap (λ (k : Talk). k.to) g ∙ f.to;
}) p q

-- an item was taken
pub told_takes : (i : List Item) (m : List (List ℕ)) (item : Item) (a b c : Option Talk) → Told a b (Talked i m) → Told b c (Takes item) → Told a c (Talked (i ++ item ∷ []) m)
told_takes i m item a b c p q =
    told_weaker a c (Talked (i ++ item ∷ []) (m ++ [])) (Talked (i ++ item ∷ []) m)
    (λ x y t. record { coming = t.coming; taken = t.taken; sent = t.sent ∙ ap (λ l. x.sent ++ l) (append-nil m); to = t.to })
    (told_both i (item ∷ []) m [] a b c p (told_weaker b c (Takes item) (Talked (item ∷ []) []) (talked_takes item) q))

-- messages were sent
pub told_sends : (i : List Item) (m k : List (List ℕ)) (a b c : Option Talk) → Told a b (Talked i m) → Told b c (Talked [] k) → Told a c (Talked i (m ++ k))
told_sends i m k a b c p q =
    told_weaker a c (Talked (i ++ []) (m ++ k)) (Talked i (m ++ k))
    (λ x y t. record { coming = t.coming ∙ ap (λ l. l ++ y.coming) (append-nil i); taken = t.taken ∙ ap (λ l. x.taken ++ l) (append-nil i); sent = t.sent; to = t.to })
    (told_both i [] m k a b c p q)

-- one more message
pub told_says : (m : List (List ℕ)) (message : List ℕ) (a b c : Option Talk) → Told a b (Talked [] m) → Told b c (Says message) → Told a c (Talked [] (m ++ message ∷ []))
told_says m message a b c p q = told_sends [] m (message ∷ []) a b c p (told_weaker b c (Says message) (Talked [] (message ∷ [])) (talked_says message) q)

-- one more moment
pub told_ticks : (ms : List ℤ) (m : ℤ) (a b c : Option (List ℤ)) → Told a b (λ x y. y ≡ x ++ ms) → Told b c (λ x y. y ≡ x ++ m ∷ []) → Told a c (λ x y. y ≡ x ++ (ms ++ m ∷ []))
told_ticks ms m a b c p q = told_trans a b c (λ x y. y ≡ x ++ ms) (λ x y. y ≡ x ++ m ∷ []) (λ x y. y ≡ x ++ (ms ++ m ∷ [])) (λ x y z f g. g ∙ (ap (λ l. l ++ m ∷ []) f ∙ append_assoc x ms (m ∷ []))) p q
