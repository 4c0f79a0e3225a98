-- The subscription of a channel in a list that changed; for the crates above too.
use Rattle.std.proofs.Common.{◌≡◌, ℤ, Bool, true, false, cond, not, List, [], ◌∷◌, ◌++◌, Option, Some, None, is_some, ap, sym, ◌∙◌, refl, arith}
use Rattle.std.specs.Ordering.{int_eq}
use Rattle.std.proofs.lemmas.Int.{ints}
use Rattle.std.proofs.lemmas.Option.{none-some}
use Rattle.std.proofs.lemmas.Bool.{false≢true}
use Rattle.channel_store.specs.declared.subscription.Sub.{Sub}
use Rattle.subscribe_core.specs.Views.{sub_of}
use Rattle.subscribe_core.specs.Subscriptions.{has_sub, others}
use Rattle.subscribe_core.specs.Calls.{AreApart}

apart_from : (a b k : ℤ) → int_eq a b ≡ true → int_eq b k ≡ false → int_eq a k ≡ false
apart_from a b k h n = grind (arith, ints)

-- one more: what was found is found
pub found-push : (k : ℤ) (xs : List Sub) (s x : Sub) → sub_of k xs ≡ Some x → sub_of k (xs ++ s ∷ []) ≡ Some x
found-push k [] s x h = absurd (none-some x h)
found-push k (y ∷ ys) s x h = by (int_eq y.channel k) (found-push k ys s x) h
  where
    by : (b : Bool) → (sub_of k ys ≡ Some x → sub_of k (ys ++ s ∷ []) ≡ Some x) → cond b (Some y) (sub_of k ys) ≡ Some x → cond b (Some y) (sub_of k (ys ++ s ∷ [])) ≡ Some x
    by true rest h = h
    by false rest h = rest h

-- one more of another channel: what was not found is not found
pub absent-push : (k : ℤ) (xs : List Sub) (s : Sub) → int_eq s.channel k ≡ false → sub_of k xs ≡ None → sub_of k (xs ++ s ∷ []) ≡ None
absent-push k [] s n h = ap (λ b. cond b (Some s) None) n
absent-push k (y ∷ ys) s n h = by (int_eq y.channel k) (absent-push k ys s n) h
  where
    by : (b : Bool) → (sub_of k ys ≡ None → sub_of k (ys ++ s ∷ []) ≡ None) → cond b (Some y) (sub_of k ys) ≡ None → cond b (Some y) (sub_of k (ys ++ s ∷ [])) ≡ None
    by true rest h = h
    by false rest h = rest h

-- without the subscription of another channel
pub found-others : (k c : ℤ) → int_eq c k ≡ false → (xs : List Sub) → sub_of k (others c xs) ≡ sub_of k xs
found-others k c n [] = refl
found-others k c n (y ∷ ys) = by (int_eq y.channel c) refl (found-others k c n ys)
  where
    by : (b : Bool) → int_eq y.channel c ≡ b → sub_of k (others c ys) ≡ sub_of k ys
        → sub_of k (cond (not b) (y ∷ others c ys) (others c ys)) ≡ cond (int_eq y.channel k) (Some y) (sub_of k ys)
    by true e rest = rest ∙ sym (ap (λ b. cond b (Some y) (sub_of k ys)) (apart_from y.channel c k e n))
    by false e rest = ap (λ o. cond (int_eq y.channel k) (Some y) o) rest

-- without any: what was not found is not found
pub absent-others : (k c : ℤ) (xs : List Sub) → sub_of k xs ≡ None → sub_of k (others c xs) ≡ None
absent-others k c [] h = h
absent-others k c (y ∷ ys) h = by (int_eq y.channel k) (int_eq y.channel c) refl (absent-others k c ys) h
  where
    by : (b d : Bool) → int_eq y.channel k ≡ b → (sub_of k ys ≡ None → sub_of k (others c ys) ≡ None) → cond b (Some y) (sub_of k ys) ≡ None
        → sub_of k (cond (not d) (y ∷ others c ys) (others c ys)) ≡ None
    by true d e rest h = absurd (none-some y (sym h))
    by false true e rest h = rest h
    by false false e rest h = ap (λ b. cond b (Some y) (sub_of k (others c ys))) e ∙ rest h

-- ---- at most one of a channel

pub absent-has : (k : ℤ) (xs : List Sub) → has_sub k xs ≡ false → sub_of k xs ≡ None
absent-has k xs h = by (sub_of k xs) h
  where
    by : (o : Option Sub) → is_some o ≡ false → o ≡ None
    by None h = refl
    by (Some x) h = absurd (false≢true (sym h))

pub has-absent : (k : ℤ) (xs : List Sub) → sub_of k xs ≡ None → has_sub k xs ≡ false
has-absent k xs h = ap is_some h

pub apart-others : (c : ℤ) (xs : List Sub) → AreApart xs → AreApart (others c xs)
apart-others c [] a = tt
apart-others c (y ∷ ys) a = by (int_eq y.channel c) (apart-others c ys a.1)
  where
    by : (b : Bool) → AreApart (others c ys) → AreApart (cond (not b) (y ∷ others c ys) (others c ys))
    by true rest = rest
    by false rest = (has-absent y.channel (others c ys) (absent-others y.channel c ys (absent-has y.channel ys a.0)), rest)

pub other_way : (a b : ℤ) → int_eq a b ≡ false → int_eq b a ≡ false
other_way a b h = grind (arith, ints)

pub apart-push : (xs : List Sub) (s : Sub) → sub_of s.channel xs ≡ None → AreApart xs → AreApart (xs ++ s ∷ [])
apart-push [] s h a = (refl, tt)
apart-push (y ∷ ys) s h a = by (int_eq y.channel s.channel) refl h (λ k. apart-push ys s k a.1)
  where
    by : (b : Bool) → int_eq y.channel s.channel ≡ b → cond b (Some y) (sub_of s.channel ys) ≡ None → (sub_of s.channel ys ≡ None → AreApart (ys ++ s ∷ []))
        → AreApart (y ∷ (ys ++ s ∷ []))
    by true e h rest = absurd (none-some y (sym h))
    by false e h rest =
        (has-absent y.channel (ys ++ s ∷ []) (absent-push y.channel ys s (other_way y.channel s.channel e) (absent-has y.channel ys a.0)), rest h)
