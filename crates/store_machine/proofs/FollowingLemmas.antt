-- The channels that are followed: in the order of their ids, and followed wherever the subscriptions have them due.
use Rattle.std.specs.Prelude.{ℕ, ℤ, zero, suc, min, ◌≡◌, ◌<◌, ◌&&◌, ◌||◌, nat_le, int_lt, Bool, true, false, List, [], ◌∷◌, Option, Some, None, if◌then◌else◌, length, fold, insert, slice_get, slice_set, refl}
use Rattle.std.specs.List.{AllByRecursion}
use Rattle.std.specs.Ordering.{int_eq}
use Rattle.std.proofs.Common.{ap, sym, ◌∙◌, subst, arith}
use Rattle.std.proofs.lemmas.Bool.Decides.{nat_tests}
use Rattle.std.proofs.lemmas.Int.{ints}
use Rattle.std.proofs.Math.Bool.{or-false}
use Rattle.store_machine.proofs.StandingLemmas.{or_swap}
use Rattle.etp_values.proofs.IntLemmas.{int_eq_is, int_lt_trans}
use Rattle.channel_points.specs.Splits.{RisesBy}
use Rattle.channel_store.specs.declared.change.ChannelChange.{ChannelChange}
use Rattle.channel_store.specs.declared.subscription.Sub.{Sub}
use Rattle.store_machine.specs.declared.news.Followed.{Followed}
use Rattle.store_machine.specs.News.{is_due}
use Rattle.store_machine.specs.Telling.{Follows, below, followed_by, followed_with, from_place, is_followed, same_from}

-- ---- one more subscription, as the code inserts it

-- after those below it: in the place of the one that is its own, or between
abbrev pub put_in : List Followed → ℕ → Sub → Option ℕ → List Followed
put_in fs k s None = insert fs k (from_place s s.from)
put_in fs k s (Some from) = slice_set fs k (from_place s (min from s.from))

in-later : (f : Followed) (fs : List Followed) (k : ℕ) (s : Sub) (o : Option ℕ) → put_in (f ∷ fs) (suc k) s o ≡ f ∷ put_in fs k s o
in-later f fs k s None = refl
in-later f fs k s (Some from) = refl

pub put-is : (fs : List Followed) (s : Sub) → put_in fs (below fs s) s (same_from (slice_get fs (below fs s)) s) ≡ followed_with fs s
put-is [] s = refl
put-is (f ∷ fs) s = by (int_lt f.channel s.channel) (put-is fs s)
  where
    here : (b : Bool) → put_in (f ∷ fs) 0 s (if b then Some f.from else None) ≡ (if b then from_place s (min f.from s.from) ∷ fs else from_place s s.from ∷ f ∷ fs)
    here true = refl
    here false = refl

    by : (b : Bool) → put_in fs (below fs s) s (same_from (slice_get fs (below fs s)) s) ≡ followed_with fs s
        → put_in (f ∷ fs) (if b then suc (below fs s) else 0) s (same_from (slice_get (f ∷ fs) (if b then suc (below fs s) else 0)) s)
        ≡ (if b then f ∷ followed_with fs s else (if int_eq f.channel s.channel then from_place s (min f.from s.from) ∷ fs else from_place s s.from ∷ f ∷ fs))
    by true rest = in-later f fs (below fs s) s (same_from (slice_get fs (below fs s)) s) ∙ ap (λ l. f ∷ l) rest
    by false rest = here (int_eq f.channel s.channel)

-- a place that has something is one of the list
pub place_within : (fs : List Followed) (k from : ℕ) (s : Sub) → Some from ≡ same_from (slice_get fs k) s → k < length fs
place_within [] k from s h = absurd (cc)
place_within (f ∷ fs) zero from s h = omega arith
place_within (f ∷ fs) (suc k) from s h = let rest = place_within fs k from s h in omega (arith, rest)

-- the place was its own, or the next one above it
pub put_same : (fs new : List Followed) (k from : ℕ) (s : Sub) → k ≡ below fs s → Some from ≡ same_from (slice_get fs k) s → new ≡ slice_set fs k (from_place s (min from s.from)) → new ≡ followed_with fs s
put_same fs new k from s at is made =
    made ∙ ap (put_in fs k s) is ∙ ap (λ j. put_in fs j s (same_from (slice_get fs j) s)) at ∙ put-is fs s

pub put_new : (fs new : List Followed) (k : ℕ) (s : Sub) → k ≡ below fs s → None ≡ same_from (slice_get fs k) s → new ≡ insert fs k (from_place s s.from) → new ≡ followed_with fs s
put_new fs new k s at is made =
    made ∙ ap (put_in fs k s) is ∙ ap (λ j. put_in fs j s (same_from (slice_get fs j) s)) at ∙ put-is fs s

-- ---- where they are due

-- a change is at or past the place of a channel's subscription
abbrev is_own : ℤ → ℕ → ChannelChange → Bool
is_own id from c = int_eq id c.channel && nat_le from c.place

regroup : (a b c : Bool) → (a || (b || c)) ≡ ((b || a) || c)
regroup true true c = refl
regroup true false c = refl
regroup false true c = refl
regroup false false c = refl

earlier : (a b p : ℕ) → nat_le (min a b) p ≡ (nat_le b p || nat_le a p)
earlier a b p = grind (arith, nat_tests)

both-same : (same : Bool) (a b p : ℕ) (rest : Bool) → ((same && nat_le (min a b) p) || rest) ≡ ((same && nat_le b p) || ((same && nat_le a p) || rest))
both-same true a b p rest = ap (λ t. t || rest) (earlier a b p) ∙ by (nat_le b p) (nat_le a p)
  where
    by : (x y : Bool) → ((x || y) || rest) ≡ (x || (y || rest))
    by true y = refl
    by false y = refl
both-same false a b p rest = refl

one-more : (fs : List Followed) (s : Sub) (c : ChannelChange) → is_followed (followed_with fs s) c ≡ (is_own s.channel s.from c || is_followed fs c)
one-more [] s c = refl
one-more (f ∷ fs) s c = by (int_lt f.channel s.channel) (one-more fs s c)
  where
    here : (b : Bool) → int_eq f.channel s.channel ≡ b
        → is_followed (if b then from_place s (min f.from s.from) ∷ fs else from_place s s.from ∷ f ∷ fs) c ≡ (is_own s.channel s.from c || is_followed (f ∷ fs) c)
    here true e =
        both-same (int_eq s.channel c.channel) f.from s.from c.place (is_followed fs c)
        ∙ ap (λ i. is_own s.channel s.from c || (is_own i f.from c || is_followed fs c)) (sym (int_eq_is f.channel s.channel e))
    here false e = refl

    by : (b : Bool) → is_followed (followed_with fs s) c ≡ (is_own s.channel s.from c || is_followed fs c)
        → is_followed (if b then f ∷ followed_with fs s else (if int_eq f.channel s.channel then from_place s (min f.from s.from) ∷ fs else from_place s s.from ∷ f ∷ fs)) c
        ≡ (is_own s.channel s.from c || is_followed (f ∷ fs) c)
    by true rest = ap (λ t. is_own f.channel f.from c || t) rest ∙ or_swap (is_own f.channel f.from c) (is_own s.channel s.from c) (is_followed fs c)
    by false rest = here (int_eq f.channel s.channel) refl

all-due : (subs : List Sub) (fs : List Followed) (c : ChannelChange) → is_followed (fold followed_with fs subs) c ≡ (is_due subs c || is_followed fs c)
all-due [] fs c = refl
all-due (s ∷ ss) fs c =
    all-due ss (followed_with fs s) c ∙ ap (λ t. is_due ss c || t) (one-more fs s c)
    ∙ regroup (is_due ss c) (is_own s.channel s.from c) (is_followed fs c)

-- ---- their order

-- all channels are above an id
Above : ℤ → List Followed → Type 0
Above id fs = AllByRecursion (λ (f : Followed). int_lt id f.channel ≡ true) fs

abbrev Rise : List Followed → Type 0
Rise fs = RisesBy (λ (f g : Followed). int_lt f.channel g.channel ≡ true) fs

still-above : (i j : ℤ) (fs : List Followed) → int_lt i j ≡ true → Above j fs → Above i fs
unfolding Above
still-above i j [] h above = tt
still-above i j (f ∷ fs) h above = (int_lt_trans i j f.channel h above.0, still-above i j fs h above.1)

put-above : (i : ℤ) (fs : List Followed) (s : Sub) → int_lt i s.channel ≡ true → Above i fs → Above i (followed_with fs s)
unfolding Above
put-above i [] s h above = (h, tt)
put-above i (f ∷ fs) s h above = by (int_lt f.channel s.channel) (int_eq f.channel s.channel) (put-above i fs s h above.1)
  where
    by : (b e : Bool) → AllByRecursion (λ (g : Followed). int_lt i g.channel ≡ true) (followed_with fs s)
        → AllByRecursion (λ (g : Followed). int_lt i g.channel ≡ true) (if b then f ∷ followed_with fs s else (if e then from_place s (min f.from s.from) ∷ fs else from_place s s.from ∷ f ∷ fs))
    by true e rest = (above.0, rest)
    by false true rest = (h, above.1)
    by false false rest = (h, above)

between : (i j : ℤ) → int_lt i j ≡ false → int_eq i j ≡ false → int_lt j i ≡ true
between i j h e = grind (arith, ints, h, e)

put-rises : (fs : List Followed) (s : Sub) → Rise fs → Rise (followed_with fs s)
unfolding Above
put-rises [] s rise = (tt, tt)
put-rises (f ∷ fs) s rise = by (int_lt f.channel s.channel) (int_eq f.channel s.channel) refl refl (put-rises fs s rise.1)
  where
    by : (b e : Bool) → int_lt f.channel s.channel ≡ b → int_eq f.channel s.channel ≡ e → Rise (followed_with fs s)
        → Rise (if b then f ∷ followed_with fs s else (if e then from_place s (min f.from s.from) ∷ fs else from_place s s.from ∷ f ∷ fs))
    by true e lt eq rest = (put-above f.channel fs s lt rise.0, rest)
    by false true lt eq rest = (subst (λ i. Above i fs) (int_eq_is f.channel s.channel eq) rise.0, rise.1)
    by false false lt eq rest =
        let low = between f.channel s.channel lt eq in
        ((low, still-above s.channel f.channel fs low rise.0), rise)

all-rise : (subs : List Sub) (fs : List Followed) → Rise fs → Rise (fold followed_with fs subs)
all-rise [] fs rise = rise
all-rise (s ∷ ss) fs rise = all-rise ss (followed_with fs s) (put-rises fs s rise)

pub follows : (subs : List Sub) → Follows subs (followed_by subs)
follows subs = record {
  rise = all-rise subs [] tt;
  same = λ c. all-due subs [] c ∙ or-false (is_due subs c);
}
