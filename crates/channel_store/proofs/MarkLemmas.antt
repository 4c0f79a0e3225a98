-- The marks of a channel's changes.
use Rattle.std.proofs.Common.{refl, ℕ, zero, suc, ◌≡◌, ◌<◌, ◌≤◌, ◌+◌, ◌-◌, max, Bool, true, false, cond, List, [], ◌∷◌, length, drop, get_or, ap, sym, ◌∙◌, subst, arith, Option, Some, None, is_some}
use Rattle.std.specs.Prelude.{ℤ, find, slice_get, slice_set, nat_le, nat_lt, ◌==◌, ◌&&◌, ◌||◌}
use Rattle.std.specs.List.{AllByRecursion}
use Rattle.std.specs.List.Sorted.{IsPartitionPoint}
use Rattle.std.proofs.lemmas.Bool.{false≢true}
use Rattle.std.proofs.lemmas.Bool.Decides.{nat_tests}
use Rattle.std.proofs.lemmas.Option.{get_or_from_slice_get, slice_get_within}
use Rattle.std.proofs.Math.Bool.{or-true}
use Rattle.channel_store.specs.declared.change.ChannelChange.{ChannelChange}
use Rattle.channel_store.specs.Channels.{PlacesRise}
use Rattle.channel_store.specs.Marks.{marked}
use Rattle.channel_store.specs.Rows.{Row}
use Rattle.channel_store.specs.Store.{changes_at, changes_in}
use Rattle.channel_store.specs.Sweeps.{row_at, shown_in, shown_of}
use Rattle.channel_store.proofs.ChangeLemmas.{none_later}
use Rattle.channel_store.proofs.LookLemmas.{channel_at-shown}
use Rattle.channel_store.proofs.RowLemmas.{drop-end, drop-here}

or-none : (b a : Bool) → (b || (a && false)) ≡ b
or-none true a = refl
or-none false true = refl
or-none false false = refl

-- no changes set no marks
marked-nothing : (from first : ℕ) (ms : List Bool) → ms ≡ marked from first [] ms
marked-nothing from first [] = refl
marked-nothing from first (b ∷ bs) = (λ j. sym (or-none b (nat_le from first)) j ∷ marked-nothing from (first + 1) bs j)

-- ---- a change before the marks, or before the first place that counts

below-next : (from first place : ℕ) → nat_lt place (max from first) ≡ true → nat_lt place (max from (first + 1)) ≡ true
below-next from first place h = grind (arith, nat_tests, h)

not-yet : (from first place : ℕ) → nat_lt place (max from first) ≡ true → (place == first) ≡ true → nat_le from first ≡ false
not-yet from first place h e = grind (arith, nat_tests, h, e)

unmarked-one : (from first : ℕ) (x : ChannelChange) (xs : List ChannelChange) (ms : List Bool) → nat_lt x.place (max from first) ≡ true → marked from first (x ∷ xs) ms ≡ marked from first xs ms
unmarked-one from first x xs [] h = refl
unmarked-one from first x xs (b ∷ bs) h = (λ j. by (x.place == first) refl j ∷ unmarked-one from (first + 1) x xs bs (below-next from first x.place h) j)
  where
    by : (e : Bool) → (x.place == first) ≡ e
        → (b || (nat_le from first && is_some (find (λ (y : ChannelChange). y.place == first) (x ∷ xs)))) ≡ (b || (nat_le from first && is_some (find (λ (y : ChannelChange). y.place == first) xs)))
    by true e =
        let low : nat_le from first ≡ false = not-yet from first x.place h e in
        ap (λ t. b || (t && is_some (find (λ (y : ChannelChange). y.place == first) (x ∷ xs)))) low
        ∙ sym (ap (λ t. b || (t && is_some (find (λ (y : ChannelChange). y.place == first) xs))) low)
    by false e = ap (λ t. b || (nat_le from first && is_some (cond t (Some x) (find (λ (y : ChannelChange). y.place == first) xs)))) e

unmarked : (from first : ℕ) (xs : List ChannelChange) (count : ℕ) (ms : List Bool) → ((k : ℕ) (d : ChannelChange) → k < count → k < length xs → nat_lt (get_or xs k d).place (max from first) ≡ true)
    → marked from first (drop count xs) ms ≡ marked from first xs ms
unmarked from first [] zero ms h = refl
unmarked from first [] (suc count) ms h = refl
unmarked from first (x ∷ xs) zero ms h = refl
unmarked from first (x ∷ xs) (suc count) ms h =
    unmarked from first xs count ms (λ k d low within. h (suc k) d (omega arith) (omega arith))
    ∙ sym (unmarked-one from first x xs ms (h zero x (omega arith) (omega arith)))

-- what comes before the first place that counts sets no marks
pub marked-first : (from first low : ℕ) (xs : List ChannelChange) (count : ℕ) (ms : List Bool) → low ≡ max from first
    → IsPartitionPoint (λ x. nat_lt x.place low ≡ true) (λ x. nat_lt x.place low ≡ false) xs count → marked from first (drop count xs) ms ≡ marked from first xs ms
marked-first from first low xs count ms is point =
    unmarked from first xs count ms (λ k d few within. subst (λ l. nat_lt (get_or xs k d).place l ≡ true) is (point.0 k d (omega arith) few))

-- ---- one change, whose mark is set

here : (from first place : ℕ) → from ≤ place → place ≡ first + 0 → (nat_le from first && (place == first)) ≡ true
here from first place h e = grind (arith, nat_tests, h, e)

later : (first k place : ℕ) → place ≡ first + suc k → (place == first) ≡ false
later first k place e = grind (arith, nat_tests, e)

passed : (from first place : ℕ) → place ≡ first + 0 → nat_lt place (max from (first + 1)) ≡ true
passed from first place e = grind (arith, nat_tests, e)

both : (b a t : Bool) (x : ChannelChange) (o : Option ChannelChange) → (a && t) ≡ true → (b || (a && is_some (cond t (Some x) o))) ≡ true
both b true true x o h = or-true b
both b true false x o h = ap (λ t. b || (true && is_some (cond t (Some x) o))) h ∙ or-true b
both b false t x o h = ap (λ a. b || a) h ∙ or-true b

marked-one : (from first : ℕ) (x : ChannelChange) (xs : List ChannelChange) (ms : List Bool) (k : ℕ) → from ≤ x.place → x.place ≡ first + k
    → marked from first (x ∷ xs) ms ≡ marked from first xs (slice_set ms k true)
marked-one from first x xs [] k h e = refl
marked-one from first x xs (b ∷ bs) zero h e =
    (λ j. both b (nat_le from first) (x.place == first) x (find (λ (y : ChannelChange). y.place == first) xs) (here from first x.place h e) j
    ∷ unmarked-one from (first + 1) x xs bs (passed from first x.place e) j)
marked-one from first x xs (b ∷ bs) (suc k) h e =
    (λ j. (b || (nat_le from first && is_some (cond (later first k x.place e j) (Some x) (find (λ (y : ChannelChange). y.place == first) xs))))
    ∷ marked-one from (first + 1) x xs bs k h (omega (arith, e)) j)

-- ---- a change past the marks

past : (first place more : ℕ) → first + suc more ≤ place → (place == first) ≡ false
past first place more h = grind (arith, nat_tests, h)

not-before : (first place more : ℕ) → first + suc more ≤ place → nat_lt place first ≡ false
not-before first place more h = grind (arith, nat_tests, h)

marked-past : (from first : ℕ) (x : ChannelChange) (xs : List ChannelChange) (ms : List Bool) → first + length ms ≤ x.place → AllByRecursion (λ y. x.place < y.place) xs → marked from first (x ∷ xs) ms ≡ ms
marked-past from first x xs [] h all = refl
marked-past from first x xs (b ∷ bs) h all =
    (λ j. (b || (nat_le from first && is_some (cond (past first x.place (length bs) h j) (Some x) (none_later first x xs (not-before first x.place (length bs) h) all j))))
    ∷ marked-past from (first + 1) x xs bs (omega (arith, h)) all j)
    ∙ ap (λ t. t ∷ bs) (or-none b (nat_le from first))

-- ---- change by change

rises-drop : (xs : List ChannelChange) (n : ℕ) → PlacesRise xs → PlacesRise (drop n xs)
rises-drop [] zero rises = rises
rises-drop [] (suc n) rises = rises
rises-drop (x ∷ xs) zero rises = rises
rises-drop (x ∷ xs) (suc n) rises = rises-drop xs n rises.1

front : (xs : List ChannelChange) (n : ℕ) (x : ChannelChange) → slice_get xs n ≡ Some x → drop n xs ≡ x ∷ drop (n + 1) xs
front xs n x some = drop-here xs n x (slice_get_within xs n x some) (sym (get_or_from_slice_get xs n x x some))

apart : (first place : ℕ) → first ≤ place → place ≡ first + (place - first)
apart first place h = omega (arith, h)

-- a change after those before the first place that counts
pub at-or-past : (from first low : ℕ) (xs : List ChannelChange) (count n : ℕ) (x : ChannelChange) → low ≡ max from first
    → IsPartitionPoint (λ y. nat_lt y.place low ≡ true) (λ y. nat_lt y.place low ≡ false) xs count → count ≤ n → slice_get xs n ≡ Some x → (from ≤ x.place) × (first ≤ x.place)
at-or-past from first low xs count n x is point behind some =
    let h : nat_lt x.place low ≡ false = subst (λ (y : ChannelChange). nat_lt y.place low ≡ false) (get_or_from_slice_get xs n x x some) (point.1 n x behind (slice_get_within xs n x some)) in
    (reach from (max from first) low x.place is h (omega arith), reach first (max from first) low x.place is h (omega arith))
  where
    reach : (a m l place : ℕ) → l ≡ m → nat_lt place l ≡ false → a ≤ m → a ≤ place
    reach a m l place e h le = grind (arith, nat_tests, e, h, le)

-- the mark of the change of this number is set
pub marked-next : (from first : ℕ) (xs : List ChannelChange) (n : ℕ) (x : ChannelChange) (ms : List Bool) → slice_get xs n ≡ Some x → from ≤ x.place → first ≤ x.place
    → marked from first (drop (n + 1) xs) (slice_set ms (x.place - first) true) ≡ marked from first (drop n xs) ms
marked-next from first xs n x ms some from_it first_it =
    sym (ap (λ l. marked from first l ms) (front xs n x some) ∙ marked-one from first x (drop (n + 1) xs) ms (x.place - first) from_it (apart first x.place first_it))

-- it is past the marks
pub marked-stop : (from first : ℕ) (xs : List ChannelChange) (n : ℕ) (x : ChannelChange) (ms : List Bool) → PlacesRise xs → slice_get xs n ≡ Some x → first ≤ x.place → length ms ≤ x.place - first
    → ms ≡ marked from first (drop n xs) ms
marked-stop from first xs n x ms rises some first_it beyond =
    let rest : PlacesRise (x ∷ drop (n + 1) xs) = subst PlacesRise (front xs n x some) (rises-drop xs n rises) in
    sym (ap (λ l. marked from first l ms) (front xs n x some) ∙ marked-past from first x (drop (n + 1) xs) ms (omega (arith, first_it, beyond)) rest.0)

none-left : (xs : List ChannelChange) (n : ℕ) → slice_get xs n ≡ None → drop n xs ≡ []
none-left [] zero h = refl
none-left [] (suc n) h = refl
none-left (x ∷ xs) zero h = absurd (false≢true (sym (ap is_some h)))
none-left (x ∷ xs) (suc n) h = none-left xs n h

-- there is no change of this number
pub marked-none : (from first : ℕ) (xs : List ChannelChange) (n : ℕ) (ms : List Bool) → slice_get xs n ≡ None → ms ≡ marked from first (drop n xs) ms
marked-none from first xs n ms none = marked-nothing from first ms ∙ ap (λ l. marked from first l ms) (sym (none-left xs n none))

-- no change is left
pub marked-end : (from first : ℕ) (xs : List ChannelChange) (n : ℕ) (ms : List Bool) → length xs ≤ n → ms ≡ marked from first (drop n xs) ms
marked-end from first xs n ms h = marked-nothing from first ms ∙ ap (λ l. marked from first l ms) (sym (drop-end xs n h))

-- ---- the channel of an id

changes-of : (rows : List Row) (id : ℤ) (o : Option Row) → row_at rows id ≡ o → changes_at (shown_of rows) id ≡ changes_in (shown_in o)
changes-of rows id o h = ap changes_in (channel_at-shown rows id ∙ ap shown_in h)

pub marked-absent : (rows : List Row) (id : ℤ) (from first : ℕ) (ms : List Bool) → row_at rows id ≡ None → ms ≡ marked from first (changes_at (shown_of rows) id) ms
marked-absent rows id from first ms h = marked-nothing from first ms ∙ ap (λ l. marked from first l ms) (sym (changes-of rows id None h))

pub marked-there : (rows : List Row) (id : ℤ) (from first : ℕ) (ms new : List Bool) (r : Row) → row_at rows id ≡ Some r → new ≡ marked from first r.shown.changes ms → new ≡ marked from first (changes_at (shown_of rows) id) ms
marked-there rows id from first ms new r h is = is ∙ ap (λ l. marked from first l ms) (sym (changes-of rows id (Some r) h))
