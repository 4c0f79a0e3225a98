-- The change at a place.
use Rattle.std.proofs.Common.{refl, ℕ, zero, suc, ◌≡◌, ◌<◌, ◌≤◌, ◌+◌, Bool, true, false, cond, List, [], ◌∷◌, length, get_or, ap, sym, ◌∙◌, arith, Option, Some, None}
use Rattle.std.specs.Prelude.{find, slice_get, nat_le, nat_lt, ◌==◌}
use Rattle.std.specs.List.{AllByRecursion}
use Rattle.std.specs.List.Sorted.{IsPartitionPoint}
use Rattle.std.proofs.lemmas.Bool.{false≢true}
use Rattle.std.proofs.lemmas.Bool.Decides.{nat_tests}
use Rattle.std.proofs.lemmas.Option.{slice_get-get_or}
use Rattle.channel_points.proofs.OrderedLemmas.{partitioned}
use Rattle.channel_store.specs.declared.change.ChannelChange.{ChannelChange}
use Rattle.channel_store.specs.Channels.{PlacesRise}
use Rattle.channel_store.specs.Told.{stands_before}

pub lt_before : (place x y : ℕ) → x < y → nat_lt y place ≡ true → nat_lt x place ≡ true
lt_before place x y h k = grind (arith, nat_tests)

differs_below : (place x : ℕ) → nat_lt x place ≡ true → (x == place) ≡ false
differs_below place x h = grind (arith, nat_tests)

differs_after : (place x y : ℕ) → nat_lt x place ≡ false → x < y → (y == place) ≡ false
differs_after place x y h k = grind (arith, nat_tests)

pub none_later : (place : ℕ) (x : ChannelChange) (xs : List ChannelChange) → nat_lt x.place place ≡ false → AllByRecursion (λ y. x.place < y.place) xs → find (λ y. y.place == place) xs ≡ None
none_later place x [] h all = refl
none_later place x (y ∷ ys) h all = ap (λ b. cond b (Some y) (find (λ z. z.place == place) ys)) (differs_after place x.place y.place h all.0) ∙ none_later place x ys h all.1

-- this change, if it is at the place
abbrev pub if_at : ℕ → Option ChannelChange → Option ChannelChange
if_at place None = None
if_at place (Some x) = cond (x.place == place) (Some x) None

pub find-point : (place : ℕ) (xs : List ChannelChange) (count : ℕ) → PlacesRise xs → count ≤ length xs → IsPartitionPoint (λ x. nat_lt x.place place ≡ true) (λ x. nat_lt x.place place ≡ false) xs count
    → find (λ x. x.place == place) xs ≡ if_at place (slice_get xs count)
find-point place [] count rises within point = refl
find-point place (x ∷ xs) zero rises within point = ap (cond (x.place == place) (Some x)) (none_later place x xs (point.1 zero x (omega arith) (omega arith)) rises.0)
find-point place (x ∷ xs) (suc count) rises within point =
    ap (λ b. cond b (Some x) (find (λ y. y.place == place) xs)) (differs_below place x.place (point.0 zero x (omega arith) (omega arith)))
    ∙ find-point place xs count rises.1 (omega arith) ((λ k d low high. point.0 (suc k) d (omega arith) (omega arith)), (λ k d low high. point.1 (suc k) d (omega arith) (omega arith)))

pub if_at-same : (place : ℕ) (x : ChannelChange) → x.place ≡ place → if_at place (Some x) ≡ Some x
if_at-same place x h =
    let e : (x.place == place) ≡ true = grind (arith, nat_tests) in
    ap (λ b. cond b (Some x) None) e

pub if_at-other : (place : ℕ) (x : ChannelChange) → (x.place ≡ place → ⊥) → if_at place (Some x) ≡ None
if_at-other place x h =
    let e : (x.place == place) ≡ false = grind (arith, nat_tests) in
    ap (λ b. cond b (Some x) None) e

-- the first change at or past the place
pub find-next : (place : ℕ) (xs : List ChannelChange) (count : ℕ) → IsPartitionPoint (λ x. nat_lt x.place place ≡ true) (λ x. nat_lt x.place place ≡ false) xs count → find (λ x. nat_le place x.place) xs ≡ slice_get xs count
find-next place [] count point = refl
find-next place (x ∷ xs) zero point =
    let behind : nat_lt x.place place ≡ false = point.1 zero x (omega arith) (omega arith) in
    let here : nat_le place x.place ≡ true = grind (arith, nat_tests) in
    ap (λ b. cond b (Some x) (find (λ y. nat_le place y.place) xs)) here
find-next place (x ∷ xs) (suc count) point =
    let before : nat_lt x.place place ≡ true = point.0 zero x (omega arith) (omega arith) in
    let later : nat_le place x.place ≡ false = grind (arith, nat_tests) in
    ap (λ b. cond b (Some x) (find (λ y. nat_le place y.place) xs)) later
    ∙ find-next place xs count ((λ k d low high. point.0 (suc k) d (omega arith) (omega arith)), (λ k d low high. point.1 (suc k) d (omega arith) (omega arith)))

-- ---- bisection

at-place : (place : ℕ) (xs : List ChannelChange) (k : ℕ) (d : ChannelChange) → k < length xs → stands_before place (slice_get xs k) ≡ nat_lt (get_or xs k d).place place
at-place place xs k d h = ap (stands_before place) (slice_get-get_or xs k d h)

pub before-middle : (place : ℕ) (xs : List ChannelChange) (middle : ℕ) → PlacesRise xs → middle < length xs → stands_before place (slice_get xs middle) ≡ true
    → (k : ℕ) (d : ChannelChange) → k < middle + 1 → nat_lt (get_or xs k d).place place ≡ true
before-middle place xs middle rises within h k d below =
    partitioned _ (λ x. nat_lt x.place place) (λ x y g l. lt_before place x.place y.place g l) xs rises k middle d (omega arith) within (sym (at-place place xs middle d within) ∙ h)

pub behind-middle : (place : ℕ) (xs : List ChannelChange) (middle : ℕ) → PlacesRise xs → stands_before place (slice_get xs middle) ≡ false
    → (k : ℕ) (d : ChannelChange) → middle ≤ k → k < length xs → nat_lt (get_or xs k d).place place ≡ false
behind-middle place xs middle rises h k d above within = by (nat_lt (get_or xs k d).place place) refl
  where
    by : (b : Bool) → nat_lt (get_or xs k d).place place ≡ b → nat_lt (get_or xs k d).place place ≡ false
    by false e = e
    by true e =
        let here : middle < length xs = omega arith in
        let first : nat_lt (get_or xs middle d).place place ≡ true = partitioned _ (λ x. nat_lt x.place place) (λ x y g l. lt_before place x.place y.place g l) xs rises middle k d above within e in
        absurd (false≢true (sym h ∙ at-place place xs middle d here ∙ first))
