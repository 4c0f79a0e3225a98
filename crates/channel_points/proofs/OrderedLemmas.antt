-- Lists in order, and where a test splits them: for this crate and those above it.
use Rattle.std.proofs.Common.{refl, ℕ, zero, suc, ◌≡◌, ◌<◌, ◌≤◌, Bool, true, false, cond, not, List, [], ◌∷◌, ◌++◌, length, filter, get_or, ap, sym, ◌∙◌, arith}
use Rattle.std.specs.List.{AllByRecursion}
use Rattle.std.specs.List.Sorted.{IsPartitionedBy, IsPartitionPoint}
use Rattle.etp_values.proofs.EachLemmas.{all-append, all-push, all-weaker}
use Rattle.channel_points.specs.Splits.{RisesBy, IsSplit}

-- ---- what holds for all items

pub all-at : {X : Type 0} (P : X → Type 0) (xs : List X) (k : ℕ) (d : X) → AllByRecursion P xs → k < length xs → P (get_or xs k d)
all-at P [] k d all within = absurd (omega arith)
all-at P (x ∷ xs) zero d all within = all.0
all-at P (x ∷ xs) (suc k) d all within = all-at P xs k d all.1 (omega arith)

pub all-from : {X : Type 0} (P : X → Type 0) (xs : List X) → ((k : ℕ) (d : X) → k < length xs → P (get_or xs k d)) → AllByRecursion P xs
all-from P [] h = tt
all-from P (x ∷ xs) h = (h zero x (omega arith), all-from P xs (λ k d l. h (suc k) d (omega arith)))

all-cond : {X : Type 0} (P : X → Type 0) (b : Bool) (x : X) (xs : List X) → P x → AllByRecursion P xs → AllByRecursion P (cond b (x ∷ xs) xs)
all-cond P true x xs h all = (h, all)
all-cond P false x xs h all = all

pub all-filter : {X : Type 0} (P : X → Type 0) (p : X → Bool) (xs : List X) → AllByRecursion P xs → AllByRecursion P (filter p xs)
all-filter P p [] all = tt
all-filter P p (x ∷ xs) all = all-cond P (p x) x (filter p xs) all.0 (all-filter P p xs all.1)

pub filter-all : {X : Type 0} (p : X → Bool) (xs : List X) → AllByRecursion (λ x. p x ≡ true) (filter p xs)
filter-all p [] = tt
filter-all {X} p (x ∷ xs) = by (p x) refl (filter-all p xs)
  where
    by : (b : Bool) → p x ≡ b → AllByRecursion (λ y. p y ≡ true) (filter p xs) → AllByRecursion (λ y. p y ≡ true) (cond b (x ∷ filter p xs) (filter p xs))
    by true e rest = (e, rest)
    by false e rest = rest

pub all-cross : {X : Type 0} (P Q : X → Type 0) (R : X → X → Type 0) → ((x y : X) → P x → Q y → R x y) → (xs ys : List X) → AllByRecursion P xs → AllByRecursion Q ys → AllByRecursion (λ x. AllByRecursion (R x) ys) xs
all-cross P Q R h [] ys xall yall = tt
all-cross P Q R h (x ∷ xs) ys xall yall = (all-weaker Q (R x) (λ y k. h x y xall.0 k) ys yall, all-cross P Q R h xs ys xall.1 yall)

-- ---- lists in order

pub rises-push : {X : Type 0} (R : X → X → Type 0) (xs : List X) (x : X) → RisesBy R xs → AllByRecursion (λ y. R y x) xs → RisesBy R (xs ++ x ∷ [])
rises-push R [] x rises all = (tt, tt)
rises-push R (y ∷ ys) x rises all = (all-push (R y) ys x rises.0 all.0, rises-push R ys x rises.1 all.1)

pub rises-append : {X : Type 0} (R : X → X → Type 0) (xs ys : List X) → RisesBy R xs → RisesBy R ys → AllByRecursion (λ x. AllByRecursion (R x) ys) xs → RisesBy R (xs ++ ys)
rises-append R [] ys xrises yrises all = yrises
rises-append R (x ∷ xs) ys xrises yrises all = (all-append (R x) xs ys xrises.0 all.0, rises-append R xs ys xrises.1 yrises all.1)

rises-cond : {X : Type 0} (R : X → X → Type 0) (b : Bool) (x : X) (xs : List X) → AllByRecursion (R x) xs → RisesBy R xs → RisesBy R (cond b (x ∷ xs) xs)
rises-cond R true x xs all rises = (all, rises)
rises-cond R false x xs all rises = rises

pub rises-filter : {X : Type 0} (R : X → X → Type 0) (p : X → Bool) (xs : List X) → RisesBy R xs → RisesBy R (filter p xs)
rises-filter R p [] rises = tt
rises-filter R p (x ∷ xs) rises = rises-cond R (p x) x (filter p xs) (all-filter (R x) p xs rises.0) (rises-filter R p xs rises.1)

-- a test that is passed by whatever comes before a passing item splits a list in order
pub partitioned : {X : Type 0} (R : X → X → Type 0) (p : X → Bool) → ((x y : X) → R x y → p y ≡ true → p x ≡ true) → (xs : List X) → RisesBy R xs → IsPartitionedBy p xs
partitioned R p h [] rises i j d le within passes = absurd (omega arith)
partitioned R p h (x ∷ xs) rises zero zero d le within passes = passes
partitioned R p h (x ∷ xs) rises zero (suc j) d le within passes = h x (get_or xs j d) (all-at (R x) xs j d rises.0 (omega arith)) passes
partitioned R p h (x ∷ xs) rises (suc i) zero d le within passes = absurd (omega arith)
partitioned R p h (x ∷ xs) rises (suc i) (suc j) d le within passes = partitioned R p h xs rises.1 i j d (omega arith) (omega arith) passes

-- ---- splits

pub none-pass : {X : Type 0} (p : X → Bool) (xs : List X) → AllByRecursion (λ x. p x ≡ false) xs → filter p xs ≡ []
none-pass p [] all = refl
none-pass p (x ∷ xs) all = ap (λ b. cond b (x ∷ filter p xs) (filter p xs)) all.0 ∙ none-pass p xs all.1

pub all-fail : {X : Type 0} (p : X → Bool) (xs : List X) → AllByRecursion (λ x. p x ≡ false) xs → filter (λ x. not (p x)) xs ≡ xs
all-fail p [] all = refl
all-fail p (x ∷ xs) all = ap (λ b. cond (not b) (x ∷ filter (λ y. not (p y)) xs) (filter (λ y. not (p y)) xs)) all.0 ∙ ap (λ l. x ∷ l) (all-fail p xs all.1)

pub split-point : {X : Type 0} (p : X → Bool) (xs : List X) (count : ℕ) → count ≤ length xs → IsPartitionPoint (λ y. p y ≡ true) (λ y. p y ≡ false) xs count → IsSplit p xs count
split-point p xs zero within point =
    let fails : AllByRecursion (λ x. p x ≡ false) xs = all-from (λ x. p x ≡ false) xs (λ k d l. point.1 k d (omega arith) l) in
    record { front = sym (none-pass p xs fails); back = sym (all-fail p xs fails); within = within }
split-point p [] (suc count) within point = absurd (omega arith)
split-point p (x ∷ xs) (suc count) within point =
    let passes : p x ≡ true = point.0 zero x (omega arith) (omega arith) in
    let rest = split-point p xs count (omega arith) ((λ k d low high. point.0 (suc k) d (omega arith) (omega arith)), (λ k d low high. point.1 (suc k) d (omega arith) (omega arith))) in
    record {
      front = ap (λ l. x ∷ l) rest.front ∙ sym (ap (λ b. cond b (x ∷ filter p xs) (filter p xs)) passes);
      back = rest.back ∙ sym (ap (λ b. cond (not b) (x ∷ filter (λ y. not (p y)) xs) (filter (λ y. not (p y)) xs)) passes);
      within = within;
    }
