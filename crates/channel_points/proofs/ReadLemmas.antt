-- Points that are found in chunks.
use Rattle.std.proofs.Common.{refl, ℕ, zero, suc, ◌≡◌, ◌<◌, ◌≤◌, ◌+◌, ◌-◌, Bool, true, false, cond, not, List, [], ◌∷◌, ◌++◌, length, take, drop, filter, get_or, ap, sym, ◌∙◌, arith, subst, append-nil, append_assoc, length-append, take-append-drop, length-drop}
use Rattle.std.specs.Prelude.{ℤ, int_lt, min, nat_le, slice_get, option_map}
use Rattle.std.specs.List.{AllByRecursion}
use Rattle.std.proofs.Math.Seq.{take-append-add, drop-append-add}
use Rattle.std.proofs.lemmas.Bool.{false≢true}
use Rattle.std.proofs.lemmas.Bool.Decides.{nat_tests}
use Rattle.std.proofs.lemmas.Int.{ints}
use Rattle.std.proofs.lemmas.List.{take-append-le, drop-append-le, drop-drop, drop-take, take-take, take_all, drop_all, length-take, length-take-le}
use Rattle.std.proofs.lemmas.List.Elements.{filter-append}
use Rattle.etp_values.specs.declared.point.Point.{Point}
use Rattle.etp_values.specs.Weight.{capped, weigh}
use Rattle.etp_values.proofs.EachLemmas.{all-append, all-back, all-front, all-weaker}
use Rattle.etp_values.proofs.IntLemmas.{int_lt_trans}
use Rattle.channel_points.specs.Blocks.{joined}
use Rattle.channel_points.specs.Chunks.{IsFresh, Stands, ends_before, lies_before}
use Rattle.channel_points.specs.Order.{Rises, last_of}
use Rattle.channel_points.specs.Splits.{IsSplit, RisesBy}
use Rattle.channel_points.proofs.BetweenLemmas.{joined-from}
use Rattle.channel_points.proofs.ChunkLemmas.{joined-tail}
use Rattle.channel_points.proofs.OrderedLemmas.{all-fail, filter-all, none-pass}

-- ---- tests on indexes

pub at_most-before : (i x y : ℤ) → int_lt x y ≡ true → not (int_lt i y) ≡ true → not (int_lt i x) ≡ true
at_most-before i x y h k = grind (arith, ints)

pub before-before : (ends : Bool) (end x y : ℤ) → int_lt x y ≡ true → lies_before ends end y ≡ true → lies_before ends end x ≡ true
before-before true end x y h k = at_most-before end x y h k
before-before false end x y h k = int_lt_trans x y end h k

after-ends : (i x y : ℤ) → int_lt x y ≡ true → not (int_lt i x) ≡ false → not (int_lt i y) ≡ false
after-ends i x y h k = grind (arith, ints)

after-start : (i x y : ℤ) → int_lt x y ≡ true → int_lt x i ≡ false → int_lt y i ≡ false
after-start i x y h k = grind (arith, ints)

after-after : (ends : Bool) (end x y : ℤ) → int_lt x y ≡ true → lies_before ends end x ≡ false → lies_before ends end y ≡ false
after-after true end x y h k = after-ends end x y h k
after-after false end x y h k = after-start end x y h k

-- ---- the last point

pub last_of-get : (xs : List Point) → last_of xs ≡ option_map (λ x. x.index) (slice_get xs (length xs - 1))
last_of-get [] = refl
last_of-get (x ∷ []) = refl
last_of-get (x ∷ y ∷ ys) =
    let e : length (x ∷ y ∷ ys) - 1 ≡ suc (length (y ∷ ys) - 1) = omega arith in
    last_of-get (y ∷ ys) ∙ sym (ap (λ n. option_map (λ x. x.index) (slice_get (x ∷ y ∷ ys) n)) e)

last-behind : (xs ys : List Point) → 0 < length ys → last_of (xs ++ ys) ≡ last_of ys
last-behind [] ys some = refl
last-behind (x ∷ []) [] some = absurd (omega arith)
last-behind (x ∷ []) (y ∷ ys) some = refl
last-behind (x ∷ z ∷ zs) ys some = last-behind (z ∷ zs) ys some

empty-is : {X : Type 0} (xs : List X) → length xs ≡ 0 → xs ≡ []
empty-is [] h = refl
empty-is (x ∷ xs) h = absurd (omega arith)

last-tail : (cs : List (List Point)) (t : List Point) → 0 < length t → last_of (joined cs t) ≡ last_of t
last-tail cs t some = ap last_of (joined-tail cs t) ∙ last-behind (joined cs []) t some

pub last-joined : (cs : List (List Point)) (t : List Point) → Stands cs t → last_of t ≡ last_of (joined cs t)
last-joined cs [] stands = sym (ap (λ l. last_of (joined l [])) (stands.empty refl))
last-joined cs (x ∷ xs) stands = sym (last-tail cs (x ∷ xs) (omega arith))

pub last-added-none : (cs fs : List (List Point)) (t m : List Point) → Stands cs t → IsFresh fs m → length m ≡ 0 → last_of t ≡ last_of (joined cs t ++ joined fs m)
last-added-none cs fs t m stands fresh none =
    last-joined cs t stands ∙ ap last_of (sym (append-nil (joined cs t)) ∙ (λ j. joined cs t ++ joined (sym (fresh.empty none) j) (sym (empty-is m none) j)))

pub last-added-some : (xs : List Point) (fs : List (List Point)) (m : List Point) → 0 < length m → last_of m ≡ last_of (xs ++ joined fs m)
last-added-some xs fs m some =
    let apart : joined fs m ≡ joined fs [] ++ m = joined-tail fs m in
    let size : length (joined fs m) ≡ length (joined fs []) + length m = ap length apart ∙ length-append (joined fs []) m in
    sym (last-behind xs (joined fs m) (omega arith) ∙ last-tail fs m some)

-- ---- splits of lists that are joined

pub pass-all : {X : Type 0} (p : X → Bool) (xs : List X) → AllByRecursion (λ x. p x ≡ true) xs → filter p xs ≡ xs
pass-all p [] all = refl
pass-all p (x ∷ xs) all = ap (λ b. cond b (x ∷ filter p xs) (filter p xs)) all.0 ∙ ap (λ l. x ∷ l) (pass-all p xs all.1)

pub none-left : {X : Type 0} (p : X → Bool) (xs : List X) → AllByRecursion (λ x. p x ≡ true) xs → filter (λ x. not (p x)) xs ≡ []
none-left p [] all = refl
none-left p (x ∷ xs) all = ap (λ b. cond (not b) (x ∷ filter (λ y. not (p y)) xs) (filter (λ y. not (p y)) xs)) all.0 ∙ none-left p xs all.1

pub split-behind : {X : Type 0} (p : X → Bool) (xs ys : List X) (n : ℕ) → AllByRecursion (λ x. p x ≡ true) xs → IsSplit p ys n → IsSplit p (xs ++ ys) (length xs + n)
split-behind p xs ys n pass split =
    let size : length (xs ++ ys) ≡ length xs + length ys = length-append xs ys in
    let within : n ≤ length ys = split.within in
    record {
      front = take-append-add xs ys n ∙ (λ j. sym (pass-all p xs pass) j ++ split.front j) ∙ sym (filter-append p xs ys);
      back = drop-append-add xs ys n ∙ split.back ∙ sym (filter-append (λ x. not (p x)) xs ys ∙ ap (λ l. l ++ filter (λ x. not (p x)) ys) (none-left p xs pass));
      within = omega arith;
    }

pub split-front : {X : Type 0} (p : X → Bool) (xs ys : List X) (n : ℕ) → IsSplit p xs n → AllByRecursion (λ x. p x ≡ false) ys → IsSplit p (xs ++ ys) n
split-front p xs ys n split fail =
    let size : length (xs ++ ys) ≡ length xs + length ys = length-append xs ys in
    let within : n ≤ length xs = split.within in
    record {
      front = take-append-le n xs ys within ∙ split.front ∙ sym (filter-append p xs ys ∙ ap (λ l. filter p xs ++ l) (none-pass p ys fail) ∙ append-nil (filter p xs));
      back = drop-append-le n xs ys within ∙ (λ j. split.back j ++ sym (all-fail p ys fail) j) ∙ sym (filter-append (λ x. not (p x)) xs ys);
      within = omega arith;
    }

not-passes : (b : Bool) → not b ≡ true → b ≡ false
not-passes true h = absurd (false≢true h)
not-passes false h = refl

pub split-fails : {X : Type 0} (p : X → Bool) (xs : List X) (n : ℕ) → IsSplit p xs n → AllByRecursion (λ x. p x ≡ false) (drop n xs)
split-fails p xs n split = all-weaker _ _ (λ x h. not-passes (p x) h) (drop n xs) (subst (AllByRecursion (λ x. not (p x) ≡ true)) (sym split.back) (filter-all (λ x. not (p x)) xs))

pub split-whole : {X : Type 0} (p : X → Bool) (xs : List X) (n : ℕ) → IsSplit p xs n → length xs ≤ n → AllByRecursion (λ x. p x ≡ true) xs
split-whole p xs n split whole = subst (AllByRecursion (λ x. p x ≡ true)) (sym split.front ∙ take_all n xs whole) (filter-all p xs)

-- ---- lists in order

pub rises-front : {X : Type 0} (R : X → X → Type 0) (xs ys : List X) → RisesBy R (xs ++ ys) → RisesBy R xs
rises-front R [] ys rises = tt
rises-front R (x ∷ xs) ys rises = (all-front (R x) xs ys rises.0, rises-front R xs ys rises.1)

pub rises-back : {X : Type 0} (R : X → X → Type 0) (xs ys : List X) → RisesBy R (xs ++ ys) → RisesBy R ys
rises-back R [] ys rises = rises
rises-back R (x ∷ xs) ys rises = rises-back R xs ys rises.1

-- ---- all points of a list are before an index

pub pass-whole : (ends : Bool) (end : ℤ) (xs : List Point) → Rises xs → ends_before ends end (last_of xs) ≡ true → AllByRecursion (λ x. lies_before ends end x.index ≡ true) xs
pass-whole ends end [] rises h = tt
pass-whole ends end (x ∷ []) rises h = (h, tt)
pass-whole ends end (x ∷ y ∷ ys) rises h =
    let rest = pass-whole ends end (y ∷ ys) rises.1 h in
    (before-before ends end x.index y.index rises.0.0 rest.0, rest)

ends-some : (ends : Bool) (end : ℤ) (xs : List Point) → ends_before ends end (last_of xs) ≡ true → 0 < length xs
ends-some ends end [] h = absurd (false≢true h)
ends-some ends end (x ∷ xs) h = omega arith

pass-before : (ends : Bool) (end : ℤ) (x : Point) (ys : List Point) → AllByRecursion (λ y. int_lt x.index y.index ≡ true) ys → AllByRecursion (λ y. lies_before ends end y.index ≡ true) ys → 0 < length ys → lies_before ends end x.index ≡ true
pass-before ends end x [] below pass some = absurd (omega arith)
pass-before ends end x (y ∷ ys) below pass some = before-before ends end x.index y.index below.0 pass.0

pass-front : (ends : Bool) (end : ℤ) (xs ys : List Point) → Rises (xs ++ ys) → 0 < length ys → AllByRecursion (λ y. lies_before ends end y.index ≡ true) ys → AllByRecursion (λ x. lies_before ends end x.index ≡ true) xs
pass-front ends end [] ys rises some pass = tt
pass-front ends end (x ∷ xs) ys rises some pass = (pass-before ends end x ys (all-back _ xs ys rises.0) pass some, pass-front ends end xs ys rises.1 some pass)

pub fail-after : (ends : Bool) (end : ℤ) (xs ys : List Point) → Rises (xs ++ ys) → AllByRecursion (λ x. lies_before ends end x.index ≡ false) xs → 0 < length xs → AllByRecursion (λ y. lies_before ends end y.index ≡ false) ys
fail-after ends end [] ys rises fail some = absurd (omega arith)
fail-after ends end (x ∷ xs) ys rises fail some = all-weaker _ _ (λ y h. after-after ends end x.index y.index h fail.0) ys (all-back _ xs ys rises.0)

-- ---- chunks

pub joined-split : {X : Type 0} (k : ℕ) (cs : List (List X)) (t : List X) → joined (take k cs) [] ++ joined (drop k cs) t ≡ joined cs t
joined-split zero cs t = refl
joined-split (suc k) [] t = refl
joined-split (suc k) (c ∷ cs) t = append_assoc c (joined (take k cs) []) (joined (drop k cs) t) ∙ ap (λ l. c ++ l) (joined-split k cs t)

joined-take-suc : {X : Type 0} (cs : List (List X)) (k : ℕ) (c : List X) → k < length cs → c ≡ get_or cs k c → joined (take (suc k) cs) [] ≡ joined (take k cs) [] ++ c
joined-take-suc [] k c within e = absurd (omega arith)
joined-take-suc (b ∷ cs) zero c within e = append-nil b ∙ sym e
joined-take-suc (b ∷ cs) (suc k) c within e = ap (λ l. b ++ l) (joined-take-suc cs k c (omega arith) e) ∙ sym (append_assoc b (joined (take k cs) []) c)

pub joined-take : {X : Type 0} (cs : List (List X)) (k : ℕ) (c : List X) → k < length cs → c ≡ get_or cs k c → joined (take (k + 1) cs) [] ≡ joined (take k cs) [] ++ c
joined-take cs k c within e = let next : k + 1 ≡ suc k = omega arith in ap (λ n. joined (take n cs) []) next ∙ joined-take-suc cs k c within e

-- the points before a chunk, its own, and those after it
pub joined-at : {X : Type 0} (cs : List (List X)) (t : List X) (k : ℕ) (c : List X) → k < length cs → c ≡ get_or cs k c → joined (take k cs) [] ++ (c ++ joined (drop (k + 1) cs) t) ≡ joined cs t
joined-at cs t k c within e = ap (λ l. joined (take k cs) [] ++ l) (sym (joined-from cs t k c within e)) ∙ joined-split k cs t

pub rises-at : {X : Type 0} (R : X → X → Type 0) (cs : List (List X)) (t : List X) (k : ℕ) (c : List X) → k < length cs → c ≡ get_or cs k c → RisesBy R (joined cs t) → RisesBy R c
rises-at R cs t k c within e rises =
    rises-front R c (joined (drop (k + 1) cs) t) (rises-back R (joined (take k cs) []) (c ++ joined (drop (k + 1) cs) t) (subst (RisesBy R) (sym (joined-at cs t k c within e)) rises))

pub rises-last : {X : Type 0} (R : X → X → Type 0) (cs : List (List X)) (t : List X) → RisesBy R (joined cs t) → RisesBy R t
rises-last R [] t rises = rises
rises-last R (c ∷ cs) t rises = rises-last R cs t (rises-back R c (joined cs t) rises)

pub rises-sealed : {X : Type 0} (R : X → X → Type 0) (cs : List (List X)) (t : List X) → RisesBy R (joined cs t) → RisesBy R (joined cs [])
rises-sealed R cs t rises = rises-front R (joined cs []) t (subst (RisesBy R) (joined-tail cs t) rises)

pub size-at : {X : Type 0} (cs : List (List X)) (t : List X) (k : ℕ) (c : List X) → k < length cs → c ≡ get_or cs k c → length (joined cs t) ≡ length (joined (take k cs) []) + (length c + length (joined (drop (k + 1) cs) t))
size-at cs t k c within e =
    ap length (sym (joined-at cs t k c within e)) ∙ length-append (joined (take k cs) []) (c ++ joined (drop (k + 1) cs) t) ∙ ap (λ n. length (joined (take k cs) []) + n) (length-append c (joined (drop (k + 1) cs) t))

-- one more chunk ends before an index
pub pass-more : (ends : Bool) (end : ℤ) (cs : List (List Point)) (k : ℕ) (c : List Point) → Rises (joined cs []) → k < length cs → c ≡ get_or cs k c → ends_before ends end (last_of c) ≡ true
    → AllByRecursion (λ x. lies_before ends end x.index ≡ true) (joined (take (k + 1) cs) [])
pass-more ends end cs k c rises within e h =
    let front = joined (take k cs) [] in
    let rest = joined (drop (k + 1) cs) [] in
    let whole : Rises (front ++ (c ++ rest)) = subst Rises (sym (joined-at cs [] k c within e)) rises in
    let both : Rises (front ++ c) = rises-front _ (front ++ c) rest (subst Rises (sym (append_assoc front c rest)) whole) in
    let pass = pass-whole ends end c (rises-at _ cs [] k c within e rises) h in
    subst (AllByRecursion (λ x. lies_before ends end x.index ≡ true)) (sym (joined-take cs k c within e))
    (all-append _ front c (pass-front ends end front c both (ends-some ends end c h) pass) pass)

-- a chunk that has a point past the index
pub split-at : (ends : Bool) (end : ℤ) (cs : List (List Point)) (t : List Point) (k : ℕ) (c : List Point) (n : ℕ) → Rises (joined cs t) → k < length cs → c ≡ get_or cs k c
    → AllByRecursion (λ x. lies_before ends end x.index ≡ true) (joined (take k cs) []) → IsSplit (λ x. lies_before ends end x.index) c n → n < length c
    → IsSplit (λ x. lies_before ends end x.index) (joined cs t) (length (joined (take k cs) []) + n)
split-at ends end cs t k c n rises within e pass split some =
    let front = joined (take k cs) [] in
    let rest = joined (drop (k + 1) cs) t in
    let p : Point → Bool = λ x. lies_before ends end x.index in
    let back : Rises (c ++ rest) = rises-back _ front (c ++ rest) (subst Rises (sym (joined-at cs t k c within e)) rises) in
    let parts : c ++ rest ≡ take n c ++ (drop n c ++ rest) = ap (λ l. l ++ rest) (sym (take-append-drop n c)) ∙ append_assoc (take n c) (drop n c) rest in
    let later : Rises (drop n c ++ rest) = rises-back _ (take n c) (drop n c ++ rest) (subst Rises parts back) in
    let size : length (take n c) ≡ n = length-take-le n c split.within in
    let sum : length (take n c) + length (drop n c) ≡ length c = sym (length-append (take n c) (drop n c)) ∙ ap length (take-append-drop n c) in
    let fail = fail-after ends end (drop n c) rest later (split-fails p c n split) (omega arith) in
    subst (λ l. IsSplit p l (length front + n)) (joined-at cs t k c within e) (split-behind p front (c ++ rest) n pass (split-front p c rest n split fail))

-- one more chunk is before the index
pub pass-next : (ends : Bool) (end : ℤ) (cs : List (List Point)) (k : ℕ) (c : List Point) (n : ℕ) → k < length cs → c ≡ get_or cs k c
    → AllByRecursion (λ x. lies_before ends end x.index ≡ true) (joined (take k cs) []) → IsSplit (λ x. lies_before ends end x.index) c n → length c ≤ n
    → AllByRecursion (λ x. lies_before ends end x.index ≡ true) (joined (take (k + 1) cs) [])
pass-next ends end cs k c n within e pass split whole =
    subst (AllByRecursion (λ x. lies_before ends end x.index ≡ true)) (sym (joined-take cs k c within e)) (all-append _ (joined (take k cs) []) c pass (split-whole _ c n split whole))

pub count-next : {X : Type 0} (cs : List (List X)) (k : ℕ) (c : List X) → k < length cs → c ≡ get_or cs k c → length (joined (take (k + 1) cs) []) ≡ length (joined (take k cs) []) + length c
count-next cs k c within e = ap length (joined-take cs k c within e) ∙ length-append (joined (take k cs) []) c

pub size-last : {X : Type 0} (cs : List (List X)) (t : List X) (k : ℕ) → length cs ≤ k → length (joined cs t) ≡ length (joined (take k cs) []) + length t
size-last cs t k past =
    let none : drop k cs ≡ [] = drop_all k cs past in
    ap length (sym (ap (λ l. joined (take k cs) [] ++ joined l t) (sym none) ∙ joined-split k cs t)) ∙ length-append (joined (take k cs) []) t

-- the open chunk after the others
pub split-last : (ends : Bool) (end : ℤ) (cs : List (List Point)) (t : List Point) (k n : ℕ) → length cs ≤ k → AllByRecursion (λ x. lies_before ends end x.index ≡ true) (joined (take k cs) []) → IsSplit (λ x. lies_before ends end x.index) t n
    → IsSplit (λ x. lies_before ends end x.index) (joined cs t) (length (joined (take k cs) []) + n)
split-last ends end cs t k n past pass split =
    let none : drop k cs ≡ [] = drop_all k cs past in
    let whole : joined (take k cs) [] ++ t ≡ joined cs t = ap (λ l. joined (take k cs) [] ++ joined l t) (sym none) ∙ joined-split k cs t in
    subst (λ l. IsSplit (λ x. lies_before ends end x.index) l (length (joined (take k cs) []) + n)) whole (split-behind _ (joined (take k cs) []) t n pass split)

-- ---- splits of parts

all-drop : {X : Type 0} (P : X → Type 0) (n : ℕ) (xs : List X) → AllByRecursion P xs → AllByRecursion P (drop n xs)
all-drop P zero xs all = all
all-drop P (suc n) [] all = tt
all-drop P (suc n) (x ∷ xs) all = all-drop P n xs all.1

all-take : {X : Type 0} (P : X → Type 0) (n : ℕ) (xs : List X) → AllByRecursion P xs → AllByRecursion P (take n xs)
all-take P zero xs all = tt
all-take P (suc n) [] all = tt
all-take P (suc n) (x ∷ xs) all = (all.0, all-take P n xs all.1)

split-pass : {X : Type 0} (p : X → Bool) (xs : List X) (n : ℕ) → IsSplit p xs n → AllByRecursion (λ x. p x ≡ true) (take n xs)
split-pass p xs n split = subst (AllByRecursion (λ x. p x ≡ true)) (sym split.front) (filter-all p xs)

split-made : {X : Type 0} (p : X → Bool) (xs : List X) (n : ℕ) → n ≤ length xs → AllByRecursion (λ x. p x ≡ true) (take n xs) → AllByRecursion (λ x. p x ≡ false) (drop n xs) → IsSplit p xs n
split-made p xs n within pass fail =
    let whole : take n xs ++ drop n xs ≡ xs = take-append-drop n xs in
    record {
      front = sym (ap (filter p) (sym whole) ∙ filter-append p (take n xs) (drop n xs) ∙ (λ j. pass-all p (take n xs) pass j ++ none-pass p (drop n xs) fail j) ∙ append-nil (take n xs));
      back = sym (ap (filter (λ x. not (p x))) (sym whole) ∙ filter-append (λ x. not (p x)) (take n xs) (drop n xs) ∙ (λ j. none-left p (take n xs) pass j ++ all-fail p (drop n xs) fail j));
      within = within;
    }

-- the points after the first `s` are split where all are
pub split-drop : {X : Type 0} (p : X → Bool) (xs : List X) (n s : ℕ) → IsSplit p xs n → IsSplit p (drop s xs) (n - s)
split-drop {X} p xs n s split = by (nat_le s n) refl
  where
    by : (b : Bool) → nat_le s n ≡ b → IsSplit p (drop s xs) (n - s)
    by true h =
        let le : s ≤ n = grind (arith, nat_tests) in
        let sum : s + (n - s) ≡ n = omega arith in
        let within : n ≤ length xs = split.within in
        let size : length (drop s xs) ≡ length xs - s = length-drop s xs in
        split-made p (drop s xs) (n - s) (omega arith)
        (subst (AllByRecursion (λ x. p x ≡ true)) (ap (λ k. drop s (take k xs)) (sym sum) ∙ drop-take s (n - s) xs) (all-drop _ s (take n xs) (split-pass p xs n split)))
        (subst (AllByRecursion (λ x. p x ≡ false)) (sym (drop-drop (n - s) s xs ∙ ap (λ k. drop k xs) sum)) (split-fails p xs n split))
    by false h =
        let past : n < s = grind (arith, nat_tests) in
        let none : n - s ≡ 0 = omega arith in
        let sum : n + (s - n) ≡ s = omega arith in
        let fail : AllByRecursion (λ x. p x ≡ false) (drop s xs) = subst (AllByRecursion (λ x. p x ≡ false)) (drop-drop (s - n) n xs ∙ ap (λ k. drop k xs) sum) (all-drop _ (s - n) (drop n xs) (split-fails p xs n split)) in
        subst (IsSplit p (drop s xs)) (sym none) (split-made p (drop s xs) 0 (omega arith) tt fail)

-- so are the first `s` points
pub split-take : {X : Type 0} (p : X → Bool) (xs : List X) (n s k : ℕ) → k ≡ min n s → IsSplit p xs n → IsSplit p (take s xs) k
split-take {X} p xs n s k e split =
    let within : n ≤ length xs = split.within in
    let size : length (take s xs) ≡ min s (length xs) = length-take s xs in
    let pass : AllByRecursion (λ x. p x ≡ true) (take k (take s xs)) = subst (AllByRecursion (λ x. p x ≡ true)) (take-take k n xs (omega arith) ∙ sym (take-take k s xs (omega arith))) (all-take _ k (take n xs) (split-pass p xs n split)) in
    split-made p (take s xs) k (omega arith) pass (by (nat_le n s) refl)
  where
    by : (b : Bool) → nat_le n s ≡ b → AllByRecursion (λ x. p x ≡ false) (drop k (take s xs))
    by true h =
        let le : n ≤ s = grind (arith, nat_tests) in
        let same : k ≡ n = omega arith in
        let sum : n + (s - n) ≡ s = omega arith in
        subst (AllByRecursion (λ x. p x ≡ false)) (sym (ap (λ m. drop m (take s xs)) same ∙ ap (λ m. drop n (take m xs)) (sym sum) ∙ drop-take n (s - n) xs)) (all-take _ (s - n) (drop n xs) (split-fails p xs n split))
    by false h =
        let past : s < n = grind (arith, nat_tests) in
        let size : length (take s xs) ≡ min s (length xs) = length-take s xs in
        subst (AllByRecursion (λ x. p x ≡ false)) (sym (drop_all k (take s xs) (omega arith))) tt

pub rest-is : {X : Type 0} (n : ℕ) (xs : List X) → take (length xs - n) (drop n xs) ≡ drop n xs
rest-is n xs = ap (λ k. take k (drop n xs)) (sym (length-drop n xs)) ∙ take_all (length (drop n xs)) (drop n xs) (omega arith)

-- ---- what points count

pub weigh-append : {X : Type 0} (f : X → ℕ) (xs ys : List X) → weigh f (xs ++ ys) ≡ weigh f xs + weigh f ys
weigh-append f [] ys = omega arith
weigh-append f (x ∷ xs) ys = let rest = weigh-append f xs ys in omega (arith, rest)

pub bytes-next : (s v w all total new : ℕ) → new ≡ capped (s + capped v) → all ≡ v + w → capped (s + all) ≡ total → capped (new + w) ≡ total
bytes-next s v w all total new e f h = omega arith
