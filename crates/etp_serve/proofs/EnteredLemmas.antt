-- How many sessions were let in.
use Rattle.std.proofs.Common.{◌≡◌, ◌≢◌, ◌≤◌, ◌<◌, ◌+◌, ◌⊎◌, ◌==◌, ℕ, zero, suc, ℤ, Bool, true, false, List, [], ◌∷◌, length, drop, Some, get_or, ap, sym, ◌∙◌, subst, refl, inl, inr, arith, add-one, length-drop, if◌then◌else◌}
use Rattle.std.proofs.lemmas.Bool.{eqb-false, eqb-true}
use Rattle.std.proofs.lemmas.Option.{slice_get_within}
use Rattle.std.specs.Prelude.{slice_get}
use Rattle.std.specs.List.{AllByRecursion}
use Rattle.std.specs.declared.option.Option.{Option}
use Rattle.etp_values.proofs.BoolLemmas.{differs}
use Rattle.server_config.specs.declared.config.Config.{Config}
use Rattle.store_machine.specs.declared.journal.Act.TheVariants.{Enter}
use Rattle.store_machine.specs.declared.journal.Entry.{Entry}
use Rattle.store_machine.specs.Answers.{has_room_for}
use Rattle.etp_outside.specs.Doors.{Back}
use Rattle.turn_book.specs.Lists.{occurrences, own, own_from}
use Rattle.store_hub.specs.Words.{by_of, enters_of}
use Rattle.etp_serve.specs.Accepted.{AsSession, Came, HadMemory, IsCame, OnFull, OnLack, Session, WasServed}
use Rattle.etp_serve.specs.Closing.{ServedOver, entered, numbers_of}
use Rattle.etp_serve.specs.Served.{IsEnterAnd, Owns}
use Rattle.etp_serve.specs.declared.ended.Ended.{Ended}
use Rattle.etp_serve.specs.declared.ended.Ended.TheVariants.{Closed, Refused, IdsSpent, PeerEnd, LinkFault, NoMemory}
use Rattle.etp_serve.specs.declared.served.Served.TheVariants.{Stopped}

-- ---- places of entries that let a session in

-- the entry at this place lets a session in
abbrev pub IsEnterAt : List Entry → ℕ → Type 0
IsEnterAt h n = (e : Entry) × (slice_get h n ≡ Some e) × (enters_of e ≡ true)

-- an own entry is at its place
first_if : (b : Bool) (n k : ℕ) (x : Entry) (log : List Entry) (p : ℕ) (e : Entry) (rest : List (ℕ × Entry)) → (if b then (k, x) ∷ own_from by_of n (k + 1) log else own_from by_of n (k + 1) log) ≡ (p, e) ∷ rest
    → (own_from by_of n (k + 1) log ≡ (p, e) ∷ rest → (at : ℕ) × (p ≡ k + 1 + at) × (slice_get log at ≡ Some e)) → (at : ℕ) × (p ≡ k + at) × (slice_get (x ∷ log) at ≡ Some e)
first_if true n k x log p e rest is more =
    let same : (k, x) ≡ (p, e) = ap (λ (l : List (ℕ × Entry)). get_or l 0 (k, x)) is in
    let place : k ≡ p = ap (λ (q : ℕ × Entry). q.0) same in
    (0, omega (arith, place), ap (λ (q : ℕ × Entry). Some q.1) same)
first_if false n k x log p e rest is more = let found = more is in (suc found.0, (let place = found.1 in omega (arith, place)), found.2)

own_first : (n k : ℕ) (log : List Entry) (p : ℕ) (e : Entry) (rest : List (ℕ × Entry)) → own_from by_of n k log ≡ (p, e) ∷ rest → (at : ℕ) × (p ≡ k + at) × (slice_get log at ≡ Some e)
own_first n k [] p e rest is = absurd (cc is)
own_first n k (x ∷ log) p e rest is = first_if (by_of x == n) n k x log p e rest is (λ more. own_first n (k + 1) log p e rest more)

own_enter : (h : List Entry) (n : ℕ) (made : List (ℕ × Entry)) → IsEnterAnd n (own by_of n h) made → IsEnterAt h n
own_enter h n made is =
    let found = own_first n 0 h n is.entry made is.all in
    let at : found.0 ≡ n = let place = found.1 in omega (arith, place) in
    (is.entry, subst (λ (k : ℕ). slice_get h k ≡ Some is.entry) at found.2, is.enters)

owns_enter : (end : Ended) (h : List Entry) (n : ℕ) (places : List ℕ) (made : List (ℕ × Entry)) → Owns end n (own by_of n h) places made → IsEnterAt h n
owns_enter Closed h n places made is = own_enter h n made is
owns_enter (Refused code) h n places made is = own_enter h n made is
owns_enter IdsSpent h n places made is = own_enter h n made is
owns_enter PeerEnd h n places made is = own_enter h n made is
owns_enter LinkFault h n places made is = own_enter h n made is
owns_enter NoMemory h n places made (inl is) = own_enter h n made is
owns_enter NoMemory h n places made (inr lacks) = own_enter h n lacks.kept lacks.rest

served_enter : (test : List ℤ → Bool) (config : Config) (h : List Entry) (s : Session) → WasServed test config h s → IsEnterAt h s.met.number
served_enter test config h s w = owns_enter s.end h s.met.number w.places _ w.served.own

-- ---- numbers, each at most once, as places of a list that is counted from k

-- how often a place of these entries is among the numbers
abbrev pub spread : ℕ → List ℕ → List Entry → ℕ
spread k ns [] = 0
spread k ns (e ∷ es) = occurrences k ns + spread (k + 1) ns es

spread_empty : (k : ℕ) (es : List Entry) → spread k [] es ≡ 0
spread_empty k [] = refl
spread_empty k (e ∷ es) = let rest = spread_empty (k + 1) es in omega (arith, rest)

spread_cons : (k n : ℕ) (ns : List ℕ) (es : List Entry) → spread k (n ∷ ns) es ≡ spread k (n ∷ []) es + spread k ns es
spread_cons k n ns [] = refl
spread_cons k n ns (e ∷ es) = let rest = spread_cons (k + 1) n ns es in omega (arith, rest)

hit : (k n : ℕ) (b : Bool) → (n == k) ≡ b → occurrences k (n ∷ []) ≡ (if b then 1 else 0)
hit k n b is =
    let left : ℕ = if n == k then 1 else 0 in
    let right : ℕ = if b then 1 else 0 in
    let one : left ≡ right = ap (λ (t : Bool). if t then 1 else 0) is in
    omega (arith, one)

above : (k n : ℕ) → k ≤ n → (n == k) ≡ false → k + 1 ≤ n
above k n low is = let other : n ≢ k = eqb-false n k is in omega (arith, low, other)

spread_none : (k n : ℕ) (es : List Entry) → n < k → spread k (n ∷ []) es ≡ 0
spread_none k n [] below = refl
spread_none k n (e ∷ es) below =
    let one = hit k n false (differs n k below) in
    let rest = spread_none (k + 1) n es (omega (arith, below)) in
    omega (arith, one, rest)

spread_at : (k n : ℕ) (e : Entry) (es : List Entry) → k ≤ n → n < k + length (e ∷ es) → (b : Bool) → (n == k) ≡ b → (k + 1 ≤ n → spread (k + 1) (n ∷ []) es ≡ 1) → spread k (n ∷ []) (e ∷ es) ≡ 1
spread_at k n e es low high true is more =
    let one = hit k n true is in
    let same : n ≡ k = eqb-true n k is in
    let rest = spread_none (k + 1) n es (omega (arith, same)) in
    omega (arith, one, rest)
spread_at k n e es low high false is more = let one = hit k n false is in let rest = more (above k n low is) in omega (arith, one, rest)

spread_one : (k n : ℕ) (es : List Entry) → k ≤ n → n < k + length es → spread k (n ∷ []) es ≡ 1
spread_one k n [] low high = absurd (omega (arith, low, high))
spread_one k n (e ∷ es) low high = spread_at k n e es low high (n == k) refl (λ next. spread_one (k + 1) n es next (omega (arith, high)))

-- each number is the place of an entry
abbrev pub IsWithin : ℕ → List Entry → ℕ → Type 0
IsWithin k es n = (k ≤ n) × (n < k + length es)

spread_all : (k : ℕ) (ns : List ℕ) (es : List Entry) → AllByRecursion (IsWithin k es) ns → spread k ns es ≡ length ns
spread_all k [] es all = spread_empty k es
spread_all k (n ∷ ns) es all =
    let sum = spread_cons k n ns es in
    let one = spread_one k n es all.0.0 all.0.1 in
    let rest = spread_all k ns es all.1 in
    omega (arith, sum, one, rest)

-- if a place is among the numbers its entry lets a session in
abbrev pub AllEnter : ℕ → List ℕ → List Entry → Type 0
AllEnter k ns [] = Unit {0}
AllEnter k ns (e ∷ es) = (0 < occurrences k ns → enters_of e ≡ true) × AllEnter (k + 1) ns es

few_if : (b : Bool) (c : ℕ) → c ≤ 1 → (0 < c → b ≡ true) → c ≤ (if b then 1 else 0)
few_if true c few enters = few
few_if false zero few enters = omega arith
few_if false (suc c) few enters = absurd (cc (enters (omega arith)))

spread_few : (k : ℕ) (ns : List ℕ) (es : List Entry) → ((n : ℕ) → occurrences n ns ≤ 1) → AllEnter k ns es → spread k ns es ≤ entered es
spread_few k ns [] few all = omega arith
spread_few k ns (e ∷ es) few all =
    let one = few_if (enters_of e) (occurrences k ns) (few k) all.0 in
    let rest = spread_few (k + 1) ns es few all.1 in
    omega (arith, one, rest)

-- ---- a journal from a place on

drop_head : (h : List Entry) (k : ℕ) (e : Entry) (es : List Entry) → e ∷ es ≡ drop k h → (slice_get h k ≡ Some e) × (es ≡ drop (suc k) h)
drop_head [] zero e es is = absurd (cc is)
drop_head [] (suc k) e es is = absurd (cc is)
drop_head (x ∷ h) zero e es is = (ap Some (sym (ap (λ (l : List Entry). get_or l 0 e) is)), ap (drop 1) is)
drop_head (x ∷ h) (suc k) e es is = drop_head h k e es is

all_enter : (h : List Entry) (ns : List ℕ) → ((n : ℕ) → 0 < occurrences n ns → IsEnterAt h n) → (k : ℕ) (es : List Entry) → es ≡ drop k h → AllEnter k ns es
all_enter h ns each k [] is = tt
all_enter h ns each k (e ∷ es) is =
    let head = drop_head h k e es is in
    let next : es ≡ drop (k + 1) h = head.1 ∙ ap (λ (j : ℕ). drop j h) (sym (add-one k)) in (
      (λ there.
          let at = each k there in
          let same : at.0 ≡ e = let both : Some at.0 ≡ Some e = sym at.1 ∙ head.0 in cc both in
          subst (λ (x : Entry). enters_of x ≡ true) same at.2),
      all_enter h ns each (k + 1) es next,
    )

-- a number that occurs is one of them
found_if : (P : ℕ → Type 0) (n m : ℕ) (ns : List ℕ) (b : Bool) → (m == n) ≡ b → P m → (0 < occurrences n ns → P n) → 0 < occurrences n (m ∷ ns) → P n
found_if P n m ns true is here more there = subst P (eqb-true m n is) here
found_if P n m ns false is here more there =
    let one : ℕ = if m == n then 1 else 0 in
    let other : one ≡ 0 = ap (λ (t : Bool). if t then 1 else 0) is in
    more (omega (arith, other, there))

found_in : (P : ℕ → Type 0) (n : ℕ) (ns : List ℕ) → AllByRecursion P ns → 0 < occurrences n ns → P n
found_in P n [] all there = absurd (omega (arith, there))
found_in P n (m ∷ ns) all there = found_if P n m ns (m == n) refl all.0 (λ more. found_in P n ns all.1 more) there

all_within : (low : ℕ) (h : List Entry) (ns : List ℕ) → AllByRecursion (λ n. (low ≤ n) × IsEnterAt h n) ns → AllByRecursion (IsWithin low (drop low h)) ns
all_within low h [] all = tt
all_within low h (n ∷ ns) all =
    let inside : n < length h = slice_get_within h n all.0.1.0 all.0.1.1 in
    let long = length-drop low h in
    let least = all.0.0 in
    ((least, omega (arith, inside, long, least)), all_within low h ns all.1)

only_enter : (low : ℕ) (h : List Entry) (ns : List ℕ) → AllByRecursion (λ n. (low ≤ n) × IsEnterAt h n) ns → AllByRecursion (IsEnterAt h) ns
only_enter low h [] all = tt
only_enter low h (n ∷ ns) all = (all.0.1, only_enter low h ns all.1)

-- as many numbers as there are, each at most once, are that many entries
numbers_few : (low : ℕ) (h : List Entry) (ns : List ℕ) → ((n : ℕ) → occurrences n ns ≤ 1) → AllByRecursion (λ n. (low ≤ n) × IsEnterAt h n) ns → length ns ≤ entered (drop low h)
numbers_few low h ns few all =
    let sum = spread_all low ns (drop low h) (all_within low h ns all) in
    let least = spread_few low ns (drop low h) few (all_enter h ns (λ n there. found_in (IsEnterAt h) n ns (only_enter low h ns all) there) low (drop low h) refl) in
    omega (arith, sum, least)

-- ---- what came

numbers_enter : (test : List ℤ → Bool) (config : Config) (low : ℕ) (h : List Entry) (cs : List Came) → AllByRecursion (IsCame test config low h) cs → AllByRecursion (λ n. (low ≤ n) × IsEnterAt h n) (numbers_of cs)
numbers_enter test config low h [] all = tt
numbers_enter test config low h (AsSession s ∷ cs) all = ((all.0.0, served_enter test config h s all.0.1), numbers_enter test config low h cs all.1)
numbers_enter test config low h (OnFull ∷ cs) all = numbers_enter test config low h cs all.1
numbers_enter test config low h (OnLack ∷ cs) all = numbers_enter test config low h cs all.1

one_more : {F : Type 0} (a b : ℕ) → (a ≡ b) ⊎ F → (suc a ≡ suc b) ⊎ F
one_more a b (inl same) = inl (ap suc same)
one_more a b (inr full) = inr full

all_or_full : (test : List ℤ → Bool) (config : Config) (low : ℕ) (h : List Entry) (cs : List Came) → AllByRecursion HadMemory cs → AllByRecursion (IsCame test config low h) cs
    → (length cs ≡ length (numbers_of cs)) ⊎ (has_room_for config h Enter ≡ false)
all_or_full test config low h [] had all = inl refl
all_or_full test config low h (AsSession s ∷ cs) had all = one_more (length cs) (length (numbers_of cs)) (all_or_full test config low h cs had.1 all.1)
all_or_full test config low h (OnFull ∷ cs) had all = inr all.0
all_or_full test config low h (OnLack ∷ cs) had all = absurd had.0

given_at_most : {F : Type 0} (given0 given count numbers entries : ℕ) → given ≡ given0 + count → numbers ≤ entries → (count ≡ numbers) ⊎ F → (given ≤ given0 + entries) ⊎ F
given_at_most given0 given count numbers entries is few (inl same) = inl (omega (arith, is, few, same))
given_at_most given0 given count numbers entries is few (inr full) = inr full

pub each_entered : (test : List ℤ → Bool) (config : Config) (low : ℕ) (h : List Entry) (given0 given : ℕ) (b0 b : Option (List Back))
    → ServedOver Stopped test config low h given0 given b0 b → (given ≤ given0 + entered (drop low h)) ⊎ (has_room_for config h Enter ≡ false)
each_entered test config low h given0 given b0 b s =
    given_at_most given0 given (length s.came) (length (numbers_of s.came)) (entered (drop low h)) s.count
    (numbers_few low h (numbers_of s.came) s.apart (numbers_enter test config low h s.came s.each)) (all_or_full test config low h s.came s.memory s.each)
