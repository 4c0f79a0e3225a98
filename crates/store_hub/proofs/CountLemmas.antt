-- How many entries of a journal are a session's own, as the turn's book and the store count them.
use Rattle.std.proofs.Common.{◌≡◌, ◌==◌, ◌+◌, ◌≤◌, ◌<◌, ℕ, suc, Bool, true, false, List, [], ◌∷◌, length, Some, slice_get, if◌then◌else◌, refl, ap, sym, ◌∙◌, subst, drop, arith}
use Rattle.std.specs.Prelude.{IsSomeAnd, Option}
use Rattle.std.proofs.lemmas.Bool.{false≢true, eqb-true, and_parts}
use Rattle.std.proofs.lemmas.List.{drop_all}
use Rattle.server_config.specs.declared.config.Config.{Config}
use Rattle.store_machine.specs.declared.journal.Act.TheVariants.{Enter}
use Rattle.store_machine.specs.declared.journal.Entry.{Entry}
use Rattle.store_machine.specs.Laws.{is_enter}
use Rattle.store_machine.specs.Legal as legal
use Rattle.store_machine.specs.Legal.{IsNext, Legal}
use Rattle.store_machine.proofs.NumberLemmas.{enter-is, own-step}
use Rattle.turn_book.specs.Hands.{IsBegun}
use Rattle.turn_book.specs.Lists.{own_from, own}
use Rattle.turn_book.specs.Rules.{IsSettled}
use Rattle.store_hub.specs.Words.{by_of, enters_of}
use Rattle.store_hub.specs.Kept.{begins_at}

longer_both : {X Y : Type 0} (b : Bool) (x : X) (y : Y) (xs : List X) (ys : List Y) → length xs ≡ length ys → length (if b then x ∷ xs else xs) ≡ length (if b then y ∷ ys else ys)
longer_both true x y xs ys e = ap suc e
longer_both false x y xs ys e = e

-- the book counts as many as the store
pub own_same : (n k : ℕ) (log : List Entry) → length (own_from by_of n k log) ≡ length (legal.own n log)
own_same n k [] = refl
own_same n k (e ∷ es) = longer_both (e.by == n) (k, e) e (own_from by_of n (k + 1) es) (legal.own n es) (own_same n (k + 1) es)

one_at_most : {X : Type 0} (b : Bool) (x : X) (xs : List X) (most : ℕ) → length xs ≤ most → length (if b then x ∷ xs else xs) ≤ suc most
one_at_most true x xs most l = omega arith
one_at_most false x xs most l = omega arith

-- no more than all
pub own_few : (n k : ℕ) (log : List Entry) → length (own_from by_of n k log) ≤ length log
own_few n k [] = omega arith
own_few n k (e ∷ es) = one_at_most (e.by == n) (k, e) (own_from by_of n (k + 1) es) (length es) (own_few n (k + 1) es)

abbrev head_or : {X : Type 0} → X → List X → X
head_or x [] = x
head_or x (y ∷ ys) = y

below_top : {X : Type 0} (b : Bool) (k top : ℕ) (e : X) (xs : List (ℕ × X)) (first : ℕ × X) (more : List (ℕ × X))
    → (if b then (k, e) ∷ xs else xs) ≡ first ∷ more → k < top → (xs ≡ first ∷ more → first.0 < top) → first.0 < top
below_top {X} true k top e xs first more is low later = let same : k ≡ first.0 = ap (λ (l : List (ℕ × X)). (head_or first l).0) is in omega (arith, same)
below_top false k top e xs first more is low later = later is

-- the first place is below the end
first_below : (n k : ℕ) (log : List Entry) (first : ℕ × Entry) (more : List (ℕ × Entry)) → own_from by_of n k log ≡ first ∷ more → first.0 < k + length log
first_below n k [] first more is = absurd (cc)
first_below n k (e ∷ es) first more is =
    below_top (e.by == n) k (k + length (e ∷ es)) e (own_from by_of n (k + 1) es) first more is (omega arith)
    (λ rest. let h : first.0 < (k + 1) + length es = first_below n (k + 1) es first more rest in omega (arith, h))

begun_below : (n : ℕ) (seen : List Entry) (xs : List (ℕ × Entry)) → own by_of n seen ≡ xs → begins_at n xs ≡ true → n < length seen
begun_below n seen [] is h = absurd (false≢true h)
begun_below n seen (first ∷ more) is h =
    let at : first.0 ≡ n = eqb-true first.0 n (and_parts (first.0 == n) (enters_of first.1) h).0 in
    let low : first.0 < 0 + length seen = first_below n 0 seen first more is in
    omega (arith, at, low)

-- a session that was let in has its number below the end of what was seen
pub number_below : (n : ℕ) (seen : List Entry) → begins_at n (own by_of n seen) ≡ true → n < length seen
number_below n seen h = begun_below n seen (own by_of n seen) refl h

-- the session's next entry is as many after its first as the book counts
pub is_next : (n nth : ℕ) (log : List Entry) → IsSettled by_of enters_of log n log → length (own by_of n log) ≡ nth → IsNext log n nth
is_next n nth log t is = record {
  session = let P : Option Entry → Type 0 = λ o. IsSomeAnd o (λ (e : Entry). e.act ≡ Enter) in subst P (sym t.place) (enter-is t.entry.act t.entering);
  entries = sym is ∙ own_same n 0 log;
}

-- ---- the door's

-- a store's journal begins with the door's Enter
pub legal_begun : (config : Config) (log : List Entry) → Legal config log → IsBegun by_of enters_of log
legal_begun config [] h = absurd h
legal_begun config (e ∷ es) h = (e, refl, ap (λ (d : Entry). is_enter d.act) h.0, ap (λ (d : Entry). d.by) h.0)

-- a count over the whole journal
pub counted_all : (n : ℕ) (log : List Entry) (count place : ℕ) → length log ≤ place → count + length (legal.own n (drop place log)) ≡ length (legal.own n log) → count ≡ length (own by_of n log)
counted_all n log count place past is =
    let none_left : length (legal.own n (drop place log)) ≡ 0 = ap (λ (l : List Entry). length (legal.own n l)) (drop_all place log past) in
    let same = own_same n 0 log in
    omega (arith, none_left, same, is)

-- one place more
pub counted_on : (n : ℕ) (log : List Entry) (count place more : ℕ) (e : Entry) → slice_get log place ≡ Some e → more ≡ length (own by_of n (e ∷ []))
    → count + length (legal.own n (drop place log)) ≡ length (legal.own n log) → (count + more) + length (legal.own n (drop (place + 1) log)) ≡ length (legal.own n log)
counted_on n log count place more e at one is =
    let step = own-step n log place e at in
    let same = own_same n 0 (e ∷ []) in
    omega (arith, step, same, one, is)
