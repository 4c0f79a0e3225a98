-- Conflicts: what is altered where, and what stays.
use Rattle.std.specs.Prelude.{ℕ, ◌≡◌, ◌+◌, ◌<◌, ◌||◌, min, nat_le, Bool, true, false, List, [], ◌∷◌, Option, Some, None, refl, if◌then◌else◌, drop, take, length}
use Rattle.std.specs.List.{Any, AllByRecursion, list_any}
use Rattle.std.proofs.Common.{ap, sym, ◌∙◌, subst, arith, ◌⊎◌, inl, inr, ⊎_elim, zero, suc}
use Rattle.std.proofs.lemmas.Bool.Decides.{nat_tests}
use Rattle.std.proofs.lemmas.List.{take-append-drop}
use Rattle.std.proofs.lemmas.List.Concat.{flat_map-append}
use Rattle.std.proofs.lemmas.List.Folds.{list_any-append}
use Rattle.entry_index.specs.Where.{first_where}
use Rattle.tx_stage.specs.declared.key.Key.{Key}
use Rattle.tx_stage.specs.declared.touch.Touch.{Touch}
use Rattle.store_machine.specs.declared.journal.Entry.{Entry}
use Rattle.store_machine.specs.Clash.{clash, conflict, least}
use Rattle.store_machine.specs.History.{alters, changes_of, entry_alters, entry_changes, value, value_after}
use Rattle.store_machine.specs.Laws.{IsFrom}
use Rattle.store_machine.proofs.ValueLemmas.{value-unaltered}

-- ---- none from a mark on

none-first : {X : Type 0} (p : X → Bool) (place : ℕ) (xs : List X) → first_where p place xs ≡ None → AllByRecursion (λ x. p x ≡ false) xs
none-first p place [] h = tt
none-first {X} p place (x ∷ xs) h = by (p x) refl h (none-first p (place + 1) xs)
  where
    by : (b : Bool) → p x ≡ b → (if b then Some place else first_where p (place + 1) xs) ≡ None → (first_where p (place + 1) xs ≡ None → AllByRecursion (λ y. p y ≡ false) xs)
        → (p x ≡ false) × AllByRecursion (λ y. p y ≡ false) xs
    by true e k rest = absurd (cc)
    by false e k rest = (e, rest k)

behind : {X : Type 0} (P : X → Type 0) (k : ℕ) (xs : List X) → AllByRecursion P xs → AllByRecursion P (drop k xs)
behind P zero xs h = h
behind P (suc k) [] h = tt
behind P (suc k) (x ∷ xs) h = behind P k xs h.1

-- entries that don't alter a key
unaltered : (key : Key) (es : List Entry) → AllByRecursion (λ (e : Entry). entry_alters key e ≡ false) es → list_any (λ c. alters c key) (changes_of es) ≡ false
unaltered key [] h = refl
unaltered key (e ∷ es) h =
    list_any-append (λ c. alters c key) (entry_changes e) (changes_of es)
    ∙ (λ j. h.0 j || list_any (λ c. alters c key) (changes_of es))
    ∙ unaltered key es h.1

drop-none : {X : Type 0} (n : ℕ) (xs : List X) → xs ≡ [] → drop n xs ≡ []
drop-none zero xs h = h
drop-none (suc n) [] h = refl
drop-none (suc n) (x ∷ xs) h = absurd (cc)

drop-more : {X : Type 0} (m k : ℕ) (xs : List X) → drop (m + k) xs ≡ drop k (drop m xs)
drop-more zero k xs = let e : 0 + k ≡ k = omega arith in ap (λ n. drop n xs) e
drop-more (suc m) k [] = drop-none (suc m + k) [] refl ∙ sym (drop-none k [] refl)
drop-more (suc m) k (x ∷ xs) = let e : suc m + k ≡ suc (m + k) = omega arith in ap (λ n. drop n (x ∷ xs)) e ∙ drop-more m k xs

pub values-between : (key : Key) (mark more : ℕ) (history : List Entry) → clash key mark history ≡ None → value_after key (take (mark + more) history) ≡ value_after key history
values-between key mark more history free =
    let front = take (mark + more) history in
    let back = drop (mark + more) history in
    let rest = subst (AllByRecursion (λ (e : Entry). entry_alters key e ≡ false)) (sym (drop-more mark more history)) (behind (λ (e : Entry). entry_alters key e ≡ false) more (drop mark history) (none-first (entry_alters key) mark (drop mark history) free)) in
    sym (ap (value_after key) (sym (take-append-drop (mark + more) history)) ∙ ap (value key) (flat_map-append entry_changes front back) ∙ value-unaltered key (changes_of front) (changes_of back) (unaltered key back rest))

-- ---- conflicts

least-free : (a b : Option ℕ) → least a b ≡ None → (a ≡ None) × (b ≡ None)
least-free None b h = (refl, h)
least-free (Some a) None h = absurd (cc)
least-free (Some a) (Some b) h = absurd (cc)

pub conflict-free : (ts : List Touch) (history : List Entry) → conflict ts history ≡ None → AllByRecursion (λ (t : Touch). clash t.key t.mark history ≡ None) ts
conflict-free [] history h = tt
conflict-free (t ∷ ts) history h =
    let parts = least-free (clash t.key t.mark history) (conflict ts history) h in
    (parts.0, conflict-free ts history parts.1)

either : (x y : ℕ) → (min x y ≡ x) ⊎ (min x y ≡ y)
either x y = by (nat_le x y) refl
  where
    by : (b : Bool) → nat_le x y ≡ b → (min x y ≡ x) ⊎ (min x y ≡ y)
    by true h = inl (grind (arith, nat_tests, h))
    by false h = inr (grind (arith, nat_tests, h))

-- the lesser of two is one of them, and no later than both
record Lesser (a b : Option ℕ) (place : ℕ) : Type 0 where
  which : (a ≡ Some place) ⊎ (b ≡ Some place)
  first : IsFrom place a
  second : IsFrom place b

lesser : (a b : Option ℕ) (place : ℕ) → least a b ≡ Some place → Lesser a b place
lesser None None place h = absurd (cc)
lesser None (Some b) place h = let same : b ≡ place = cc in record { which = inr h; first = tt; second = omega (arith, same) }
lesser (Some a) None place h = let same : a ≡ place = cc in record { which = inl h; first = omega (arith, same); second = tt }
lesser (Some a) (Some b) place h =
    let same : min a b ≡ place = cc in
    record { which = ⊎_elim (λ e. inl (ap Some (sym e ∙ same))) (λ e. inr (ap Some (sym e ∙ same))) (either a b); first = omega (arith, same); second = omega (arith, same) }

from-both : (a b : Option ℕ) (place : ℕ) → IsFrom place (least a b) → IsFrom place a × IsFrom place b
from-both None b place h = (tt, h)
from-both (Some a) None place h = (h, tt)
from-both (Some a) (Some b) place h = (omega (arith, h), omega (arith, h))

one_on : (t : Touch) (ts : List Touch) (history : List Entry) (place : ℕ) → Any (λ (x : Touch). clash x.key x.mark history ≡ Some place) ts → Any (λ (x : Touch). clash x.key x.mark history ≡ Some place) (t ∷ ts)
one_on t ts history place a =
    let within = a.2 in
    let more : suc a.0 < length (t ∷ ts) = omega (arith, within) in
    (suc a.0, a.1, more, a.3, a.4)

any-of : (t : Touch) (ts : List Touch) (history : List Entry) (place : ℕ) → (clash t.key t.mark history ≡ Some place) ⊎ (conflict ts history ≡ Some place)
    → (conflict ts history ≡ Some place → Any (λ (x : Touch). clash x.key x.mark history ≡ Some place) ts) → Any (λ (x : Touch). clash x.key x.mark history ≡ Some place) (t ∷ ts)
any-of t ts history place which rest =
    let here : 0 < length (t ∷ ts) = omega arith in
    ⊎_elim (λ e. (0, t, here, refl, e)) (λ e. one_on t ts history place (rest e)) which

-- if the least of some is from a place on, each is
later : (ts : List Touch) (history : List Entry) (place : ℕ) (o : Option ℕ) → conflict ts history ≡ o → IsFrom place o → AllByRecursion (λ (t : Touch). IsFrom place (clash t.key t.mark history)) ts
later [] history place o e h = tt
later (t ∷ ts) history place o e h =
    let parts = from-both (clash t.key t.mark history) (conflict ts history) place (subst (IsFrom place) (sym e) h) in
    (parts.0, later ts history place (conflict ts history) refl parts.1)

pub conflict-first : (ts : List Touch) (history : List Entry) (place : ℕ) → conflict ts history ≡ Some place
    → Any (λ (t : Touch). clash t.key t.mark history ≡ Some place) ts × AllByRecursion (λ (t : Touch). IsFrom place (clash t.key t.mark history)) ts
conflict-first [] history place h = absurd (cc)
conflict-first (t ∷ ts) history place h =
    let l = lesser (clash t.key t.mark history) (conflict ts history) place h in
    (any-of t ts history place l.which (λ e. (conflict-first ts history place e).0), (l.first, later ts history place (conflict ts history) refl l.second))
