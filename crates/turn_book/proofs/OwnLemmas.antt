-- One writer's entries in a journal and in its prefixes; for the crates above too.
use Rattle.std.proofs.Common.{◌≡◌, ◌≢◌, ◌==◌, ℕ, ◌+◌, Bool, true, false, eq-eqb, ne_eqb, List, [], ◌∷◌, ◌++◌, length, refl, ap, sym, ◌∙◌, arith, append_assoc, length-append, if◌then◌else◌}
use Rattle.std.proofs.lemmas.List.{append-nil}
use mathlib.Core.List.{IsPrefix}
use Rattle.turn_book.specs.Lists.{own_from, own}

if_append : {X : Type 0} (b : Bool) (x : X) (xs ys zs : List X) → xs ≡ ys ++ zs → (if b then x ∷ xs else xs) ≡ (if b then x ∷ ys else ys) ++ zs
if_append true x xs ys zs e = ap (λ l. x ∷ l) e
if_append false x xs ys zs e = e

pub own_append : {E : Type 0} (by : E → ℕ) (n k : ℕ) (xs ys : List E) → own_from by n k (xs ++ ys) ≡ own_from by n k xs ++ own_from by n (k + length xs) ys
own_append by n k [] ys = ap (λ (j : ℕ). own_from by n j ys) (omega arith)
own_append by n k (x ∷ xs) ys =
    let r : own_from by n (k + 1) (xs ++ ys) ≡ own_from by n (k + 1) xs ++ own_from by n (k + length (x ∷ xs)) ys = own_append by n (k + 1) xs ys ∙ ap (λ (j : ℕ). own_from by n (k + 1) xs ++ own_from by n j ys) (omega arith) in
    if_append (by x == n) (k, x) (own_from by n (k + 1) (xs ++ ys)) (own_from by n (k + 1) xs) (own_from by n (k + length (x ∷ xs)) ys) r

-- an entry of another writer changes nothing
pub own_other : {E : Type 0} (by : E → ℕ) (n k : ℕ) (log : List E) (e : E) → by e ≢ n → own_from by n k (log ++ e ∷ []) ≡ own_from by n k log
own_other by n k [] e ne = ap (λ (b : Bool). if b then (k, e) ∷ [] else []) (ne_eqb (by e) n ne)
own_other by n k (x ∷ log) e ne = rw (own_other by n (k + 1) log e ne) refl

-- an entry of the writer comes after its others
pub own_grown : {E : Type 0} (by : E → ℕ) (n : ℕ) (log : List E) (e : E) → by e ≡ n → own by n (log ++ e ∷ []) ≡ own by n log ++ (length log, e) ∷ []
own_grown {E} by n log e is =
    let one : own_from by n (0 + length log) (e ∷ []) ≡ (0 + length log, e) ∷ [] = ap (λ (b : Bool). if b then (0 + length log, e) ∷ [] else []) (eq-eqb (by e) n is) in
    own_append by n 0 log (e ∷ []) ∙ ap (λ (l : List (ℕ × E)). own by n log ++ l) (one ∙ ap (λ (j : ℕ). (j, e) ∷ []) (omega arith))

append_same : {X : Type 0} (xs ys : List X) → xs ++ ys ≡ xs → ys ≡ []
append_same xs [] e = refl
append_same xs (y ∷ ys) e = let l = ap length e in absurd (omega (arith, length-append xs (y ∷ ys)))

append_empty : {X : Type 0} (xs ys : List X) → xs ++ ys ≡ [] → xs ≡ []
append_empty [] ys e = refl
append_empty (x ∷ xs) ys e = absurd (cc e)

-- a writer's entries that are the same in a journal and in a prefix are the same in between
pub own_between : {E : Type 0} (by : E → ℕ) (n : ℕ) (seen all log : List E) → IsPrefix seen all → IsPrefix all log → own by n log ≡ own by n seen → own by n log ≡ own by n all
own_between {E} by n seen all log p q same =
    let more : List E = p.0 in
    let yet : List E = q.0 in
    let first : own by n all ≡ own by n seen ++ own_from by n (length seen) more = ap (own by n) (sym p.1) ∙ (own_append by n 0 seen more ∙ ap (λ (j : ℕ). own by n seen ++ own_from by n j more) (omega arith)) in
    let whole : own by n log ≡ own by n all ++ own_from by n (length all) yet = ap (own by n) (sym q.1) ∙ (own_append by n 0 all yet ∙ ap (λ (j : ℕ). own by n all ++ own_from by n j yet) (omega arith)) in
    let back : own by n seen ++ (own_from by n (length seen) more ++ own_from by n (length all) yet) ≡ own by n seen =
    sym (append_assoc (own by n seen) (own_from by n (length seen) more) (own_from by n (length all) yet)) ∙ (ap (λ l. l ++ own_from by n (length all) yet) (sym first) ∙ (sym whole ∙ same)) in
    let rest : own_from by n (length seen) more ≡ [] = append_empty (own_from by n (length seen) more) (own_from by n (length all) yet) (append_same (own by n seen) (own_from by n (length seen) more ++ own_from by n (length all) yet) back) in
    same ∙ sym (first ∙ (ap (λ l. own by n seen ++ l) rest ∙ append-nil (own by n seen)))
