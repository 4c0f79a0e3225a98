-- Names stay in order if their values change, and if some of them are left out. Crates above cite it too.
use Rattle.std.specs.Prelude.{ℕ, ◌≡◌, List, [], ◌∷◌, ◌++◌, map, take, drop, refl}
use Rattle.std.specs.List.{AllByRecursion}
use Rattle.std.specs.List.Sorted.{IsStrictlySortedBy}
use Rattle.std.specs.Map.{keys_of}
use Rattle.std.specs.Ordering.{nat_cmp}
use Rattle.std.specs.declared.cmp.Ordering.TheVariants.{Less}
use Rattle.std.specs.Cmp.Lexicographic.{slice_cmp}
use Rattle.std.proofs.Common.{ap, sym, subst}
use Rattle.std.proofs.lemmas.List.{map-append}
use Rattle.keyed_requests.specs.Keyed.{checked, sent, refused_keys, finished, finished_one, width_of}
use Rattle.keyed_requests.specs.declared.keys.Decision.{Decision}
use Rattle.keyed_requests.specs.declared.keys.Decision.TheVariants.{Granted, Refused}

abbrev pub Ordered : List (List ℕ) → Type 0
Ordered names = IsStrictlySortedBy (slice_cmp nat_cmp) names

abbrev Above : List ℕ → List (List ℕ) → Type 0
Above name names = AllByRecursion (λ n. slice_cmp nat_cmp name n ≡ Less) names

-- ---- the names of a front

above_front : (name : List ℕ) (front rest : List (List ℕ)) → Above name (front ++ rest) → Above name front
above_front name [] rest h = tt
above_front name (k ∷ ks) rest h = (h.0, above_front name ks rest h.1)

names_front : (front rest : List (List ℕ)) → Ordered (front ++ rest) → Ordered front
unfolding IsStrictlySortedBy
names_front [] rest h = tt
names_front (k ∷ ks) rest h = (above_front k ks rest h.0, names_front ks rest h.1)

-- what a loop has made so far of an ordered whole is in order
pub ordered_front : {A : Type 0} (front rest whole : List (List ℕ × A)) → front ++ rest ≡ whole → Ordered (keys_of whole) → Ordered (keys_of front)
ordered_front front rest whole made h = names_front (keys_of front) (keys_of rest) (subst Ordered (map-append (λ e. e.0) front rest) (subst (λ xs. Ordered (keys_of xs)) (sym made) h))

-- ---- the same names with other values

pub mapped_names : {A B : Type 0} (f : A → B) (items : List (List ℕ × A)) → keys_of (map (λ x. (x.0, f x.1)) items) ≡ keys_of items
mapped_names f [] = refl
mapped_names f (x ∷ xs) = ap (λ names. x.0 ∷ names) (mapped_names f xs)

pub checked_names : {S A B : Type 0} (one : S → A → S × Decision B) (s : S) (items : List (List ℕ × A)) → keys_of (checked one s items) ≡ keys_of items
checked_names one s [] = refl
checked_names one s (x ∷ xs) = ap (λ names. x.0 ∷ names) (checked_names one (one s x.1).0 xs)

pub finished_names : {S B F R : Type 0} (one : S → List ℕ → B → List F → S × Decision R) (width : ℕ) (s : S) (items : List (List ℕ × Decision B)) (found : List F) → keys_of (finished one width s items found) ≡ keys_of items
finished_names one width s [] found = refl
finished_names one width s (x ∷ xs) found = ap (λ names. x.0 ∷ names) (finished_names one width (finished_one one s x.0 x.1 (take (width_of width x.1) found)).0 xs (drop (width_of width x.1) found))

pub ordered_mapped : {A B : Type 0} (f : A → B) (items : List (List ℕ × A)) → Ordered (keys_of items) → Ordered (keys_of (map (λ x. (x.0, f x.1)) items))
ordered_mapped f items h = subst Ordered (sym (mapped_names f items)) h

pub ordered_checked : {S A B : Type 0} (one : S → A → S × Decision B) (s : S) (items : List (List ℕ × A)) → Ordered (keys_of items) → Ordered (keys_of (checked one s items))
ordered_checked one s items h = subst Ordered (sym (checked_names one s items)) h

pub ordered_finished : {S B F R : Type 0} (one : S → List ℕ → B → List F → S × Decision R) (width : ℕ) (s : S) (items : List (List ℕ × Decision B)) (found : List F) → Ordered (keys_of items) → Ordered (keys_of (finished one width s items found))
ordered_finished one width s items found h = subst Ordered (sym (finished_names one width s items found)) h

-- ---- some of the names

sent_above : {A B : Type 0} (send : A → B) (name : List ℕ) (items : List (List ℕ × Decision A)) → Above name (keys_of items) → Above name (keys_of (sent send items))
sent_above send name [] h = tt
sent_above send name ((k, Granted a) ∷ xs) h = (h.0, sent_above send name xs h.1)
sent_above send name ((k, Refused code) ∷ xs) h = sent_above send name xs h.1

pub ordered_sent : {A B : Type 0} (send : A → B) (items : List (List ℕ × Decision A)) → Ordered (keys_of items) → Ordered (keys_of (sent send items))
unfolding IsStrictlySortedBy
ordered_sent send [] h = tt
ordered_sent send ((k, Granted a) ∷ xs) h = (sent_above send k xs h.0, ordered_sent send xs h.1)
ordered_sent send ((k, Refused code) ∷ xs) h = ordered_sent send xs h.1

refused_above : {A : Type 0} (name : List ℕ) (items : List (List ℕ × Decision A)) → Above name (keys_of items) → Above name (keys_of (refused_keys items))
refused_above name [] h = tt
refused_above name ((k, Granted a) ∷ xs) h = refused_above name xs h.1
refused_above name ((k, Refused code) ∷ xs) h = (h.0, refused_above name xs h.1)

pub ordered_refused : {A : Type 0} (items : List (List ℕ × Decision A)) → Ordered (keys_of items) → Ordered (keys_of (refused_keys items))
unfolding IsStrictlySortedBy
ordered_refused [] h = tt
ordered_refused ((k, Granted a) ∷ xs) h = ordered_refused xs h.1
ordered_refused ((k, Refused code) ∷ xs) h = (refused_above k xs h.0, ordered_refused xs h.1)
