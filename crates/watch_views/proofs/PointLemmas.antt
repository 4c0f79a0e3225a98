-- The points that views keep.
use Rattle.std.proofs.Common.{refl, ℕ, zero, suc, ◌≡◌, ◌≤◌, ◌<◌, ◌+◌, ◌-◌, Bool, true, false, cond, List, [], ◌∷◌, ◌++◌, length, take, drop, ap, sym, ◌∙◌, arith, append-nil, append_assoc, length-append, length-drop, Option, Some, None}
use Rattle.std.specs.Prelude.{slice_get}
use Rattle.std.specs.Option.{option_to_list}
use Rattle.std.proofs.lemmas.List.{drop_all, take_all}
use Rattle.std.proofs.Math.Seq.{drop-append_seam, drop-append-add}
use Rattle.std.proofs.lemmas.List.Elements.{filter-append}
use Rattle.std.proofs.lemmas.Option.{slice_get_within}
use Rattle.circular_buffer.specs.Buffer.{keep_last}
use Rattle.etp_values.proofs.ListLemmas.{drop_item}
use Rattle.etp_values.specs.declared.point.Point.{Point}
use Rattle.channel_store.specs.declared.change.What.{What}
use Rattle.watch_views.specs.Held.{stays, left_by}
use Rattle.watch_views.specs.Turns.{turned}

-- ---- the last ones

-- a short list is its last ones
pub keep_short : {X : Type 0} (n : ℕ) (xs : List X) → length xs ≤ n → keep_last n xs ≡ xs
keep_short n xs h = let e : length xs - n ≡ 0 = omega arith in ap (λ k. drop k xs) e

-- what comes before enough does not matter
keep_cons : {X : Type 0} (n : ℕ) (x : X) (xs : List X) → n ≤ length xs → keep_last n (x ∷ xs) ≡ keep_last n xs
keep_cons n x xs h = let e : length (x ∷ xs) - n ≡ suc (length xs - n) = omega arith in ap (λ k. drop k (x ∷ xs)) e

drop_front : {X : Type 0} (k a : ℕ) (xs ys : List X) → k ≤ length xs → drop a (drop k xs ++ ys) ≡ drop (k + a) (xs ++ ys)
drop_front zero a xs ys h = let e : a ≡ 0 + a = omega arith in ap (λ n. drop n (xs ++ ys)) e
drop_front (suc k) a [] ys h = absurd (omega arith)
drop_front (suc k) a (x ∷ xs) ys h = let e : suc (k + a) ≡ suc k + a = omega arith in drop_front k a xs ys (omega arith) ∙ ap (λ n. drop n (x ∷ (xs ++ ys))) e

-- one by one, or all at once
pub keep_keep : {X : Type 0} (n : ℕ) (xs ys : List X) → keep_last n (keep_last n xs ++ ys) ≡ keep_last n (xs ++ ys)
keep_keep n xs ys =
    let k = length xs - n in
    let a = length (drop k xs ++ ys) - n in
    let e : k + a ≡ length (xs ++ ys) - n = omega (arith, length-append (drop k xs) ys, length-drop k xs, length-append xs ys) in
    drop_front k a xs ys (omega arith) ∙ ap (λ m. drop m (xs ++ ys)) e

-- of what is appended the last ones suffice
pub keep_later : {X : Type 0} (n : ℕ) (xs ys : List X) → keep_last n (xs ++ keep_last n ys) ≡ keep_last n (xs ++ ys)
keep_later n xs ys = by (length ys - n) refl
  where
    by : (k : ℕ) → length ys - n ≡ k → keep_last n (xs ++ keep_last n ys) ≡ keep_last n (xs ++ ys)
    by zero e = ap (λ l. keep_last n (xs ++ l)) (keep_short n ys (omega (arith, e)))
    by (suc k) e =
        let zs = keep_last n ys in
        let long : length zs ≡ n = omega (arith, e, length-drop (length ys - n) ys) in
        let left : length (xs ++ zs) - n ≡ length xs = omega (arith, long, length-append xs zs) in
        let right : length (xs ++ ys) - n ≡ length xs + (length ys - n) = omega (arith, e, length-append xs ys) in
        ap (λ m. drop m (xs ++ zs)) left ∙ drop-append_seam xs zs ∙ sym (ap (λ m. drop m (xs ++ ys)) right ∙ drop-append-add xs ys (length ys - n))

-- what is kept is no more than that
pub keep_within : {X : Type 0} (n : ℕ) (xs : List X) → length (keep_last n xs) ≤ n
keep_within n xs = omega (arith, length-drop (length xs - n) xs)

-- ---- the last one

option_short : {X : Type 0} (o : Option X) → length (option_to_list o) ≤ 1
option_short None = omega arith
option_short (Some x) = omega arith

-- nothing is appended
pub one_none : {X : Type 0} (o : Option X) (ys : List X) → length ys ≡ 0 → keep_last 1 (option_to_list o ++ ys) ≡ option_to_list o
one_none o [] h = ap (keep_last 1) (append-nil (option_to_list o)) ∙ keep_short 1 (option_to_list o) (option_short o)
one_none o (y ∷ ys) h = absurd (omega arith)

last_one : {X : Type 0} (ys : List X) (p : X) → slice_get ys (length ys - 1) ≡ Some p → keep_last 1 ys ≡ p ∷ []
last_one [] p h = cc
last_one (y ∷ []) p h = cc
last_one (y ∷ z ∷ zs) p h =
    let e : length (y ∷ z ∷ zs) - 1 ≡ suc (length (z ∷ zs) - 1) = omega arith in
    keep_cons 1 y (z ∷ zs) (omega arith) ∙ last_one (z ∷ zs) p (sym (ap (slice_get (y ∷ z ∷ zs)) e) ∙ h)

-- something is
pub one_some : {X : Type 0} (xs ys : List X) (p : X) → slice_get ys (length ys - 1) ≡ Some p → keep_last 1 (xs ++ ys) ≡ p ∷ []
one_some [] ys p h = last_one ys p h
one_some (x ∷ xs) ys p h =
    let within = slice_get_within ys (length ys - 1) p h in
    keep_cons 1 x (xs ++ ys) (omega (arith, within, length-append xs ys)) ∙ one_some xs ys p h

-- ---- copies of the last ones, one by one

pub push_next : {X : Type 0} (done xs whole : List X) (k : ℕ) (x : X) → done ++ drop k xs ≡ whole → slice_get xs k ≡ Some x → (done ++ x ∷ []) ++ drop (k + 1) xs ≡ whole
push_next done xs whole k x h e =
    let next : k + 1 ≡ suc k = omega arith in
    append_assoc done (x ∷ []) (drop (k + 1) xs) ∙ ap (λ n. done ++ (x ∷ drop n xs)) next ∙ ap (λ l. done ++ l) (sym (drop_item xs k x e)) ∙ h

-- one more is pushed, and the others are still to come
pub push_kept : {X : Type 0} (n : ℕ) (held rest all : List X) (x : X) → keep_last n (held ++ x ∷ rest) ≡ all → keep_last n (keep_last n (held ++ x ∷ []) ++ rest) ≡ all
push_kept n held rest all x h = keep_keep n (held ++ x ∷ []) rest ∙ ap (keep_last n) (append_assoc held (x ∷ []) rest) ∙ h

-- ---- what a change leaves, by rotation

pub turned_none : (w : What) (xs : List Point) → slice_get xs 0 ≡ None → drop 1 xs ≡ turned w xs
turned_none w [] h = refl
turned_none w (x ∷ xs) h = cc

pub turned_gone : (w : What) (xs : List Point) (p : Point) → slice_get xs 0 ≡ Some p → stays w p.index ≡ false → drop 1 xs ≡ turned w xs
turned_gone w [] p h s = cc
turned_gone w (x ∷ xs) p h s =
    let same : x ≡ p = cc in
    sym (ap (λ b. cond b (xs ++ x ∷ []) xs) (ap (λ q. stays w q.index) same ∙ s))

pub turned_kept : (w : What) (n : ℕ) (xs : List Point) (p : Point) → length xs ≤ n → slice_get xs 0 ≡ Some p → stays w p.index ≡ true → keep_last n (drop 1 xs ++ p ∷ []) ≡ turned w xs
turned_kept w n [] p within h s = cc
turned_kept w n (x ∷ xs) p within h s =
    let same : x ≡ p = cc in
    keep_short n (xs ++ p ∷ []) (omega (arith, length-append xs (p ∷ [])))
    ∙ ap (λ q. xs ++ q ∷ []) (sym same)
    ∙ sym (ap (λ b. cond b (xs ++ x ∷ []) xs) (ap (λ q. stays w q.index) same ∙ s))

turned_cons : (w : What) (x : Point) (rest front new : List Point) → new ≡ front ++ cond (stays w x.index) (x ∷ []) [] → turned w (x ∷ (rest ++ front)) ≡ rest ++ new
turned_cons w x rest front new h = by (stays w x.index) h
  where
    by : (b : Bool) → new ≡ front ++ cond b (x ∷ []) [] → cond b ((rest ++ front) ++ x ∷ []) (rest ++ front) ≡ rest ++ new
    by true e = append_assoc rest front (x ∷ []) ∙ ap (λ l. rest ++ l) (sym e)
    by false e = ap (λ l. rest ++ l) (sym (e ∙ append-nil front))

pub turned_within : (w : What) (xs : List Point) → length (turned w xs) ≤ length xs
turned_within w [] = omega arith
turned_within w (x ∷ xs) = by (stays w x.index)
  where
    by : (b : Bool) → length (cond b (xs ++ x ∷ []) xs) ≤ length (x ∷ xs)
    by true = omega (arith, length-append xs (x ∷ []))
    by false = omega arith

split_at : {X : Type 0} (i : ℕ) (xs : List X) → i < length xs → (x : X) × ((drop i xs ≡ x ∷ drop (suc i) xs) × (take (suc i) xs ≡ take i xs ++ x ∷ []))
split_at i [] h = absurd (omega arith)
split_at zero (x ∷ xs) h = (x, (refl, refl))
split_at (suc i) (x ∷ xs) h = let rest = split_at i xs (omega arith) in (rest.0, (rest.1.0, ap (λ l. x ∷ l) rest.1.1))

left_next : (w : What) (i : ℕ) (xs : List Point) → i < length xs → turned w (drop i xs ++ left_by w (take i xs)) ≡ drop (i + 1) xs ++ left_by w (take (i + 1) xs)
left_next w i xs h =
    let next : suc i ≡ i + 1 = omega arith in
    let at = split_at i xs h in
    let new : left_by w (take (suc i) xs) ≡ left_by w (take i xs) ++ cond (stays w at.0.index) (at.0 ∷ []) [] = ap (left_by w) at.1.1 ∙ filter-append (λ x. stays w x.index) (take i xs) (at.0 ∷ []) in
    ap (λ l. turned w (l ++ left_by w (take i xs))) at.1.0
    ∙ turned_cons w at.0 (drop (suc i) xs) (left_by w (take i xs)) (left_by w (take (suc i) xs)) new
    ∙ ap (λ n. drop n xs ++ left_by w (take n xs)) next

-- one more is turned
pub left_step : (w : What) (i : ℕ) (xs mid new : List Point) → i < length xs → mid ≡ drop i xs ++ left_by w (take i xs) → new ≡ turned w mid → new ≡ drop (i + 1) xs ++ left_by w (take (i + 1) xs)
left_step w i xs mid new h front step = step ∙ ap (turned w) front ∙ left_next w i xs h

-- all are
pub left_end : (w : What) (n : ℕ) (xs mid : List Point) → length xs ≤ n → mid ≡ drop n xs ++ left_by w (take n xs) → mid ≡ left_by w xs
left_end w n xs mid h front = front ∙ (λ j. drop_all n xs h j ++ left_by w (take_all n xs h j))
