-- The bytes between the start and the end of a buffer, after what is done to it.
use Rattle.std.proofs.Common.{◌≡◌, ℕ, ◌+◌, ◌-◌, ◌≤◌, List, ◌++◌, length, take, drop, sym, ap, ◌∙◌, arith, append_assoc, length-append, length-drop, add-zero}
use Rattle.std.specs.Prelude.{slice_range}
use Rattle.std.proofs.lemmas.List.{drop-take, drop-drop, take_at, length-take-le, drop-append-le, take-append-drop, append-nil}
use Rattle.std.proofs.lemmas.Slice.{between_is}
use borrow.Rule.Slice.PartMut.{post_of}

-- some are taken at the front
pub window-drop : (xs : List ℕ) (s n e : ℕ) → s + n ≤ e → slice_range xs (s + n) e ≡ drop n (slice_range xs s e)
window-drop xs s n e h =
    let k : e - s ≡ n + (e - (s + n)) = omega arith in
    sym (ap (λ m. drop n (take m (drop s xs))) k
    ∙ drop-take n (e - (s + n)) (drop s xs)
    ∙ ap (take (e - (s + n))) (drop-drop n s xs))

take_front : (xs ys zs : List ℕ) (e n : ℕ) → e ≤ length xs → n ≤ length ys
    → take (e + n) (take e xs ++ (ys ++ zs)) ≡ take e xs ++ take n ys
take_front xs ys zs e n h k =
    let split : take e xs ++ (ys ++ zs) ≡ (take e xs ++ take n ys) ++ (drop n ys ++ zs)
    = ap (λ l. take e xs ++ (l ++ zs)) (sym (take-append-drop n ys))
    ∙ ap (λ l. take e xs ++ l) (append_assoc (take n ys) (drop n ys) zs)
    ∙ sym (append_assoc (take e xs) (take n ys) (drop n ys ++ zs)) in
    let a : length (take e xs) ≡ e = length-take-le e xs h in
    let b : length (take n ys) ≡ n = length-take-le n ys k in
    let long : length (take e xs ++ take n ys) ≡ e + n = omega (arith, length-append (take e xs) (take n ys)) in
    ap (take (e + n)) split ∙ take_at (take e xs ++ take n ys) (drop n ys ++ zs) (e + n) long

-- the room past the end was written, and this much of it counts from now on
window-grown : (xs ys zs : List ℕ) (s e n : ℕ) → s ≤ e → e ≤ length xs → n ≤ length ys
    → slice_range (take e xs ++ (ys ++ zs)) s (e + n) ≡ slice_range xs s e ++ take n ys
window-grown xs ys zs s e n o h k =
    let a : length (take e xs) ≡ e = length-take-le e xs h in
    let inside : s ≤ length (take e xs) = omega arith in
    between_is (take e xs ++ (ys ++ zs)) s (e + n)
    ∙ ap (drop s) (take_front xs ys zs e n h k)
    ∙ drop-append-le s (take e xs) (take n ys) inside
    ∙ ap (λ l. l ++ take n ys) (sym (between_is xs s e))

-- what a vector holds whose room past the end was lent, and is now ys
abbrev pub lent : List ℕ → ℕ → List ℕ → List ℕ
lent xs e ys = take e xs ++ (ys ++ post_of e (length xs - e) xs)

length-lent : (xs ys : List ℕ) (e : ℕ) → e ≤ length xs → length ys ≡ length xs - e → length (lent xs e ys) ≡ length xs
length-lent xs ys e h size =
    let a : length (take e xs) ≡ e = length-take-le e xs h in
    let rest : length (post_of e (length xs - e) xs) ≡ length xs - e - (length xs - e) = length-drop (length xs - e) (drop e xs) ∙ ap (λ n. n - (length xs - e)) (length-drop e xs) in
    omega (arith, length-append (take e xs) (ys ++ post_of e (length xs - e) xs), length-append ys (post_of e (length xs - e) xs))

written : (len : ℕ) (items xs ys : List ℕ) (e : ℕ) → xs ≡ items → len ≡ length items → e ≤ len → length ys ≡ length xs - e
    → take len (lent xs e ys ++ drop (length (lent xs e ys)) items) ≡ lent xs e ys
written len items xs ys e is long h size =
    let same : length xs ≡ length items = ap length is in
    let inside : e ≤ length xs = omega arith in
    take_at (lent xs e ys) (drop (length (lent xs e ys)) items) len (length-lent xs ys e inside size ∙ same ∙ sym long)

-- this much of it counts from now on
pub window-read : (len : ℕ) (items xs ys : List ℕ) (s e n : ℕ) → xs ≡ items → len ≡ length items → s ≤ e → e ≤ len → length ys ≡ length xs - e → n ≤ length ys
    → slice_range (take len (lent xs e ys ++ drop (length (lent xs e ys)) items)) s (e + n) ≡ slice_range items s e ++ take n ys
window-read len items xs ys s e n is long o h size k =
    let same : length xs ≡ length items = ap length is in
    let inside : e ≤ length xs = omega arith in
    ap (λ l. slice_range l s (e + n)) (written len items xs ys e is long h size)
    ∙ window-grown xs ys (post_of e (length xs - e) xs) s e n o inside k
    ∙ ap (λ l. slice_range l s e ++ take n ys) is

-- and the same where none of it does
pub window-unread : (len : ℕ) (items xs ys : List ℕ) (s e : ℕ) → xs ≡ items → len ≡ length items → s ≤ e → e ≤ len → length ys ≡ length xs - e
    → slice_range (take len (lent xs e ys ++ drop (length (lent xs e ys)) items)) s e ≡ slice_range items s e
window-unread len items xs ys s e is long o h size =
    let none : 0 ≤ length ys = omega arith in
    ap (λ n. slice_range (take len (lent xs e ys ++ drop (length (lent xs e ys)) items)) s n) (sym (add-zero e))
    ∙ window-read len items xs ys s e 0 is long o h size none
    ∙ append-nil (slice_range items s e)
