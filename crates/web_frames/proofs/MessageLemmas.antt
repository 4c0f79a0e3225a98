-- Messages that come in pieces.
use Rattle.std.proofs.Common.{◌≡◌, ℕ, ◌+◌, ◌-◌, ◌<◌, ◌≤◌, ◌^◌, true, false, List, [], ◌++◌, length, take, replicate, ap, ◌∙◌, arith, zero-add, Result, Ok, Err}
use Rattle.std.specs.Prelude.{nat_lt}
use Rattle.std.proofs.lemmas.Bool.Decides.{nat_tests}
use Rattle.std.proofs.lemmas.List.{take_all}
use Rattle.web_frames.specs.declared.breach.Breach.{Breach}
use Rattle.web_frames.specs.declared.breach.Breach.TheVariants as breach
use Rattle.web_frames.specs.declared.coming.Kind.TheVariants.{Binary}
use Rattle.web_frames.specs.declared.utf8.Utf8.TheVariants.{Whole}
use Rattle.web_frames.specs.Messages.{Open, opened, added, with_piece, is_short, kept, zeros}

-- a piece too many to count is refused, and any other is added
pub added-uncounted : (o : Open) (piece : List ℕ) → (o.count + length piece < 2 ^ 64 → ⊥) → added o piece ≡ Err breach.TooLong
unfolding added
added-uncounted o piece many = let is : nat_lt (o.count + length piece) (2 ^ 64) ≡ false = grind (arith, nat_tests) in rw is

pub added-counted : (o : Open) (piece : List ℕ) (count : ℕ) → o.count + length piece < 2 ^ 64 → o.count + length piece ≡ count
    → added o piece ≡ with_piece o.kind o count piece
unfolding added
added-counted o piece count fits e = let is : nat_lt (o.count + length piece) (2 ^ 64) ≡ true = grind (arith, nat_tests) in rw (is, e)

abbrev of_bytes : ℕ → List ℕ → Result Open Breach
of_bytes n bytes = Ok (record { kind = Binary; count = n; bytes = bytes; text = Whole })

kept-short : (n : ℕ) (piece : List ℕ) → is_short n ≡ true → kept n [] piece ≡ piece
kept-short n piece short = rw short

-- a short binary message in one piece
pub added-whole : (piece : List ℕ) (n : ℕ) → length piece ≡ n → is_short n ≡ true
    → added (opened Binary) piece ≡ Ok (record { kind = Binary; count = n; bytes = piece; text = Whole })
added-whole piece n e short =
    let small : n < 2 ^ 64 = grind (arith, nat_tests) in
    let count : 0 + length piece ≡ n = zero-add (length piece) ∙ e in
    let fits : 0 + length piece < 2 ^ 64 = omega arith in
    added-counted (opened Binary) piece n fits count
    ∙ ap (of_bytes n) (kept-short n piece short)

-- bytes that fill a vector which had none
pub filled : (n len : ℕ) (old new : List ℕ) → old ≡ [] → len ≡ 0 → new ≡ take n old ++ replicate (n - len) 0 → new ≡ zeros n
unfolding zeros
filled n len old new a b e =
    let long : 0 ≤ n = omega arith in
    let none : take n old ≡ [] = ap (take n) a ∙ take_all n [] long in
    let size : n - len ≡ n = omega arith in
    e ∙ ap (λ l. l ++ replicate (n - len) 0) none ∙ ap (λ m. replicate m 0) size
