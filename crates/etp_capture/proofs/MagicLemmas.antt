-- What is at the beginning of a capture.
use Rattle.std.proofs.Common.{◌≡◌, ℕ, ◌<◌, ◌≤◌, false, nat_eq, List, [], ◌++◌, length, take, drop, refl, ap, sym, ◌∙◌, take_at, arith}
use Rattle.std.specs.List.{starts_with}
use Rattle.std.specs.Str.{bytes_eq}
use Rattle.std.proofs.lemmas.Bool.{false≢true, false_from_ne_true}
use Rattle.std.proofs.lemmas.Bool.Decides.{nat_tests, Decides-eqb}
use Rattle.std.proofs.lemmas.Slice.Eq.{starts_is, bytes_eq-Decides}
use Rattle.etp_capture.specs.Frames.{magic}
use Rattle.etp_capture.specs.Found.{found, next_found}
use Rattle.etp_capture.proofs.FoundLemmas.{short_magic}

-- fewer than eight bytes don't begin with the magic
pub short_starts : (got : ℕ) (buf xs ys : List ℕ) → got ≤ length buf → got < 8 → xs ≡ take got buf ++ ys → ys ≡ [] → starts_with nat_eq xs magic ≡ false
short_starts got buf xs ys within short is end =
    false_from_ne_true (starts_with nat_eq xs magic) (λ yes. short_magic got buf xs ys (drop 8 xs) within short is end ((starts_is Decides-eqb xs magic (starts_with nat_eq xs magic) refl).0 yes))

-- eight other bytes are not the magic
pub other_starts : (buf xs ys : List ℕ) → length buf ≡ 8 → xs ≡ buf ++ ys → bytes_eq buf magic ≡ false → starts_with nat_eq xs magic ≡ false
other_starts buf xs ys long is other =
    false_from_ne_true (starts_with nat_eq xs magic) (λ yes.
    let whole : xs ≡ magic ++ drop 8 xs = (starts_is Decides-eqb xs magic (starts_with nat_eq xs magic) refl).0 yes in
    let same : buf ≡ magic = sym (take_at buf ys 8 long) ∙ ap (take 8) (sym is ∙ whole) in
    false≢true (sym other ∙ (bytes_eq-Decides buf magic).1 same))

-- after the magic comes the first frame
pub next_first : (at : ℕ) (ys : List ℕ) → at < 8 → next_found at (magic ++ ys) ≡ found 8 ys
next_first at ys early = grind (arith, nat_tests)
