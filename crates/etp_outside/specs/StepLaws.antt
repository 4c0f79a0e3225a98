-- A clock that goes in steps passes its own test.
use Rattle.std.proofs.Common.{◌≡◌, ℕ, zero, suc, ◌+◌, true, [], ◌∷◌, length, sym, ap, ◌∙◌, subst, refl, length-append, add-one}
use Rattle.std.specs.Ordering.{int_eq}
use Rattle.std.specs.Cmp.{int_eq_equiv}
use Rattle.std.specs.Cmp.Lexicographic.{pointwise, lists_equiv}
use Rattle.etp_outside.specs.Steps.{Steps, is_stepping, moment_at, moments}

length-moments : (start step n : ℕ) → length (moments start step n) ≡ n
length-moments start step zero = refl
length-moments start step (suc n) =
    length-append (moments start step n) (moment_at start step n ∷ []) ∙ ap (λ k. k + 1) (length-moments start step n) ∙ add-one n

-- what such a clock returned passes its test
pub told_passes : (c : Steps) → is_stepping c.start c.step (moments c.start c.step c.count) ≡ true
told_passes c =
    let ms = moments c.start c.step c.count in
    subst (λ n. pointwise int_eq ms (moments c.start c.step n) ≡ true) (sym (length-moments c.start c.step c.count)) ((lists_equiv int_eq_equiv).refl ms)
