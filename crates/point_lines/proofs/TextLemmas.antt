-- Texts among bytes.
use Rattle.std.proofs.Common.{◌≡◌, ℕ, Bool, true, false, List, None, Some, if◌then◌else◌, sym, ap, ◌∙◌, refl}
use Rattle.std.specs.Str.{IsUtf8, is_utf8}
use Rattle.std.proofs.lemmas.Str.{is_utf8-from_IsUtf8, IsUtf8-from_is_utf8}
use Rattle.point_lines.specs.Points.{text_in}

chosen : (t : List ℕ) (b : Bool) → b ≡ true → Some t ≡ (if b then Some t else None)
chosen t b h = ap (λ c. if c then Some t else None) (sym h)

refused : (t : List ℕ) (b : Bool) → (b ≡ true → ⊥) → None ≡ (if b then Some t else None)
refused t true h = absurd (h refl)
refused t false h = refl

pub text_read : (t s : List ℕ) → IsUtf8 t → s ≡ t → Some s ≡ text_in t
text_read t s h e = ap Some e ∙ chosen t (is_utf8 t) (is_utf8-from_IsUtf8 t h)

pub text_refused : (t : List ℕ) → (IsUtf8 t → ⊥) → None ≡ text_in t
text_refused t h = refused t (is_utf8 t) (λ e. h (IsUtf8-from_is_utf8 t e))
