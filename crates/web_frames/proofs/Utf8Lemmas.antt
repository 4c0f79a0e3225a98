-- Texts in pieces.
use Rattle.std.proofs.Common.{◌≡◌, ℕ, ◌+◌, ◌<◌, ◌≤◌, List, [], ◌∷◌, ◌++◌, length, drop, get_or, refl, sym, ap, ◌∙◌, Option, None, Some}
use Rattle.std.proofs.lemmas.List.{drop_more, drop_all}
use Rattle.std.specs.Option.{option_and_then}
use Rattle.web_frames.specs.declared.utf8.Utf8.{Utf8}
use Rattle.web_frames.specs.Utf8.{after_bytes, after_byte}

-- an octet that is not valid is not mended by those after it
pub after_bytes-none : (bs : List ℕ) → after_bytes None bs ≡ None
unfolding after_bytes
after_bytes-none [] = refl
after_bytes-none (b ∷ bs) = after_bytes-none bs

-- a text may be checked piece by piece
pub after_bytes-append : (u : Option Utf8) (xs ys : List ℕ) → after_bytes u (xs ++ ys) ≡ after_bytes (after_bytes u xs) ys
unfolding after_bytes
after_bytes-append u [] ys = refl
after_bytes-append u (x ∷ xs) ys = after_bytes-append (option_and_then (λ v. after_byte v x) u) xs ys

pub after_bytes-nil : (u : Option Utf8) → after_bytes u [] ≡ u
unfolding after_bytes
after_bytes-nil u = refl

pub after_bytes-cons : (u : Utf8) (b : ℕ) (bs : List ℕ) → after_bytes (Some u) (b ∷ bs) ≡ after_bytes (after_byte u b) bs
unfolding after_bytes
after_bytes-cons u b bs = refl

-- one octet on in a piece
pub after_bytes-step : (start next : Option Utf8) (state : Utf8) (bs : List ℕ) (i : ℕ) → i < length bs
    → after_bytes start bs ≡ after_bytes (Some state) (drop i bs) → next ≡ after_byte state (get_or bs i 0)
    → after_bytes start bs ≡ after_bytes next (drop (i + 1) bs)
after_bytes-step start next state bs i h so_far is =
    so_far ∙ ap (after_bytes (Some state)) (drop_more bs i 0 h)
    ∙ after_bytes-cons state (get_or bs i 0) (drop (i + 1) bs)
    ∙ ap (λ u. after_bytes u (drop (i + 1) bs)) (sym is)

-- the whole piece
pub after_bytes-end : (start : Option Utf8) (state : Utf8) (bs : List ℕ) (i : ℕ) → length bs ≤ i
    → after_bytes start bs ≡ after_bytes (Some state) (drop i bs) → Some state ≡ after_bytes start bs
after_bytes-end start state bs i h so_far =
    sym (so_far ∙ ap (after_bytes (Some state)) (drop_all i bs h) ∙ after_bytes-nil (Some state))
