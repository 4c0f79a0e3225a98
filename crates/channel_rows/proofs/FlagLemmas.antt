-- Places of channels, and flags that are set.
use Rattle.std.proofs.Common.{refl, ℕ, zero, suc, ◌≡◌, ◌<◌, ◌≤◌, Bool, true, false, List, [], ◌∷◌, ◌++◌, length, ap, sym, ◌∙◌, ◌+◌, arith, Some, None}
use Rattle.std.specs.Prelude.{ℤ, pos, negsuc, int_lt, slice_set}
use Rattle.std.proofs.Math.IntN.{nat_abs}
use Rattle.std.proofs.lemmas.Bool.{false≢true}
use Rattle.std.proofs.lemmas.List.{length-append}
use Rattle.etp_values.proofs.IntLemmas.{neg_below, pos_not_below}
use Rattle.channel_rows.specs.Ids.{place_of}
use Rattle.channel_rows.specs.Opens.{with_flag}

-- ---- places

pub no_place : (z : ℤ) → int_lt z (pos 0) ≡ true → None ≡ place_of z
no_place (pos k) low = absurd (false≢true (sym (pos_not_below k) ∙ low))
no_place (negsuc k) low = refl

pub its_place : (z : ℤ) → int_lt z (pos 0) ≡ false → Some (nat_abs z) ≡ place_of z
its_place (pos k) there = refl
its_place (negsuc k) there = absurd (false≢true (sym there ∙ neg_below k))

-- ---- flags

-- one that is not set, after the last, is one that would be added
pub flag_added : (flags : List Bool) (n : ℕ) → length flags ≤ n → with_flag (flags ++ false ∷ []) n ≡ with_flag flags n
flag_added [] zero low = refl
flag_added [] (suc n) low = refl
flag_added (b ∷ bs) zero low = absurd (omega arith)
flag_added (b ∷ bs) (suc n) low = ap (λ l. b ∷ l) (flag_added bs n (omega arith))

-- one that exists is set in its place
pub flag_set : (flags : List Bool) (n : ℕ) → n < length flags → slice_set flags n true ≡ with_flag flags n
flag_set [] n low = absurd (omega arith)
flag_set (b ∷ bs) zero low = refl
flag_set (b ∷ bs) (suc n) low = ap (λ l. b ∷ l) (flag_set bs n (omega arith))

-- ---- one more is added

pub length_more : (old new : List Bool) (len : ℕ) → len ≡ length old → new ≡ old ++ false ∷ [] → len + 1 ≡ length new
length_more old new len long pushed = let same = ap length pushed in omega (arith, long, same, length-append old (false ∷ []))

pub flags_more : (old new all : List Bool) (len n : ℕ) → len ≡ length old → len ≤ n → new ≡ old ++ false ∷ [] → with_flag old n ≡ all → with_flag new n ≡ all
flags_more old new all len n long low pushed so_far = ap (λ l. with_flag l n) pushed ∙ flag_added old n (omega (arith, long, low)) ∙ so_far
