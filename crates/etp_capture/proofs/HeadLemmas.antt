-- A head and the numbers that it states.
use Rattle.std.proofs.Common.{◌≡◌, ℕ, ◌%◌, ◌^◌, ◌<◌, List, [], ◌∷◌, ◌++◌, length, get_or, take, drop, arith, refl, ap, ap₂, sym, ◌∙◌, length-take, length-drop, take-append-drop, drop-drop, ℤ, FitsSigned, lit<, inl, inr}
use Rattle.std.specs.Int.{w32, w64, to_be_bytes, from_be_bytes, cast_signed, cast_unsigned}
use Rattle.std.proofs.lemmas.Int.{to_z-of_z, of_z-to_z}
use Rattle.std.proofs.lemmas.Nat.{be_bytes_4, be_bytes_8, from_be_bytes-to_be_bytes_4, from_be_bytes-to_be_bytes_8}
use Rattle.std.proofs.lemmas.List.{get_or_past}
use Rattle.std.proofs.lemmas.List.Elements.{All-take, All-drop}
use Rattle.std.proofs.lemmas.Bool.{cases_lt}
use borrow.Author.Gap.{read_sfits}
use mir.Facts.{Fits-of_z}
use Rattle.etp_capture.specs.Frames.{head_bytes, frame_of, length_in, IsInRange}
use Rattle.etp_capture.specs.Laws.{AreBytes}
use Rattle.etp_capture.specs.declared.frame.Frame.{Frame}

-- bytes by their index
at_index : (bs : List ℕ) → AreBytes bs → (i : ℕ) → get_or bs i 0 < 256
at_index bs h i = elim (cases_lt i (length bs)) [ inl below ↦ h i 0 below | inr past ↦ rw (get_or_past bs i 0 past) (lit< tt) ]

below_32 : (bs : List ℕ) → ((i : ℕ) → get_or bs i 0 < 256) → from_be_bytes w32 bs < 2 ^ 32
below_32 bs h = omega (arith, h 0, h 1, h 2, h 3)

below_64 : (bs : List ℕ) → ((i : ℕ) → get_or bs i 0 < 256) → from_be_bytes w64 bs < 2 ^ 64
below_64 bs h = omega (arith, h 0, h 1, h 2, h 3, h 4, h 5, h 6, h 7)

-- a list that is one item, four, eight and the rest
split_head : (hs : List ℕ) → length hs ≡ 17 → hs ≡ get_or hs 0 0 ∷ (take 4 (drop 1 hs) ++ (take 8 (drop 5 hs) ++ drop 13 hs))
split_head [] long = absurd (omega arith)
split_head (k ∷ ks) long =
    let first : ks ≡ take 4 ks ++ drop 4 ks = sym (take-append-drop 4 ks) in
    let second : drop 4 ks ≡ take 8 (drop 4 ks) ++ drop 12 ks = sym (take-append-drop 8 (drop 4 ks)) ∙ ap (λ l. take 8 (drop 4 ks) ++ l) (drop-drop 8 4 ks) in
    ap (λ l. k ∷ l) (first ∙ ap (λ l. take 4 ks ++ l) second)

-- the head of the numbers that a head states is that head
pub head_again : (hs : List ℕ) → length hs ≡ 17 → AreBytes hs
    → head_bytes (get_or hs 0 0) (from_be_bytes w32 (take 4 (drop 1 hs))) (cast_signed w64 (from_be_bytes w64 (take 8 (drop 5 hs)))) (length_in hs) ≡ hs
head_again hs long fits =
    let tag = take 4 (drop 1 hs) in
    let moment = take 8 (drop 5 hs) in
    let size = drop 13 hs in
    let tag_fits = at_index tag (All-take (λ b. b < 256) 4 (drop 1 hs) (All-drop (λ b. b < 256) 1 hs fits)) in
    let moment_fits = at_index moment (All-take (λ b. b < 256) 8 (drop 5 hs) (All-drop (λ b. b < 256) 5 hs fits)) in
    let size_fits = at_index size (All-drop (λ b. b < 256) 13 hs fits) in
    let tag_long : length tag ≡ 4 = simp (length-take, length-drop) (omega arith) in
    let moment_long : length moment ≡ 8 = simp (length-take, length-drop) (omega arith) in
    let size_long : length size ≡ 4 = simp length-drop (omega arith) in
    let below : from_be_bytes w32 size < 2 ^ 32 = below_32 size size_fits in
    let stated : from_be_bytes w32 size % 2 ^ 32 ≡ from_be_bytes w32 size = omega arith in
    let tag_again : to_be_bytes w32 (from_be_bytes w32 tag) ≡ tag = be_bytes_4 tag (from_be_bytes w32 tag) tag_long tag_fits refl in
    let moment_again : to_be_bytes w64 (cast_unsigned w64 (cast_signed w64 (from_be_bytes w64 moment))) ≡ moment =
    ap (to_be_bytes w64) (of_z-to_z w64 (from_be_bytes w64 moment) (below_64 moment moment_fits)) ∙ be_bytes_8 moment (from_be_bytes w64 moment) moment_long moment_fits refl in
    let size_again : to_be_bytes w32 (from_be_bytes w32 size % 2 ^ 32) ≡ size = ap (to_be_bytes w32) stated ∙ be_bytes_4 size (from_be_bytes w32 size) size_long size_fits refl in
    ap₂ (λ a b. get_or hs 0 0 ∷ (a ++ b)) tag_again (ap₂ (λ a b. a ++ b) moment_again size_again) ∙ sym (split_head hs long)

-- the numbers of a head that was written
pub length_head : (kind tag : ℕ) (moment : ℤ) (n : ℕ) → length (head_bytes kind tag moment n) ≡ 17
length_head kind tag moment n = refl

pub length_in_head : (kind tag : ℕ) (moment : ℤ) (n : ℕ) → n < 2 ^ 32 → length_in (head_bytes kind tag moment n) ≡ n
length_in_head kind tag moment n small =
    let same : n % 2 ^ 32 ≡ n = omega arith in
    from_be_bytes-to_be_bytes_4 (n % 2 ^ 32) (omega arith) ∙ same

pub frame_of_head : (f : Frame) → f.tag < 2 ^ 32 → FitsSigned w64 f.moment → frame_of (head_bytes f.kind f.tag f.moment (length f.bytes)) f.bytes ≡ f
frame_of_head f tag moment =
    let at_tag : ℕ → ℤ → Frame = λ t m. record { kind = f.kind; tag = t; moment = m; bytes = f.bytes } in
    ap₂ at_tag (from_be_bytes-to_be_bytes_4 f.tag tag) (ap (cast_signed w64) (from_be_bytes-to_be_bytes_8 (cast_unsigned w64 f.moment) (Fits-of_z moment).fits) ∙ to_z-of_z w64 f.moment moment)

pub head_in_range : (hs p : List ℕ) → AreBytes hs → IsInRange (frame_of hs p)
head_in_range hs p are = record {
  tag = below_32 _ (at_index _ (All-take (λ b. b < 256) 4 (drop 1 hs) (All-drop (λ b. b < 256) 1 hs are)));
  moment = read_sfits w64 _;
}
