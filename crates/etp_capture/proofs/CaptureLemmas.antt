-- Captures are read as they were written, and in one way.
use Rattle.std.proofs.Common.{◌≡◌, ℕ, ◌+◌, ◌<◌, ◌≤◌, Bool, true, false, not, ◌&&◌, nat_lt, nat_le, if◌then◌else◌, List, [], ◌∷◌, ◌++◌, length, take, drop, arith, refl, ap, ap₂, sym, ◌∙◌, subst, le_refl, take_all, length-take-le, take-append-drop, append_assoc}
use Rattle.std.proofs.lemmas.Bool.Decides.{nat_tests}
use Rattle.std.proofs.lemmas.List.Elements.{All-take}
use Rattle.std.proofs.lemmas.Bool.{not-false}
use Rattle.etp_capture.specs.Frames.{capture_limit, frame_limit, is_kind, is_length, head_bytes, frame_bytes, frame_of, length_in, IsFrame, IsInRange}
use Rattle.etp_capture.specs.Found.{Found, Whole, Bad, found, head_found, length_found, body_found}
use Rattle.etp_capture.specs.Laws.{AreBytes, ReadsBack, WritesBack}
use Rattle.etp_capture.specs.declared.frame.Frame.{Frame}
use Rattle.etp_capture.specs.declared.reader.CaptureError.{CaptureError}
use Rattle.etp_capture.specs.declared.reader.CaptureError.TheVariants.{Kind, Length, Cut, Limit}
use Rattle.etp_capture.proofs.FoundLemmas.{front_body, head_whole, body_whole}
use Rattle.etp_capture.proofs.HeadLemmas.{head_again, length_head, length_in_head, frame_of_head, head_in_range}

first_of_three : (a b c : Bool) → (a && b && c) ≡ true → a ≡ true
first_of_three true b c h = refl
first_of_three false b c h = h

-- a payload of an allowed length is short
payload_small : (kind n : ℕ) → is_length kind n ≡ true → n ≤ frame_limit
payload_small kind n h =
    let least : nat_le n frame_limit ≡ true = first_of_three (nat_le n frame_limit) _ _ h in
    grind (arith, nat_tests)

pub reads_back : ReadsBack
reads_back f at rest good range fits =
    let hs = head_bytes f.kind f.tag f.moment (length f.bytes) in
    let more = f.bytes ++ rest in
    let long : length hs ≡ 17 = length_head f.kind f.tag f.moment (length f.bytes) in
    let small : length f.bytes ≤ frame_limit = payload_small f.kind (length f.bytes) good.payload in
    let stated : length_in hs ≡ length f.bytes = length_in_head f.kind f.tag f.moment (length f.bytes) (omega arith) in
    let payload : is_length f.kind (length_in hs) ≡ true = ap (is_length f.kind) stated ∙ good.payload in
    let all : take 17 hs ≡ hs = take_all 17 hs (omega arith) in
    let front = front_body hs at more long (omega arith) good.kind payload in
    let parts = head_whole hs more long in
    let own : f.bytes ++ rest ≡ take (length f.bytes) f.bytes ++ rest = ap (λ l. l ++ rest) (sym (take_all (length f.bytes) f.bytes (le_refl _))) in
    let body = body_whole at (length f.bytes) hs f.bytes f.bytes more rest refl (sym stated) (omega arith) refl own in
    ap (found at) (append_assoc hs f.bytes rest ∙ ap (λ l. l ++ more) (sym all)) ∙ front ∙ ap₂ (body_found at) parts.0 parts.1 ∙ body
    ∙ ap (λ g. Whole g rest) (frame_of_head f range.tag range.moment)

-- a test before a frame that was found has failed
passed : (b : Bool) (why : CaptureError) (x : Found) (f : Frame) (r : List ℕ) → (if b then Bad why else x) ≡ Whole f r → (b ≡ false) × (x ≡ Whole f r)
passed true why x f r e = absurd (cc)
passed false why x f r e = (refl, e)

passed_two : (b c : Bool) (why other : CaptureError) (x : Found) (f : Frame) (r : List ℕ) → (if b then (if c then Bad why else Bad other) else x) ≡ Whole f r → (b ≡ false) × (x ≡ Whole f r)
passed_two true true why other x f r e = absurd (cc)
passed_two true false why other x f r e = absurd (cc)
passed_two false c why other x f r e = (refl, e)

pub whole_frame : (f g : Frame) (r s : List ℕ) → Whole f r ≡ Whole g s → f ≡ g
whole_frame f g r s e = cc

pub whole_rest : (f g : Frame) (r s : List ℕ) → Whole f r ≡ Whole g s → r ≡ s
whole_rest f g r s e = cc

-- what is known about a frame that was found, by its head and what follows
pub found_parts : (at k : ℕ) (ks : List ℕ) (f : Frame) (r : List ℕ) → found at (k ∷ ks) ≡ Whole f r
    → (is_kind k ≡ true) × (16 ≤ length ks) × (is_length k (length_in (take 17 (k ∷ ks))) ≡ true)
    × (length_in (take 17 (k ∷ ks)) ≤ length (drop 17 (k ∷ ks))) × (at + 17 + length_in (take 17 (k ∷ ks)) ≤ capture_limit)
    × (Whole (frame_of (take 17 (k ∷ ks)) (take (length_in (take 17 (k ∷ ks))) (drop 17 (k ∷ ks)))) (drop (length_in (take 17 (k ∷ ks))) (drop 17 (k ∷ ks))) ≡ Whole f r)
found_parts at k ks f r h =
    let hs = take 17 (k ∷ ks) in
    let more = drop 17 (k ∷ ks) in
    let n = length_in hs in
    let end = Whole (frame_of hs (take n more)) (drop n more) in
    let s1 = passed (nat_lt capture_limit (at + 1)) Limit (if not (is_kind k) then Bad (Kind at) else head_found at k ks) f r h in
    let s2 = passed (not (is_kind k)) (Kind at) (head_found at k ks) f r s1.1 in
    let s3 = passed_two (nat_lt (length ks) 16) (nat_lt capture_limit (at + 1 + length ks)) Limit (Cut at) (if nat_lt capture_limit (at + 17) then Bad Limit else length_found at k hs more) f r s2.1 in
    let s4 = passed (nat_lt capture_limit (at + 17)) Limit (length_found at k hs more) f r s3.1 in
    let s5 = passed (not (is_length k n)) (Length at) (body_found at hs more) f r s4.1 in
    let s6 = passed_two (nat_lt (length more) n) (nat_lt capture_limit (at + 17 + length more)) Limit (Cut at) (if nat_lt capture_limit (at + 17 + n) then Bad Limit else end) f r s5.1 in
    let s7 = passed (nat_lt capture_limit (at + 17 + n)) Limit end f r s6.1 in
    let long : 16 ≤ length ks = not_below (length ks) 16 s3.0 in
    let enough : n ≤ length more = not_below (length more) n s6.0 in
    let within : at + 17 + n ≤ capture_limit = not_below capture_limit (at + 17 + n) s7.0 in
    (not-false (is_kind k) s2.0, long, not-false (is_length k n) s5.0, enough, within, s7.1)
  where
    not_below : (m n : ℕ) → nat_lt m n ≡ false → n ≤ m
    not_below m n h = grind (arith, nat_tests)

-- the bytes of a head and a payload of the length that it states
frame_again : (hs p : List ℕ) → length hs ≡ 17 → AreBytes hs → length p ≡ length_in hs → frame_bytes (frame_of hs p) ≡ hs ++ p
frame_again hs p long are size =
    let g = frame_of hs p in
    ap (λ n. head_bytes g.kind g.tag g.moment n ++ p) size ∙ ap (λ l. l ++ p) (head_again hs long are)

IsWrittenAs : ℕ → List ℕ → List ℕ → Frame → Type 0
IsWrittenAs at bytes r f = (bytes ≡ frame_bytes f ++ r) × IsFrame f × IsInRange f × (at + (17 + length f.bytes) ≤ capture_limit)

pub writes_back : WritesBack
unfolding IsWrittenAs
writes_back at [] f r are h = absurd (cc)
writes_back at (k ∷ ks) f r are h =
    let hs = take 17 (k ∷ ks) in
    let more = drop 17 (k ∷ ks) in
    let n = length_in hs in
    let p = take n more in
    let parts = found_parts at k ks f r h in
    let long : length hs ≡ 17 = length-take-le 17 (k ∷ ks) (omega (arith, parts.1)) in
    let head_are = All-take (λ b. b < 256) 17 (k ∷ ks) are in
    let size : length p ≡ n = length-take-le n more parts.3 in
    let again : frame_bytes (frame_of hs p) ≡ hs ++ p = frame_again hs p long head_are size in
    let split : k ∷ ks ≡ frame_bytes (frame_of hs p) ++ drop n more =
    sym (take-append-drop 17 (k ∷ ks)) ∙ ap (λ l. hs ++ l) (sym (take-append-drop n more)) ∙ sym (append_assoc hs p (drop n more)) ∙ ap (λ l. l ++ drop n more) (sym again) in
    let good : IsFrame (frame_of hs p) = record { kind = parts.0; payload = ap (is_length k) size ∙ parts.2 } in
    let room : at + (17 + length p) ≤ capture_limit = omega (arith, parts.4, size) in
    let here : IsWrittenAs at (k ∷ ks) (drop n more) (frame_of hs p) = (split, good, head_in_range hs p head_are, room) in
    let rest_is : drop n more ≡ r = whole_rest _ _ _ _ parts.5 in
    let moved : IsWrittenAs at (k ∷ ks) r (frame_of hs p) = subst (λ s. IsWrittenAs at (k ∷ ks) s (frame_of hs p)) rest_is here in
    subst (IsWrittenAs at (k ∷ ks) r) (whole_frame _ _ _ _ parts.5) moved
