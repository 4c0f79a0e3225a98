-- Each input is the capture of some frames or fails, and in one way; for the crates above too.
use Rattle.std.proofs.Common.{◌≡◌, ℕ, zero, suc, ◌+◌, ◌<◌, ◌≤◌, ◌⊎◌, inl, inr, Bool, true, false, not, nat_eq, nat_lt, if◌then◌else◌, List, [], ◌∷◌, ◌++◌, length, take, drop, arith, refl, ap, ap₂, sym, ◌∙◌, subst, le_refl, length-append, drop_at, append_assoc, append-nil}
use Rattle.std.specs.List.{starts_with}
use Rattle.std.proofs.lemmas.Bool.{false≢true}
use Rattle.std.proofs.lemmas.Bool.Decides.{Decides-eqb}
use Rattle.std.proofs.lemmas.List.Elements.{All-drop}
use Rattle.std.proofs.lemmas.Slice.Eq.{starts_is}
use Rattle.etp_values.proofs.BoolLemmas.{by_test}
use Rattle.etp_capture.specs.Frames.{magic, capture_limit, is_kind, is_length, head_bytes, frame_bytes, frame_of, length_in, IsFrame, IsInRange}
use Rattle.etp_capture.specs.Found.{Found, Whole, NoMore, Bad, found, head_found, length_found, body_found}
use Rattle.etp_capture.specs.Capture.{frames_bytes, AreFrames, end_at, IsCapture, FailsBehind, CaptureFails}
use Rattle.etp_capture.specs.Laws.{AreBytes, OneCapture, OneFault, NoFault, SomeAnswer}
use Rattle.etp_capture.specs.declared.frame.Frame.{Frame}
use Rattle.etp_capture.specs.declared.reader.CaptureError.{CaptureError}
use Rattle.etp_capture.specs.declared.reader.CaptureError.TheVariants.{Magic, Kind, Length, Cut, Limit}
use Rattle.etp_capture.proofs.HeadLemmas.{length_head}
use Rattle.etp_capture.proofs.CaptureLemmas.{reads_back, writes_back, whole_frame, whole_rest}

length_frame : (f : Frame) → length (frame_bytes f) ≡ 17 + length f.bytes
length_frame f =
    length-append (head_bytes f.kind f.tag f.moment (length f.bytes)) f.bytes ∙ ap (λ n. n + length f.bytes) (length_head f.kind f.tag f.moment (length f.bytes))

-- the offset after frames is that of the first plus their bytes
end_is : (at : ℕ) (fs : List Frame) → end_at at fs ≡ at + length (frames_bytes fs)
end_is at [] = omega arith
end_is at (f ∷ fs) = omega (arith, end_is (at + (17 + length f.bytes)) fs, length_frame f, length-append (frame_bytes f) (frames_bytes fs))

end_least : (at : ℕ) (fs : List Frame) → at ≤ end_at at fs
end_least at fs = omega (arith, end_is at fs)

-- what is not a frame
IsOther : Found → Type 0
IsOther x = (f : Frame) (r : List ℕ) → x ≡ Whole f r → ⊥

-- there is only one list of frames that is followed by no frame
unique : (at : ℕ) (fs gs : List Frame) (xs ys : List ℕ) → AreFrames fs → AreFrames gs → end_at at fs ≤ capture_limit → end_at at gs ≤ capture_limit
    → IsOther (found (end_at at fs) xs) → IsOther (found (end_at at gs) ys) → frames_bytes fs ++ xs ≡ frames_bytes gs ++ ys → (fs ≡ gs) × (xs ≡ ys)
unfolding IsOther
unique at [] [] xs ys af ag lf lg ox oy e = (refl, e)
unique at [] (g ∷ gs) xs ys af ag lf lg ox oy e =
    let room : at + (17 + length g.bytes) ≤ capture_limit = omega (arith, end_least (at + (17 + length g.bytes)) gs) in
    let there = reads_back g at (frames_bytes gs ++ ys) ag.0 ag.1 room in
    absurd (ox g (frames_bytes gs ++ ys) (ap (found at) (e ∙ append_assoc (frame_bytes g) (frames_bytes gs) ys) ∙ there))
unique at (f ∷ fs) [] xs ys af ag lf lg ox oy e =
    let room : at + (17 + length f.bytes) ≤ capture_limit = omega (arith, end_least (at + (17 + length f.bytes)) fs) in
    let there = reads_back f at (frames_bytes fs ++ xs) af.0 af.1 room in
    absurd (oy f (frames_bytes fs ++ xs) (ap (found at) (sym e ∙ append_assoc (frame_bytes f) (frames_bytes fs) xs) ∙ there))
unique at (f ∷ fs) (g ∷ gs) xs ys af ag lf lg ox oy e =
    let next = at + (17 + length f.bytes) in
    let room_f : at + (17 + length f.bytes) ≤ capture_limit = omega (arith, end_least (at + (17 + length f.bytes)) fs) in
    let room_g : at + (17 + length g.bytes) ≤ capture_limit = omega (arith, end_least (at + (17 + length g.bytes)) gs) in
    let left = reads_back f at (frames_bytes fs ++ xs) af.0 af.1 room_f in
    let right = reads_back g at (frames_bytes gs ++ ys) ag.0 ag.1 room_g in
    let same = sym left ∙ ap (found at) (sym (append_assoc (frame_bytes f) (frames_bytes fs) xs) ∙ e ∙ append_assoc (frame_bytes g) (frames_bytes gs) ys) ∙ right in
    let frame : f ≡ g = whole_frame _ _ _ _ same in
    let after : at + (17 + length g.bytes) ≡ next = ap (λ (h : Frame). at + (17 + length h.bytes)) (sym frame) in
    let more = unique next fs gs xs ys af.2 ag.2 lf (subst (λ n. end_at n gs ≤ capture_limit) after lg) ox (subst (λ n. IsOther (found (end_at n gs) ys)) after oy) (whole_rest _ _ _ _ same) in
    (ap₂ (λ (h : Frame) (hs : List Frame). h ∷ hs) frame more.0, more.1)

no_more_other : (x : Found) → x ≡ NoMore → IsOther x
unfolding IsOther
no_more_other x e f r w = absurd_of (sym e ∙ w)
  where
    absurd_of : NoMore ≡ Whole f r → ⊥
    absurd_of h = cc

bad_other : (x : Found) (why : CaptureError) → x ≡ Bad why → IsOther x
unfolding IsOther
bad_other x why e f r w = absurd_of (sym e ∙ w)
  where
    absurd_of : Bad why ≡ Whole f r → ⊥
    absurd_of h = cc

-- the frames of a capture end within its limit
capture_end : (bytes : List ℕ) (fs : List Frame) → IsCapture fs bytes → end_at 8 fs ≤ capture_limit
capture_end bytes fs c = omega (arith, end_is 8 fs, ap length c.all ∙ length-append magic (frames_bytes fs), c.small)

-- what follows the magic, also for the crates above
pub behind_magic : (xs ys : List ℕ) → magic ++ xs ≡ magic ++ ys → xs ≡ ys
behind_magic xs ys e = ap (drop 8) e

starts_magic : (bytes xs : List ℕ) → bytes ≡ magic ++ xs → starts_with nat_eq bytes magic ≡ true
starts_magic bytes xs e = ap (λ b. starts_with nat_eq b magic) e

pub one_capture : OneCapture
one_capture bytes fs gs a b =
    let same = behind_magic (frames_bytes fs) (frames_bytes gs) (sym a.all ∙ b.all) in
    let e = append-nil (frames_bytes fs) ∙ same ∙ sym (append-nil (frames_bytes gs)) in
    (unique 8 fs gs [] [] a.frames_are b.frames_are (capture_end bytes fs a) (capture_end bytes gs b) (no_more_other _ refl) (no_more_other _ refl) e).0

bad_same : (why other : CaptureError) → Bad why ≡ Bad other → why ≡ other
bad_same why other e = cc

no_more_bad : (why : CaptureError) → NoMore ≡ Bad why → ⊥
no_more_bad why e = cc

behind_starts : (bytes : List ℕ) (why : CaptureError) → FailsBehind why bytes → starts_with nat_eq bytes magic ≡ false → ⊥
behind_starts bytes why b none = false≢true (sym none ∙ starts_magic bytes (frames_bytes b.frames ++ b.rest) b.all)

pub no_fault : NoFault
no_fault bytes fs why a (inl m) = false≢true (sym m.1 ∙ starts_magic bytes (frames_bytes fs) a.all)
no_fault bytes fs why a (inr b) =
    let same = behind_magic (frames_bytes fs) (frames_bytes b.frames ++ b.rest) (sym a.all ∙ b.all) in
    let e = append-nil (frames_bytes fs) ∙ same in
    let one = unique 8 fs b.frames [] b.rest a.frames_are b.frames_are (capture_end bytes fs a) b.small (no_more_other _ refl) (bad_other _ why b.fault) e in
    no_more_bad why (ap (found (end_at 8 b.frames)) one.1 ∙ b.fault)

pub one_fault : OneFault
one_fault bytes why other (inl m) (inl n) = m.0 ∙ sym n.0
one_fault bytes why other (inl m) (inr b) = absurd (behind_starts bytes other b m.1)
one_fault bytes why other (inr a) (inl n) = absurd (behind_starts bytes why a n.1)
one_fault bytes why other (inr a) (inr b) =
    let same = behind_magic (frames_bytes a.frames ++ a.rest) (frames_bytes b.frames ++ b.rest) (sym a.all ∙ b.all) in
    let one = unique 8 a.frames b.frames a.rest b.rest a.frames_are b.frames_are a.small b.small (bad_other _ why a.fault) (bad_other _ other b.fault) same in
    bad_same why other (sym a.fault ∙ ap₂ (λ (fs : List Frame) (r : List ℕ). found (end_at 8 fs) r) one.0 one.1 ∙ b.fault)

-- what is found at an offset is nothing only if nothing is left
stays : (b : Bool) (why : CaptureError) (x : Found) → (if b then Bad why else x) ≡ NoMore → x ≡ NoMore
stays true why x e = absurd (no_more_bad why (sym e))
stays false why x e = e

stays_two : (b c : Bool) (why other : CaptureError) (x : Found) → (if b then (if c then Bad why else Bad other) else x) ≡ NoMore → x ≡ NoMore
stays_two true true why other x e = absurd (no_more_bad why (sym e))
stays_two true false why other x e = absurd (no_more_bad other (sym e))
stays_two false c why other x e = e

whole_no_more : (f : Frame) (r : List ℕ) → Whole f r ≡ NoMore → ⊥
whole_no_more f r e = cc

no_more_nil : (at : ℕ) (xs : List ℕ) → found at xs ≡ NoMore → xs ≡ []
no_more_nil at [] h = refl
no_more_nil at (k ∷ ks) h =
    let hs = take 17 (k ∷ ks) in
    let more = drop 17 (k ∷ ks) in
    let n = length_in hs in
    let end = Whole (frame_of hs (take n more)) (drop n more) in
    let s1 = stays (nat_lt capture_limit (at + 1)) Limit (if not (is_kind k) then Bad (Kind at) else head_found at k ks) h in
    let s2 = stays (not (is_kind k)) (Kind at) (head_found at k ks) s1 in
    let s3 = stays_two (nat_lt (length ks) 16) (nat_lt capture_limit (at + 1 + length ks)) Limit (Cut at) (if nat_lt capture_limit (at + 17) then Bad Limit else length_found at k hs more) s2 in
    let s4 = stays (nat_lt capture_limit (at + 17)) Limit (length_found at k hs more) s3 in
    let s5 = stays (not (is_length k n)) (Length at) (body_found at hs more) s4 in
    let s6 = stays_two (nat_lt (length more) n) (nat_lt capture_limit (at + 17 + length more)) Limit (Cut at) (if nat_lt capture_limit (at + 17 + n) then Bad Limit else end) s5 in
    let s7 = stays (nat_lt capture_limit (at + 17 + n)) Limit end s6 in
    absurd (whole_no_more _ _ s7)

-- some frames, and then the end or a fault
record Reading (at : ℕ) (xs : List ℕ) : Type 0 where
  frames : List Frame
  rest : List ℕ
  all : xs ≡ frames_bytes frames ++ rest
  small : end_at at frames ≤ capture_limit
  frames_are : AreFrames frames
  last : (rest ≡ []) ⊎ ((why : CaptureError) × (found (end_at at frames) rest ≡ Bad why))

by_found : {P : Type 0} (x : Found) → (x ≡ NoMore → P) → ((why : CaptureError) → x ≡ Bad why → P) → ((f : Frame) (r : List ℕ) → x ≡ Whole f r → P) → P
by_found NoMore a b c = a refl
by_found (Bad why) a b c = b why refl
by_found (Whole f r) a b c = c f r refl

one_more : (at : ℕ) (xs r : List ℕ) (f : Frame) → xs ≡ frame_bytes f ++ r → IsFrame f → IsInRange f → Reading (at + (17 + length f.bytes)) r → Reading at xs
one_more at xs r f is good range more = record {
  frames = f ∷ more.frames;
  rest = more.rest;
  all = is ∙ ap (λ l. frame_bytes f ++ l) more.all ∙ sym (append_assoc (frame_bytes f) (frames_bytes more.frames) more.rest);
  small = more.small;
  frames_are = (good, range, more.frames_are);
  last = more.last;
}

rest_are : (xs r : List ℕ) (f : Frame) → xs ≡ frame_bytes f ++ r → AreBytes xs → AreBytes r
rest_are xs r f is are =
    let there : drop (17 + length f.bytes) xs ≡ r = ap (drop (17 + length f.bytes)) is ∙ drop_at (frame_bytes f) r (17 + length f.bytes) (length_frame f) in
    subst AreBytes there (All-drop (λ b. b < 256) (17 + length f.bytes) xs are)

rest_less : (xs r : List ℕ) (f : Frame) → xs ≡ frame_bytes f ++ r → length r + 17 ≤ length xs
rest_less xs r f is = omega (arith, ap length is ∙ length-append (frame_bytes f) r, length_frame f)

reading : (n at : ℕ) (xs : List ℕ) → length xs ≤ n → at ≤ capture_limit → AreBytes xs → Reading at xs
reading zero at xs few within are =
    by_found (found at xs)
    (λ e. record { frames = []; rest = xs; all = refl; small = within; frames_are = tt; last = inl (no_more_nil at xs e) })
    (λ why e. record { frames = []; rest = xs; all = refl; small = within; frames_are = tt; last = inr (why, e) })
    (λ f r e. let b = writes_back at xs f r are e in absurd (omega (arith, rest_less xs r f b.0)))
reading (suc m) at xs few within are =
    by_found (found at xs)
    (λ e. record { frames = []; rest = xs; all = refl; small = within; frames_are = tt; last = inl (no_more_nil at xs e) })
    (λ why e. record { frames = []; rest = xs; all = refl; small = within; frames_are = tt; last = inr (why, e) })
    (λ f r e. let b = writes_back at xs f r are e in
    one_more at xs r f b.0 b.1 b.2 (reading m (at + (17 + length f.bytes)) r (omega (arith, rest_less xs r f b.0)) b.3 (rest_are xs r f b.0 are)))

answer_of : (bytes xs : List ℕ) → bytes ≡ magic ++ xs → Reading 8 xs → ((fs : List Frame) × IsCapture fs bytes) ⊎ ((why : CaptureError) × CaptureFails why bytes)
answer_of bytes xs is r =
    elim r.last [
      | inl none ↦
          let all : bytes ≡ magic ++ frames_bytes r.frames = is ∙ ap (λ l. magic ++ l) (r.all ∙ ap (λ l. frames_bytes r.frames ++ l) none ∙ append-nil (frames_bytes r.frames)) in
          let small : length bytes ≤ capture_limit = omega (arith, ap length all ∙ length-append magic (frames_bytes r.frames), end_is 8 r.frames, r.small) in
          inl (r.frames, record { all = all; small = small; frames_are = r.frames_are })
      | inr fault ↦
          inr (fault.0, inr (record { frames = r.frames; rest = r.rest; all = is ∙ ap (λ l. magic ++ l) r.all; small = r.small; frames_are = r.frames_are; fault = fault.1 }))
    ]

pub some_answer : SomeAnswer
some_answer bytes are =
    by_test (starts_with nat_eq bytes magic)
    (λ begins.
    let is : bytes ≡ magic ++ drop 8 bytes = (starts_is Decides-eqb bytes magic (starts_with nat_eq bytes magic) refl).0 begins in
    answer_of bytes (drop 8 bytes) is (reading (length (drop 8 bytes)) 8 (drop 8 bytes) (le_refl _) (omega arith) (All-drop (λ b. b < 256) 8 bytes are)))
    (λ other. inr (Magic, inl (refl, other)))
