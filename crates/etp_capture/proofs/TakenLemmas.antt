-- What a read that failed took from the source: no whole frame, or no more than one.
use Rattle.std.proofs.Common.{◌≡◌, ◌≢◌, ℕ, zero, suc, ◌+◌, ◌<◌, ◌≤◌, ◌⊎◌, Bool, true, false, nat_eq, nat_lt, if◌then◌else◌, List, [], ◌∷◌, ◌++◌, length, take, drop, refl, ap, sym, ◌∙◌, subst, arith, take_all, append_assoc, append-nil, Result, Ok, Err, Option, Some, None}
use Rattle.std.specs.List.{starts_with}
use Rattle.std.proofs.lemmas.Bool.Decides.{nat_tests}
use Rattle.etp_outside.specs.Told.{Told}
use Rattle.etp_capture.specs.Frames.{magic, capture_limit, length_in, frame_of, IsHead}
use Rattle.etp_capture.specs.Found.{Found, Whole, NoMore, Bad, found, body_found, next_found}
use Rattle.etp_capture.specs.Reader.{IsNoFrame, IsOneAtMost, TakesBelow, Shows, Answers, MagicFault}
use Rattle.etp_capture.specs.declared.frame.Frame.{Frame}
use Rattle.etp_capture.specs.declared.reader.CaptureError.{CaptureError}
use Rattle.etp_capture.specs.declared.reader.CaptureError.TheVariants.{Magic, Kind, Length, Cut, Limit, ReadFault, NoMemory}
use Rattle.etp_capture.proofs.FoundLemmas.{front_body, head_whole}
use Rattle.etp_capture.proofs.MagicLemmas.{short_starts, next_first}
use Rattle.etp_capture.proofs.CaptureLemmas.{found_parts}

-- ---- no whole frame in few bytes

none_of : (x : Found) → ((f : Frame) (r : List ℕ) → x ≡ Whole f r → ⊥) → IsNoFrame x
none_of (Whole f r) other = other f r refl
none_of NoMore other = tt
none_of (Bad why) other = tt

-- in fewer bytes than a head
head_short : (at : ℕ) (taken : List ℕ) → length taken < 17 → IsNoFrame (found at taken)
head_short at [] few = tt
head_short at (k ∷ ks) few = none_of (found at (k ∷ ks)) (λ f r e. absurd (omega (arith, (found_parts at k ks f r e).1)))

drop_most : (n : ℕ) (xs : List ℕ) → length xs ≤ n → drop n xs ≡ []
drop_most zero [] most = refl
drop_most zero (x ∷ xs) most = absurd (omega arith)
drop_most (suc n) [] most = refl
drop_most (suc n) (x ∷ xs) most = drop_most n xs (omega arith)

one_of : (b c d : Bool) (why other : CaptureError) (f : Frame) (r : List ℕ) → r ≡ [] → IsOneAtMost (if b then (if c then Bad why else Bad other) else (if d then Bad why else Whole f r))
one_of true true d why other f r nil = tt
one_of true false d why other f r nil = tt
one_of false c true why other f r nil = tt
one_of false c false why other f r nil = nil

-- after a head, in no more bytes than it states
body_most : (at : ℕ) (head taken : List ℕ) → length taken ≤ length_in head → IsOneAtMost (body_found at head taken)
body_most at head taken most =
    one_of (nat_lt (length taken) (length_in head)) (nat_lt capture_limit (at + 17 + length taken)) (nat_lt capture_limit (at + 17 + length_in head)) Limit (Cut at)
    (frame_of head (take (length_in head) taken)) (drop (length_in head) taken) (drop_most (length_in head) taken most)

pub body_unread : (at : ℕ) (head taken xs ys : List ℕ) → length taken ≤ length_in head → xs ≡ taken ++ ys → Shows NoMemory (body_found at head) xs ys
body_unread at head taken xs ys most is = (taken, is, body_most at head taken most)

pub head_unread : (at limit : ℕ) (xs ys : List ℕ) → limit ≤ 17 → TakesBelow limit xs ys → Shows ReadFault (found at) xs ys
head_unread at limit xs ys few h = (h.0, h.1, head_short at h.0 (omega (arith, h.2)))

-- ---- bytes that were taken in front

-- what shows after some bytes shows after them by another function that finds the same there
pub shows_behind : (e : CaptureError) (front : List ℕ) (find other : List ℕ → Found) (xs ys zs : List ℕ) → ((rest : List ℕ) → other (front ++ rest) ≡ find rest)
    → xs ≡ front ++ ys → Shows e find ys zs → Shows e other xs zs
shows_behind NoMemory front find other xs ys zs same is h =
    (front ++ h.0, is ∙ ap (λ l. front ++ l) h.1 ∙ sym (append_assoc front h.0 zs), subst IsOneAtMost (sym (same h.0)) h.2)
shows_behind ReadFault front find other xs ys zs same is h =
    (front ++ h.0, is ∙ ap (λ l. front ++ l) h.1 ∙ sym (append_assoc front h.0 zs), subst IsNoFrame (sym (same h.0)) h.2)
shows_behind Magic front find other xs ys zs same is h = ap other is ∙ same ys ∙ h
shows_behind (Kind o) front find other xs ys zs same is h = ap other is ∙ same ys ∙ h
shows_behind (Length o) front find other xs ys zs same is h = ap other is ∙ same ys ∙ h
shows_behind (Cut o) front find other xs ys zs same is h = ap other is ∙ same ys ∙ h
shows_behind Limit front find other xs ys zs same is h = ap other is ∙ same ys ∙ h

pub answers_behind : (r : Result (Option Frame) CaptureError) (front : List ℕ) (find other : List ℕ → Found) (xs ys zs : List ℕ) → ((rest : List ℕ) → other (front ++ rest) ≡ find rest)
    → xs ≡ front ++ ys → Answers r find ys zs → Answers r other xs zs
answers_behind (Ok (Some frame)) front find other xs ys zs same is h = ap other is ∙ same ys ∙ h
answers_behind (Ok None) front find other xs ys zs same is h = (ap other is ∙ same ys ∙ h.0, h.1)
answers_behind (Err e) front find other xs ys zs same is h = shows_behind e front find other xs ys zs same is h

-- after a head that was read comes its payload
pub head_behind : (at : ℕ) (head rest : List ℕ) → IsHead head → at + 17 ≤ capture_limit → found at (head ++ rest) ≡ body_found at head rest
head_behind at head rest good within =
    let all : take 17 head ≡ head = take_all 17 head (omega (arith, good.long)) in
    let parts = head_whole head rest good.long in
    ap (λ l. found at (l ++ rest)) (sym all) ∙ front_body head at rest good.long within good.kind good.payload
    ∙ ap (λ l. body_found at l (drop 17 (take 17 head ++ rest))) parts.0 ∙ ap (body_found at head) parts.1

-- after the magic comes the first frame
pub answers_first : (r : Result (Option Frame) CaptureError) (at : ℕ) (xs ys zs : List ℕ) → at < 8 → xs ≡ magic ++ ys → Answers r (found 8) ys zs → Answers r (next_found at) xs zs
answers_first r at xs ys zs early is h = answers_behind r magic (found 8) (next_found at) xs ys zs (λ rest. next_first at rest early) is h

-- ---- the magic

magic_short : (at : ℕ) (taken : List ℕ) → at < 8 → length taken < 8 → IsNoFrame (next_found at taken)
magic_short at taken early few =
    let all : taken ≡ take (length taken) taken ++ [] = sym (append-nil (take (length taken) taken) ∙ take_all (length taken) taken (omega arith)) in
    let none_there : starts_with nat_eq taken magic ≡ false = short_starts (length taken) taken taken [] (omega arith) few all refl in
    let bad : next_found at taken ≡ Bad Magic = grind (arith, nat_tests) in
    subst IsNoFrame (sym bad) tt

pub magic_shows : (e : CaptureError) (at : ℕ) (xs ys : List ℕ) → at < 8 → (e ≡ Magic) ⊎ (e ≡ ReadFault) → MagicFault e xs ys → Shows e (next_found at) xs ys
magic_shows Magic at xs ys early which h = grind (arith, nat_tests)
magic_shows ReadFault at xs ys early which h = (h.0, h.1, magic_short at h.0 early h.2)
magic_shows NoMemory at xs ys early which h = absurd (grind arith)
magic_shows (Kind o) at xs ys early which h = absurd (grind arith)
magic_shows (Length o) at xs ys early which h = absurd (grind arith)
magic_shows (Cut o) at xs ys early which h = absurd (grind arith)
magic_shows Limit at xs ys early which h = absurd (grind arith)

-- ---- what a source reveals

-- nothing was taken after a head
pub told_unread : (a : Option (List ℕ)) (at : ℕ) (head : List ℕ) → Told a a (Shows NoMemory (body_found at head))
told_unread None at head = tt
told_unread (Some xs) at head = body_unread at head [] xs xs (omega arith) refl

-- an error of a head is neither a fault of the source nor running out of memory
pub shows_bad : {U : Type 0} (r : Result U CaptureError) (e : CaptureError) (find : List ℕ → Found) (xs ys : List ℕ) → r ≡ Err e → (r ≢ Err ReadFault) × (r ≢ Err NoMemory) → find xs ≡ Bad e → Shows e find xs ys
shows_bad r ReadFault find xs ys is never h = absurd (never.0 is)
shows_bad r NoMemory find xs ys is never h = absurd (never.1 is)
shows_bad r Magic find xs ys is never h = h
shows_bad r (Kind o) find xs ys is never h = h
shows_bad r (Length o) find xs ys is never h = h
shows_bad r (Cut o) find xs ys is never h = h
shows_bad r Limit find xs ys is never h = h
