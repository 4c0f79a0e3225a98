-- One more frame before, and more bytes after.
use Rattle.std.proofs.Common.{◌≡◌, ℕ, ◌+◌, ◌<◌, ◌⊎◌, inl, inr, List, [], ◌∷◌, ◌++◌, length, take, refl, ap, ap₂, sym, ◌∙◌, subst, arith, append_assoc, length-append}
use Rattle.std.specs.declared.option.Option.{Option}
use Rattle.std.specs.Io.KnownBytes.{Appends}
use Rattle.std.proofs.KnownBytes.{Appends-trans}
use Rattle.std.proofs.Math.Seq.{take-append-add}
use Rattle.etp_outside.specs.Told.{Told}
use Rattle.etp_outside.specs.Whole.{AppendsFront}
use Rattle.etp_outside.proofs.ToldLemmas.{told_trans}
use Rattle.etp_capture.specs.Found.{Whole, found}
use Rattle.etp_capture.specs.Capture.{end_at}
use Rattle.etp_capture.specs.declared.frame.Frame.{Frame}
use Rattle.capture_run.specs.Reading.{Front, IsRead}

pub end_at-more : (at : ℕ) (fs : List Frame) (f : Frame) → end_at at (fs ++ f ∷ []) ≡ end_at at fs + (17 + length f.bytes)
end_at-more at [] f = refl
end_at-more at (x ∷ xs) f = end_at-more (at + (17 + length x.bytes)) xs f

pub Front-more : (at : ℕ) (bytes : List ℕ) (fs : List Frame) (mid : List ℕ) (f : Frame) (rest : List ℕ) → Front at bytes fs mid → found (end_at at fs) mid ≡ Whole f rest
    → Front at bytes (fs ++ f ∷ []) rest
Front-more at bytes [] mid f rest front here = (rest, ap (found at) front ∙ here, refl)
Front-more at bytes (x ∷ xs) mid f rest front here = (front.0, front.1, Front-more (at + (17 + length x.bytes)) front.0 xs mid f rest front.2 here)

pub read_more : (a b c : Option (List ℕ)) (fs : List Frame) (f : Frame) (at : ℕ) → end_at 8 fs ≡ at → Told a b (λ xs ys. IsRead xs fs ys) → Told b c (λ xs ys. found at xs ≡ Whole f ys) → Told a c (λ xs ys. IsRead xs (fs ++ f ∷ []) ys)
read_more a b c fs f at place read next =
    told_trans a b c _ _ _ (λ xs ys zs p q. (p.0, p.1, Front-more 8 p.0 fs ys f zs p.2 (ap (λ n. found n ys) place ∙ q))) read next

-- what was still to be written, and more, is what is written now and what is still to be
pub moved : (sent p more now p' : List ℕ) → p ++ more ≡ now ++ p' → (sent ++ p) ++ more ≡ (sent ++ now) ++ p'
moved sent p more now p' e = append_assoc sent p more ∙ ap (λ l. sent ++ l) e ∙ sym (append_assoc sent now p')

-- a front of what comes after
pub more_front : (h k m : Option (List ℕ)) (bytes more : List ℕ) → Appends h k bytes → AppendsFront k m more → AppendsFront h m (bytes ++ more)
more_front h k m bytes more written front =
    let n = front.0 in
    let fits : length bytes + n < length (bytes ++ more) = omega (arith, length-append bytes more, front.1) in
    (length bytes + n, fits, subst (Appends h m) (sym (take-append-add bytes more n)) (Appends-trans h k m bytes (take n more) written front.2))

pub whole_parts : (f g : Frame) (m n : List ℕ) → Whole f m ≡ Whole g n → (f ≡ g) × (m ≡ n)
whole_parts f g m n e = (cc, cc)

-- ---- two readings of one input

-- the second list of frames continues after the first
abbrev pub Longer : ℕ → List Frame → List Frame → List ℕ → Type 0
Longer at fs gs rest = (f : Frame) × (hs : List Frame) × (mid : List ℕ) × (gs ≡ fs ++ f ∷ hs) × (found (end_at at fs) rest ≡ Whole f mid)

longer_first : (f g : Frame) (fs gs : List Frame) (at : ℕ) (rest : List ℕ) → f ≡ g → Longer (at + (17 + length f.bytes)) fs gs rest → Longer at (f ∷ fs) (g ∷ gs) rest
longer_first f g fs gs at rest same l = (l.0, l.1, l.2, ap₂ (λ (x : Frame) (xs : List Frame). x ∷ xs) (sym same) l.3, l.4)

longer_second : (f g : Frame) (fs gs : List Frame) (at : ℕ) (rest : List ℕ) → f ≡ g → Longer (at + (17 + length f.bytes)) gs fs rest → Longer at (g ∷ gs) (f ∷ fs) rest
longer_second f g fs gs at rest same l =
    (l.0, l.1, l.2, ap₂ (λ (x : Frame) (xs : List Frame). x ∷ xs) same l.3, ap (λ (x : Frame). found (end_at (at + (17 + length x.bytes)) gs) rest) (sym same) ∙ l.4)

abbrev pub Compared : ℕ → List Frame → List Frame → List ℕ → List ℕ → Type 0
Compared at fs gs rest other = ((fs ≡ gs) × (rest ≡ other)) ⊎ (Longer at fs gs rest ⊎ Longer at gs fs other)

one_more : (f g : Frame) (fs gs : List Frame) (at : ℕ) (rest other : List ℕ) → f ≡ g → Compared (at + (17 + length f.bytes)) fs gs rest other → Compared at (f ∷ fs) (g ∷ gs) rest other
one_more f g fs gs at rest other same (inl e) = inl (ap₂ (λ (x : Frame) (xs : List Frame). x ∷ xs) same e.0, e.1)
one_more f g fs gs at rest other same (inr (inl l)) = inr (inl (longer_first f g fs gs at rest same l))
one_more f g fs gs at rest other same (inr (inr l)) = inr (inr (longer_second f g fs gs at other same l))

-- frames at the front of one input are the same, or one list continues after the other
pub compared : (fs gs : List Frame) (at : ℕ) (bytes rest other : List ℕ) → Front at bytes fs rest → Front at bytes gs other → Compared at fs gs rest other
compared [] [] at bytes rest other a b = inl (refl, sym a ∙ b)
compared [] (g ∷ gs) at bytes rest other a b = inr (inl (g, gs, b.0, refl, ap (found at) (sym a) ∙ b.1))
compared (f ∷ fs) [] at bytes rest other a b = inr (inr (f, fs, a.0, refl, ap (found at) (sym b) ∙ a.1))
compared (f ∷ fs) (g ∷ gs) at bytes rest other a b =
    let parts = whole_parts f g a.0 b.0 (sym a.1 ∙ b.1) in
    let later : Front (at + (17 + length f.bytes)) b.0 gs other = subst (λ (x : Frame). Front (at + (17 + length x.bytes)) b.0 gs other) (sym parts.0) b.2 in
    one_more f g fs gs at rest other parts.0 (compared fs gs (at + (17 + length f.bytes)) a.0 rest other a.2 (subst (λ l. Front (at + (17 + length f.bytes)) l gs other) (sym parts.1) later))
