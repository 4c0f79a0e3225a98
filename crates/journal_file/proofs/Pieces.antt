-- What writes behind a gate and at a gate leave of a file.
use Rattle.std.proofs.Common.{◌≡◌, ◌+◌, ◌-◌, ◌≤◌, ℕ, min, List, [], ◌∷◌, ◌++◌, length, take, drop, get_or, refl, sym, ◌∙◌, ap, subst, arith, append_assoc, length-append, length-take, length-drop, take-append-drop, None, Some}
use Rattle.std.proofs.lemmas.List.{take_at, drop_at, drop_more, drop_all, drop-drop, append-nil}
use Rattle.std.specs.declared.option.Option.{Option}
use Rattle.etp_outside.specs.Told.{Told}
use Rattle.journal_disk.specs.Disks.{Holds, Torn}

-- what is told before is told after
pub told_on : {X : Type 0} (a b : Option X) (x : X) (P : X → X → Type 0) → a ≡ Some x → Told a b P → (y : X) × (b ≡ Some y) × P x y
told_on None b x P is told = absurd (cc is)
told_on (Some z) None x P is told = absurd told
told_on (Some z) (Some y) x P is told =
    let same : z ≡ x = cc is in
    (y, refl, subst (λ w. P w y) same told)

-- a write that is done leaves one of the contents that one leaves which a crash cuts short
pub held_torn : (at : ℕ) (piece old new : List ℕ) → Holds at piece old new → Torn at (length piece) old new
held_torn at piece old new holds =
    let front : min (min at (length old)) (length new) ≡ min at (length old) = sym (length-take (min at (length old)) new) ∙ ap length holds.before ∙ length-take at old in
    let there : min (length piece) (length new - at) ≡ length piece =
    ap (λ (n : ℕ). min (length piece) n) (sym (length-drop at new)) ∙ sym (length-take (length piece) (drop at new)) ∙ ap length holds.there in
    let after : length new - (at + length piece) ≡ length old - (at + length piece) =
    sym (length-drop (at + length piece) new) ∙ ap length holds.after ∙ length-drop (at + length piece) old in
    record { before = holds.before; after = holds.after; no_shorter = omega (arith, front, there, after); no_longer = omega (arith, front, there, after) }

-- the front of a file that a write left alone
front_kept : (at : ℕ) (f c : List ℕ) → at ≤ length f → take (min at (length f)) c ≡ take at f → take at c ≡ take at f
front_kept at f c fits same =
    let whole : at ≡ min at (length f) = omega (arith, fits) in
    ap (λ (n : ℕ). take n c) whole ∙ same

module _ (front : List ℕ) (gate : ℕ) (at : ℕ) (here : length front ≡ at) where
  with_gate : (rest : List ℕ) → front ++ gate ∷ rest ≡ (front ++ gate ∷ []) ++ rest
  with_gate rest = sym (append_assoc front (gate ∷ []) rest)

  length-gate : length (front ++ gate ∷ []) ≡ at + 1
  length-gate = omega (arith, here, length-append front (gate ∷ []))

  length-file : (rest : List ℕ) → length (front ++ gate ∷ rest) ≡ at + 1 + length rest
  length-file rest = omega (arith, here, length-append front (gate ∷ rest))

  up_to_gate : (rest : List ℕ) → take (at + 1) (front ++ gate ∷ rest) ≡ front ++ gate ∷ []
  up_to_gate rest = ap (λ (l : List ℕ). take (at + 1) l) (with_gate rest) ∙ take_at (front ++ gate ∷ []) rest (at + 1) length-gate

  past_gate : (rest : List ℕ) → drop (at + 1) (front ++ gate ∷ rest) ≡ rest
  past_gate rest = ap (λ (l : List ℕ). drop (at + 1) l) (with_gate rest) ∙ drop_at (front ++ gate ∷ []) rest (at + 1) length-gate

  up_to_front : (rest : List ℕ) → take at (front ++ gate ∷ rest) ≡ front
  up_to_front rest = take_at front (gate ∷ rest) at here

  -- a write behind the gate that a crash cuts short
  pub torn_behind : (rest c : List ℕ) (n : ℕ) → Torn (at + 1) n (front ++ gate ∷ rest) c → (junk : List ℕ) × (c ≡ front ++ gate ∷ junk)
  torn_behind rest c n torn =
      let kept : take (at + 1) c ≡ front ++ gate ∷ [] =
      front_kept (at + 1) (front ++ gate ∷ rest) c (omega (arith, length-file rest)) torn.before ∙ up_to_gate rest in (
        drop (at + 1) c,
        sym (take-append-drop (at + 1) c) ∙ ap (λ (l : List ℕ). l ++ drop (at + 1) c) kept ∙ sym (with_gate (drop (at + 1) c)),
      )

  -- one that is done
  pub held_behind : (rest c piece : List ℕ) → Holds (at + 1) piece (front ++ gate ∷ rest) c → c ≡ front ++ gate ∷ (piece ++ drop (length piece) rest)
  held_behind rest c piece holds =
      let f = front ++ gate ∷ rest in
      let kept : take (at + 1) c ≡ front ++ gate ∷ [] = front_kept (at + 1) f c (omega (arith, length-file rest)) holds.before ∙ up_to_gate rest in
      let tail : drop (length piece) (drop (at + 1) c) ≡ drop (length piece) rest =
      drop-drop (length piece) (at + 1) c ∙ holds.after ∙ sym (drop-drop (length piece) (at + 1) f) ∙ ap (λ (l : List ℕ). drop (length piece) l) (past_gate rest) in
      let behind : drop (at + 1) c ≡ piece ++ drop (length piece) rest =
      sym (take-append-drop (length piece) (drop (at + 1) c)) ∙ ap (λ (l : List ℕ). l ++ drop (length piece) (drop (at + 1) c)) holds.there
      ∙ ap (λ (l : List ℕ). piece ++ l) tail in
      sym (take-append-drop (at + 1) c) ∙ ap (λ (l : List ℕ). l ++ drop (at + 1) c) kept ∙ ap (λ (l : List ℕ). (front ++ gate ∷ []) ++ l) behind
      ∙ sym (with_gate (piece ++ drop (length piece) rest))

  -- a write of the gate that a crash cuts short
  pub torn_gate : (rest c : List ℕ) → Torn at 1 (front ++ gate ∷ rest) c → (other : ℕ) × (c ≡ front ++ other ∷ rest)
  torn_gate rest c torn =
      let f = front ++ gate ∷ rest in
      let other = get_or c at 0 in
      let kept : take at c ≡ front = front_kept at f c (omega (arith, length-file rest)) torn.before ∙ up_to_front rest in
      let behind : drop at c ≡ other ∷ rest =
      drop_more c at 0 (omega (arith, length-file rest, torn.no_shorter)) ∙ ap (λ (l : List ℕ). other ∷ l) (torn.after ∙ past_gate rest) in
      (other, sym (take-append-drop at c) ∙ ap (λ (l : List ℕ). l ++ drop at c) kept ∙ ap (λ (l : List ℕ). front ++ l) behind)

  -- one that is done
  pub held_gate : (rest c : List ℕ) → Holds at (1 ∷ []) (front ++ gate ∷ rest) c → c ≡ front ++ 1 ∷ rest
  held_gate rest c holds =
      let f = front ++ gate ∷ rest in
      let kept : take at c ≡ front = front_kept at f c (omega (arith, length-file rest)) holds.before ∙ up_to_front rest in
      let tail : drop 1 (drop at c) ≡ rest = drop-drop 1 at c ∙ holds.after ∙ past_gate rest in
      let behind : drop at c ≡ 1 ∷ rest =
      sym (take-append-drop 1 (drop at c)) ∙ ap (λ (l : List ℕ). l ++ drop 1 (drop at c)) holds.there ∙ ap (λ (l : List ℕ). 1 ∷ l) tail in
      sym (take-append-drop at c) ∙ ap (λ (l : List ℕ). l ++ drop at c) kept ∙ ap (λ (l : List ℕ). front ++ l) behind

-- a file that was written whole
pub held_whole : (piece c : List ℕ) → Holds 0 piece [] c → c ≡ piece
held_whole piece c holds =
    let start : length piece ≡ 0 + length piece = omega arith in
    let tail : drop (length piece) c ≡ [] = ap (λ (n : ℕ). drop n c) start ∙ holds.after ∙ drop_all (0 + length piece) [] (omega arith) in
    sym (take-append-drop (length piece) c) ∙ ap (λ (l : List ℕ). l ++ drop (length piece) c) holds.there ∙ ap (λ (l : List ℕ). piece ++ l) tail ∙ append-nil piece
