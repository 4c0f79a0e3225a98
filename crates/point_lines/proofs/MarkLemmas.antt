-- The first mark among bytes.
use Rattle.std.proofs.Common.{◌≡◌, ◌==◌, ◌<◌, ◌≤◌, ◌+◌, ◌-◌, ℕ, suc, Bool, true, false, List, [], ◌∷◌, ◌++◌, length, get_or, take, drop, Option, None, Some, if◌then◌else◌, refl, ap, sym, subst, ◌∙◌, arith, slice_range, add-one, drop-cons}
use Rattle.std.specs.Option.{option_map, is_some}
use Rattle.std.proofs.lemmas.Bool.{false≢true, eq-eqb, ne_eqb}
use Rattle.std.proofs.lemmas.List.{take-append-drop, append-nil, drop-drop, take_more, length-drop, take_rest}
use lib.Seq.{take-add}
use Rattle.etp_values.specs.Uri.{parted, put_before}
use Rattle.point_lines.specs.Marks.{IsPlace}

-- bytes put before the first of two parts
abbrev pub behind : List ℕ → Option (List ℕ × List ℕ) → Option (List ℕ × List ℕ)
behind xs None = None
behind xs (Some p) = Some (xs ++ p.0, p.1)

behind_nothing : (o : Option (List ℕ × List ℕ)) → o ≡ behind [] o
behind_nothing None = refl
behind_nothing (Some p) = refl

behind_more : (b : ℕ) (xs : List ℕ) (o : Option (List ℕ × List ℕ)) → option_map (put_before b) (behind xs o) ≡ behind (b ∷ xs) o
behind_more b xs None = refl
behind_more b xs (Some p) = refl

pub unmapped : (b : ℕ) (o : Option (List ℕ × List ℕ)) → option_map (put_before b) o ≡ None → o ≡ None
unmapped b None h = refl
unmapped b (Some p) h = cc

join_step : (mark b : ℕ) (bs ys : List ℕ) (t : Bool) → (parted mark bs ≡ None → parted mark (bs ++ ys) ≡ behind bs (parted mark ys)) → (if t then Some ([], bs) else option_map (put_before b) (parted mark bs)) ≡ None → (if t then Some ([], bs ++ ys) else option_map (put_before b) (parted mark (bs ++ ys))) ≡ behind (b ∷ bs) (parted mark ys)
join_step mark b bs ys true rest h = cc
join_step mark b bs ys false rest h = ap (option_map (put_before b)) (rest (unmapped b (parted mark bs) h)) ∙ behind_more b bs (parted mark ys)

-- after bytes without the mark
pub parted_join : (mark : ℕ) (xs ys : List ℕ) → parted mark xs ≡ None → parted mark (xs ++ ys) ≡ behind xs (parted mark ys)
parted_join mark [] ys h = behind_nothing (parted mark ys)
parted_join mark (b ∷ bs) ys h = join_step mark b bs ys (b == mark) (parted_join mark bs ys) h

-- more bytes after two parts
abbrev pub lengthened : List ℕ → List ℕ × List ℕ → List ℕ × List ℕ
lengthened ys p = (p.0, p.1 ++ ys)

lengthened_more : (b : ℕ) (ys : List ℕ) (o : Option (List ℕ × List ℕ)) → option_map (put_before b) (option_map (lengthened ys) o) ≡ option_map (lengthened ys) (option_map (put_before b) o)
lengthened_more b ys None = refl
lengthened_more b ys (Some p) = refl

some_mapped : (b : ℕ) (o : Option (List ℕ × List ℕ)) → is_some (option_map (put_before b) o) ≡ true → is_some o ≡ true
some_mapped b None h = h
some_mapped b (Some p) h = refl

grown_step : (mark b : ℕ) (bs ys : List ℕ) (t : Bool) → (is_some (parted mark bs) ≡ true → parted mark (bs ++ ys) ≡ option_map (lengthened ys) (parted mark bs)) → is_some (if t then Some ([], bs) else option_map (put_before b) (parted mark bs)) ≡ true → (if t then Some ([], bs ++ ys) else option_map (put_before b) (parted mark (bs ++ ys))) ≡ option_map (lengthened ys) (if t then Some ([], bs) else option_map (put_before b) (parted mark bs))
grown_step mark b bs ys true rest h = refl
grown_step mark b bs ys false rest h = ap (option_map (put_before b)) (rest (some_mapped b (parted mark bs) h)) ∙ lengthened_more b ys (parted mark bs)

parted_more : (mark : ℕ) (xs ys : List ℕ) → is_some (parted mark xs) ≡ true → parted mark (xs ++ ys) ≡ option_map (lengthened ys) (parted mark xs)
parted_more mark [] ys h = absurd (false≢true h)
parted_more mark (b ∷ bs) ys h = grown_step mark b bs ys (b == mark) (parted_more mark bs ys) h

-- what follows bytes with the mark comes after it
pub parted_grown : (mark : ℕ) (xs ys : List ℕ) (p : List ℕ × List ℕ) → parted mark xs ≡ Some p → parted mark (xs ++ ys) ≡ Some (p.0, p.1 ++ ys)
parted_grown mark xs ys p h = parted_more mark xs ys (ap is_some h) ∙ ap (option_map (lengthened ys)) h

-- ---- by the place

one : (mark b : ℕ) (ys : List ℕ) (t : Bool) → t ≡ true → (if t then Some ([], ys) else option_map (put_before b) (parted mark ys)) ≡ Some ([], ys)
one mark b ys true h = refl
one mark b ys false h = absurd (false≢true h)

none_yet : (mark b : ℕ) (t : Bool) → t ≡ false → (if t then Some ([], []) else option_map (put_before b) (parted mark [])) ≡ None
none_yet mark b true h = absurd (false≢true (sym h))
none_yet mark b false h = refl

pub place_found : (mark : ℕ) (bytes : List ℕ) (i : ℕ) → i < length bytes → get_or bytes i 0 ≡ mark → parted mark (take i bytes) ≡ None → parted mark bytes ≡ Some (take i bytes, drop (suc i) bytes)
place_found mark bytes i within here clear =
    let whole : take i bytes ++ (get_or bytes i 0 ∷ drop (suc i) bytes) ≡ bytes = ap (λ l. take i bytes ++ l) (sym (drop-cons bytes i 0 within)) ∙ take-append-drop i bytes in
    ap (parted mark) (sym whole) ∙ parted_join mark (take i bytes) (get_or bytes i 0 ∷ drop (suc i) bytes) clear
    ∙ ap (behind (take i bytes)) (one mark (get_or bytes i 0) (drop (suc i) bytes) (get_or bytes i 0 == mark) (eq-eqb (get_or bytes i 0) mark here))
    ∙ ap (λ l. Some (l, drop (suc i) bytes)) (append-nil (take i bytes))

pub place_next : (mark : ℕ) (bytes : List ℕ) (i : ℕ) → i < length bytes → (get_or bytes i 0 ≡ mark → ⊥) → parted mark (take i bytes) ≡ None → parted mark (take (i + 1) bytes) ≡ None
place_next mark bytes i within other clear =
    ap (parted mark) (take_more bytes i 0 within) ∙ parted_join mark (take i bytes) (get_or bytes i 0 ∷ []) clear
    ∙ ap (behind (take i bytes)) (none_yet mark (get_or bytes i 0) (get_or bytes i 0 == mark) (ne_eqb (get_or bytes i 0) mark other))

pub behind_none : (mark : ℕ) (bytes : List ℕ) (seen : ℕ) → parted mark (take seen bytes) ≡ None → parted mark (slice_range bytes seen (length bytes)) ≡ None → parted mark bytes ≡ None
behind_none mark bytes seen clear h =
    ap (parted mark) (sym (take-append-drop seen bytes)) ∙ parted_join mark (take seen bytes) (drop seen bytes) clear
    ∙ ap (behind (take seen bytes)) (ap (parted mark) (sym (take_rest bytes seen)) ∙ h)

pub behind_some : (mark : ℕ) (bytes : List ℕ) (seen i : ℕ) → parted mark (take seen bytes) ≡ None → seen ≤ length bytes → IsPlace mark (slice_range bytes seen (length bytes)) (Some i) → IsPlace mark bytes (Some (seen + i))
behind_some mark bytes seen i clear within h =
    let part = take_rest bytes seen in
    let place : IsPlace mark (drop seen bytes) (Some i) = subst (λ l. IsPlace mark l (Some i)) part h in
    let long : length (drop seen bytes) ≡ length bytes - seen = length-drop seen bytes in
    let far : seen + suc i ≡ suc (seen + i) = omega arith in (
      omega (arith, place.0, long),
      ap (parted mark) (sym (take-append-drop seen bytes)) ∙ parted_join mark (take seen bytes) (drop seen bytes) clear
          ∙ ap (behind (take seen bytes)) place.1
          ∙ ap (λ l. Some (l, drop (suc i) (drop seen bytes))) (sym (take-add seen i bytes))
          ∙ ap (λ l. Some (take (seen + i) bytes, l)) (drop-drop (suc i) seen bytes ∙ ap (λ k. drop k bytes) far),
    )

-- the parts before and after a mark, as they are sliced
pub parts_sliced : (mark : ℕ) (bytes : List ℕ) (i : ℕ) → IsPlace mark bytes (Some i) → Some (take i bytes, slice_range bytes (i + 1) (length bytes)) ≡ parted mark bytes
parts_sliced mark bytes i place =
    ap (λ l. Some (take i bytes, l)) (take_rest bytes (i + 1) ∙ ap (λ n. drop n bytes) (add-one i)) ∙ sym place.1
