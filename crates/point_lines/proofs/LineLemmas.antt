-- Lines that a reader gives, one after another.
use Rattle.std.proofs.Common.{◌≡◌, ◌==◌, ◌<◌, ◌≤◌, ◌+◌, ◌-◌, ℕ, suc, Bool, true, false, nat_lt, List, [], ◌∷◌, ◌++◌, length, take, drop, slice_range, Option, None, Some, if◌then◌else◌, refl, ap, sym, subst, ◌∙◌, append_assoc, arith}
use Rattle.std.specs.Option.{option_map}
use Rattle.std.specs.Io.KnownBytes.{Consumes, IsAtEnd}
use Rattle.std.proofs.KnownBytes.{Consumes-trans, Consumes-nil}
use Rattle.std.proofs.lemmas.Bool.{ltb-true, ltb-false}
use Rattle.std.proofs.lemmas.List.{append-nil, length-take-le, take_rest, drop-drop}
use Rattle.etp_values.specs.Uri.{parted, put_before}
use Rattle.point_lines.specs.Lines.{in_front, lines_in, Reading, MayFollow, HasGiven, HasGivenAll, MeetsLong, Goes, of_length}
use Rattle.point_lines.specs.Marks.{IsPlace}
use Rattle.point_lines.specs.Reads.{Gathers}
use Rattle.point_lines.specs.declared.lines.Advance.{Advance}
use Rattle.point_lines.specs.declared.lines.Advance.TheVariants as advance
use Rattle.point_lines.proofs.MarkLemmas.{parted_grown, unmapped}

-- ---- the first line

first_here : (bs : List ℕ) (p : List ℕ × List ℕ) → Some ([], bs) ≡ Some p → [] ∷ lines_in bs ≡ p.0 ∷ lines_in p.1
first_here bs p h = let e : ([], bs) ≡ p = cc in ap (λ (q : List ℕ × List ℕ). q.0 ∷ lines_in q.1) e

first_later : (b : ℕ) (bs : List ℕ) (o : Option (List ℕ × List ℕ)) (p : List ℕ × List ℕ) → ((q : List ℕ × List ℕ) → o ≡ Some q → lines_in bs ≡ q.0 ∷ lines_in q.1) → option_map (put_before b) o ≡ Some p → in_front b (lines_in bs) ≡ p.0 ∷ lines_in p.1
first_later b bs None p rest h = cc
first_later b bs (Some q) p rest h = let e : put_before b q ≡ p = cc in ap (in_front b) (rest q refl) ∙ ap (λ (r : List ℕ × List ℕ). r.0 ∷ lines_in r.1) e

first_step : (b : ℕ) (bs : List ℕ) (t : Bool) (p : List ℕ × List ℕ) → ((q : List ℕ × List ℕ) → parted 10 bs ≡ Some q → lines_in bs ≡ q.0 ∷ lines_in q.1) → (if t then Some ([], bs) else option_map (put_before b) (parted 10 bs)) ≡ Some p → (if t then [] ∷ lines_in bs else in_front b (lines_in bs)) ≡ p.0 ∷ lines_in p.1
first_step b bs true p rest h = first_here bs p h
first_step b bs false p rest h = first_later b bs (parted 10 bs) p rest h

-- bytes with a line feed begin with a line
pub lines_of_parts : (bs : List ℕ) (p : List ℕ × List ℕ) → parted 10 bs ≡ Some p → lines_in bs ≡ p.0 ∷ lines_in p.1
lines_of_parts [] p h = cc
lines_of_parts (b ∷ bs) p h = first_step b bs (b == 10) p (lines_of_parts bs) h

-- bytes without a line feed are a line, if there are any
abbrev pub whole : List ℕ → List (List ℕ)
whole [] = []
whole (b ∷ bs) = (b ∷ bs) ∷ []

front_of_whole : (b : ℕ) (bs : List ℕ) → in_front b (whole bs) ≡ (b ∷ bs) ∷ []
front_of_whole b [] = refl
front_of_whole b (c ∷ cs) = refl

last_step : (b : ℕ) (bs : List ℕ) (t : Bool) → (parted 10 bs ≡ None → lines_in bs ≡ whole bs) → (if t then Some ([], bs) else option_map (put_before b) (parted 10 bs)) ≡ None → (if t then [] ∷ lines_in bs else in_front b (lines_in bs)) ≡ (b ∷ bs) ∷ []
last_step b bs true rest h = cc
last_step b bs false rest h = ap (in_front b) (rest (unmapped b (parted 10 bs) h)) ∙ front_of_whole b bs

pub lines_of_whole : (bs : List ℕ) → parted 10 bs ≡ None → lines_in bs ≡ whole bs
lines_of_whole [] h = refl
lines_of_whole (b ∷ bs) h = last_step b bs (b == 10) (lines_of_whole bs) h

-- ---- what was given

may_join : (over : Bool) (more rest : List ℕ) → MayFollow over more → MayFollow over rest → MayFollow over (more ++ rest)
may_join false more rest h k = tt
may_join true more rest h k = ap (λ l. l ++ rest) h ∙ k

-- a further line, if more was taken
pub given_line : (before mid now : Option (List ℕ)) (r : Reading) (given : List (List ℕ)) (more buf : List ℕ) (p : List ℕ × List ℕ) → HasGiven before mid r given → Consumes mid now more → MayFollow r.over more → (r.over ≡ true → IsAtEnd now) → r.ahead ++ more ≡ buf → parted 10 buf ≡ Some p → HasGiven before now (record { line = p.0; ahead = p.1; over = r.over }) (given ++ p.0 ∷ [])
given_line before mid now r given more buf p h took may end is_buf parts = record {
  taken = h.taken ++ more;
  consumed = Consumes-trans before mid now h.taken more h.consumed took;
  lines = λ rest k.
      ap lines_in (append_assoc h.taken more rest) ∙ h.lines (more ++ rest) (may_join r.over more rest may k)
      ∙ ap (λ l. given ++ lines_in l) (sym (append_assoc r.ahead more rest) ∙ ap (λ l. l ++ rest) is_buf)
      ∙ ap (λ l. given ++ l) (lines_of_parts (buf ++ rest) (p.0, p.1 ++ rest) (parted_grown 10 buf rest p parts))
      ∙ sym (append_assoc given (p.0 ∷ []) (lines_in (p.1 ++ rest)));
  end = end;
}

empty : (buf : List ℕ) → length buf ≡ 0 → buf ≡ []
empty [] h = refl
empty (b ∷ bs) h = absurd (omega arith)

whole_line : (buf : List ℕ) → 0 < length buf → whole buf ≡ buf ∷ []
whole_line [] some = absurd (omega arith)
whole_line (b ∷ bs) some = refl

-- all that was taken, if the input has ended
taken_all : (before mid : Option (List ℕ)) (r : Reading) (given : List (List ℕ)) (more buf : List ℕ) (h : HasGiven before mid r given) → MayFollow r.over more → r.ahead ++ more ≡ buf → parted 10 buf ≡ None → lines_in (h.taken ++ more) ≡ given ++ whole buf
taken_all before mid r given more buf h may is_buf clear =
    h.lines more may ∙ ap (λ l. given ++ lines_in l) is_buf ∙ ap (λ l. given ++ l) (lines_of_whole buf clear)

-- the last line, which the input ends
pub given_last : (before mid now : Option (List ℕ)) (r : Reading) (given : List (List ℕ)) (more buf : List ℕ) → HasGiven before mid r given → Consumes mid now more → MayFollow r.over more → IsAtEnd now → r.ahead ++ more ≡ buf → parted 10 buf ≡ None → 0 < length buf → HasGiven before now (record { line = buf; ahead = []; over = true }) (given ++ buf ∷ [])
given_last before mid now r given more buf h took may end is_buf clear some = record {
  taken = h.taken ++ more;
  consumed = Consumes-trans before mid now h.taken more h.consumed took;
  lines = λ rest k.
      ap (λ l. lines_in (h.taken ++ more ++ l)) k ∙ ap lines_in (append-nil (h.taken ++ more)) ∙ taken_all before mid r given more buf h may is_buf clear
      ∙ ap (λ l. given ++ l) (whole_line buf some) ∙ sym (append-nil (given ++ buf ∷ [])) ∙ ap (λ l. given ++ buf ∷ [] ++ lines_in l) (sym k);
  end = λ _. end;
}

-- all lines
pub given_all : (before mid now : Option (List ℕ)) (r : Reading) (given : List (List ℕ)) (more : List ℕ) → HasGiven before mid r given → Consumes mid now more → MayFollow r.over more → IsAtEnd now → r.ahead ++ more ≡ [] → HasGivenAll before now given
given_all before mid now r given more h took may end is_buf = record {
  taken = h.taken ++ more;
  consumed = Consumes-trans before mid now h.taken more h.consumed took;
  lines = taken_all before mid r given more [] h may is_buf refl ∙ append-nil given;
  end = end;
}

-- a line that is too long, with its line feed
pub meets_long : (before mid now : Option (List ℕ)) (r : Reading) (given : List (List ℕ)) (more buf : List ℕ) (p : List ℕ × List ℕ) → HasGiven before mid r given → Consumes mid now more → MayFollow r.over more → r.ahead ++ more ≡ buf → parted 10 buf ≡ Some p → 65536 < length p.0 → MeetsLong before now given
meets_long before mid now r given more buf p h took may is_buf parts long = record {
  taken = h.taken ++ more;
  long = p.0;
  later = lines_in p.1;
  consumed = Consumes-trans before mid now h.taken more h.consumed took;
  lines = h.lines more may ∙ ap (λ l. given ++ lines_in l) is_buf ∙ ap (λ l. given ++ l) (lines_of_parts buf p parts);
  is_long = long;
}

-- one without it
pub meets_long_end : (before mid now : Option (List ℕ)) (r : Reading) (given : List (List ℕ)) (more buf : List ℕ) → HasGiven before mid r given → Consumes mid now more → MayFollow r.over more → r.ahead ++ more ≡ buf → parted 10 buf ≡ None → 65536 < length buf → MeetsLong before now given
meets_long_end before mid now r given more buf h took may is_buf clear long = record {
  taken = h.taken ++ more;
  long = buf;
  later = [];
  consumed = Consumes-trans before mid now h.taken more h.consumed took;
  lines = taken_all before mid r given more buf h may is_buf clear ∙ ap (λ l. given ++ l) (whole_line buf (omega arith));
  is_long = long;
}

-- ---- by what the reader holds

-- an answer by the length of the line
by_length : (answer : Advance) (n : ℕ) (t : Bool) (before now : Option (List ℕ)) (r : Reading) (given : List (List ℕ)) → answer ≡ (if t then advance.TooLong else advance.Line) → nat_lt 65536 n ≡ t → n ≡ length r.line → HasGiven before now r (given ++ r.line ∷ []) → (65536 < length r.line → MeetsLong before now given) → Goes answer before now r given
by_length answer n true before now r given is test long fine much =
    subst (λ a. Goes a before now r given) (sym is) (much (let over : 65536 < n = ltb-true 65536 n test in omega arith))
by_length answer n false before now r given is test long fine much =
    let short : n ≤ 65536 = ltb-false 65536 n test in
    let within : length r.line ≤ 65536 = omega arith in
    subst (λ a. Goes a before now r given) (sym is) (fine, within)

may_nothing : (over : Bool) → MayFollow over []
may_nothing false = tt
may_nothing true = refl

-- the input has ended: it had before, and is the same, or it has now
pub ended : (over : Bool) (mid now : Option (List ℕ)) → (over ≡ true → IsAtEnd mid) → (over ≡ true → now ≡ mid) → (over ≡ false → IsAtEnd now) → IsAtEnd now
ended true mid now before same here = subst IsAtEnd (sym (same refl)) (before refl)
ended false mid now before same here = here refl

pub still_ended : (over : Bool) (mid now : Option (List ℕ)) → (over ≡ true → IsAtEnd mid) → (over ≡ true → now ≡ mid) → over ≡ true → IsAtEnd now
still_ended over mid now before same is = subst IsAtEnd (sym (same is)) (before is)

-- a line feed is at this offset of what is gathered
pub fed_line : (answer : Advance) (i : ℕ) (before mid now : Option (List ℕ)) (r : Reading) (buf line ahead : List ℕ) (given : List (List ℕ)) → answer ≡ of_length i → Gathers r.over mid now r.ahead buf → IsPlace 10 buf (Some i) → (r.over ≡ true → IsAtEnd now) → line ≡ take i buf → ahead ≡ drop (suc i) buf → HasGiven before mid r given → Goes answer before now (record { line = line; ahead = ahead; over = r.over }) given
fed_line answer i before mid now r buf line ahead given is g place end is_line is_ahead h =
    let parts : parted 10 buf ≡ Some (line, ahead) = place.1 ∙ ap (λ l. Some (l, drop (suc i) buf)) (sym is_line) ∙ ap (λ l. Some (line, l)) (sym is_ahead) in
    let long : i ≡ length line = sym (length-take-le i buf (omega (arith, place.0))) ∙ ap length (sym is_line) in
    by_length answer i (nat_lt 65536 i) before now (record { line = line; ahead = ahead; over = r.over }) given is refl long
    (given_line before mid now r given g.more buf (line, ahead) h g.took g.may end g.all parts)
    (λ much. meets_long before mid now r given g.more buf (line, ahead) h g.took g.may g.all parts much)

-- nothing more comes, and what is gathered is the last line
pub last_line : (answer : Advance) (n : ℕ) (before mid now : Option (List ℕ)) (r : Reading) (buf line ahead : List ℕ) (given : List (List ℕ)) → answer ≡ of_length n → Gathers r.over mid now r.ahead buf → parted 10 buf ≡ None → IsAtEnd now → n ≡ length buf → 0 < n → line ≡ buf → ahead ≡ [] → HasGiven before mid r given → Goes answer before now (record { line = line; ahead = ahead; over = true }) given
last_line answer n before mid now r buf line ahead given is g clear end long some is_line is_ahead h =
    let whole_given = given_last before mid now r given g.more buf h g.took g.may end g.all clear (omega arith) in
    let held : Reading = record { line = buf; ahead = []; over = true } in
    let shown : Reading = record { line = line; ahead = ahead; over = true } in
    let same : held ≡ shown = ap (λ l. record { line = l; ahead = []; over = true }) (sym is_line) ∙ ap (λ l. record { line = line; ahead = l; over = true }) (sym is_ahead) in
    by_length answer n (nat_lt 65536 n) before now shown given is refl (long ∙ ap length (sym is_line))
    (subst (λ (q : Reading). HasGiven before now q (given ++ q.line ∷ [])) same whole_given)
    (λ much. meets_long_end before mid now r given g.more buf h g.took g.may g.all clear (let e : length line ≡ length buf = ap length is_line in omega arith))

-- nothing more comes, and nothing is left
pub no_line : (before mid now : Option (List ℕ)) (r : Reading) (buf : List ℕ) (given : List (List ℕ)) → Gathers r.over mid now r.ahead buf → IsAtEnd now → length buf ≡ 0 → HasGiven before mid r given → HasGivenAll before now given
no_line before mid now r buf given g end nothing h = given_all before mid now r given g.more h g.took g.may end (g.all ∙ empty buf nothing)

-- too much is gathered
pub long_line : (before mid now : Option (List ℕ)) (r : Reading) (buf : List ℕ) (given : List (List ℕ)) → Gathers r.over mid now r.ahead buf → parted 10 buf ≡ None → 65536 < length buf → HasGiven before mid r given → MeetsLong before now given
long_line before mid now r buf given g clear long h = meets_long_end before mid now r given g.more buf h g.took g.may g.all clear long

-- the line was read ahead already
pub next_line : (answer : Advance) (i : ℕ) (before mid : Option (List ℕ)) (r : Reading) (line ahead : List ℕ) (given : List (List ℕ)) → answer ≡ of_length i → IsPlace 10 r.ahead (Some i) → line ≡ take i r.ahead → ahead ≡ drop (suc i) r.ahead → HasGiven before mid r given → Goes answer before mid (record { line = line; ahead = ahead; over = r.over }) given
next_line answer i before mid r line ahead given is place is_line is_ahead h =
    fed_line answer i before mid mid r r.ahead line ahead given is (record { more = []; took = Consumes-nil mid; may = may_nothing r.over; all = append-nil r.ahead }) place h.end is_line is_ahead h

-- parts of what is held
pub ahead_at : (buf : List ℕ) (start i : ℕ) → drop (start + i + 1) buf ≡ drop (suc i) (drop start buf)
ahead_at buf start i = let e : start + i + 1 ≡ start + suc i = omega arith in ap (λ n. drop n buf) e ∙ sym (drop-drop (suc i) start buf)

pub rest_at : (buf : List ℕ) (start : ℕ) → slice_range buf start (length buf) ≡ drop start buf
rest_at buf start = take_rest buf start

pub line_first : (buf : List ℕ) (i : ℕ) → slice_range buf 0 i ≡ take i buf
line_first buf i = let e : i - 0 ≡ i = omega arith in ap (λ n. take n buf) e
