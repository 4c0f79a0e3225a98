-- What a line that was read makes of what is left to load.
use Rattle.std.proofs.Common.{◌≡◌, ◌+◌, ◌<◌, ◌≤◌, ◌==◌, ℕ, ℤ, Bool, true, false, nat_lt, List, [], ◌∷◌, ◌++◌, length, Option, None, Some, if◌then◌else◌, refl, ap, ◌∙◌, arith}
use Rattle.std.proofs.lemmas.Bool.Decides.{nat_tests}
use Rattle.std.proofs.lemmas.List.{append-nil}
use Rattle.std.specs.Io.KnownBytes.{IsAtEnd}
use Rattle.client_core.specs.declared.ask.Ask.TheVariants as asked
use Rattle.etp_outside.specs.declared.status.Status.{Status}
use Rattle.etp_outside.specs.declared.status.Status.TheVariants as status
use Rattle.etp_values.specs.declared.point.Point.{Point}
use Rattle.point_lines.specs.Lines.{HasGiven, HasGivenAll, MayFollow, MeetsLong, Reading, in_front, lines_in}
use Rattle.point_lines.specs.Points.{point_in}
use Rattle.client_forms.specs.Ctl.{Course, asks, ends_first, loads, loads_from, loads_one}
use Rattle.client_forms.specs.Filling.{takes}
use Rattle.client_forms.specs.Loading.{Filled, Read, closes_message, filled, of_channel, read_lines, with_line}

-- ---- one more line

not_long : (n : ℕ) → n ≤ 65536 → nat_lt 65536 n ≡ false
not_long n h = grind (arith, nat_tests, h)

is_long : (n : ℕ) → 65536 < n → nat_lt 65536 n ≡ true
is_long n h = grind (arith, nat_tests, h)

module _ (channel : ℤ) (kind n : ℕ) (held : List Point) (line : List ℕ) (later : List (List ℕ)) (c : Course) where
  -- a line that is not too long, by its point
  by_point : (o : Option Point) → length line ≤ 65536 → point_in kind line ≡ o → read_lines kind n (line ∷ later) ≡ with_line n o (read_lines kind (n + 1) later)
  by_point o short is =
      ap (λ (b : Bool). if b then record { points = []; refused = Some status.Limit } else with_line n (point_in kind line) (read_lines kind (n + 1) later)) (not_long (length line) short)
      ∙ ap (λ (q : Option Point). with_line n q (read_lines kind (n + 1) later)) is

  pub long_line : 65536 < length line → loads_from channel kind n held (line ∷ later) c ≡ ends_first status.Limit c
  long_line long =
      ap (λ (b : Bool). let r : Read = if b then record { points = []; refused = Some status.Limit } else with_line n (point_in kind line) (read_lines kind (n + 1) later) in loads channel r.refused (filled held r.points) c) (is_long (length line) long)

closed_first : (channel : ℤ) (o : Option Status) (held : List Point) (f : Filled) (c : Course) → loads channel o (closes_message held f) c ≡ loads channel o f (loads_one channel c held)
closed_first channel None held f c = refl
closed_first channel (Some st) held f c = refl

module _ (channel : ℤ) (kind n : ℕ) (held : List Point) (line : List ℕ) (later : List (List ℕ)) (p : Point) (short : length line ≤ 65536) (is : point_in kind line ≡ Some p) (c : Course) where
  by_test : (t : Bool) → takes held p ≡ t → loads_from channel kind n held (line ∷ later) c
      ≡ (let r = read_lines kind (n + 1) later in loads channel r.refused (if t then filled (held ++ p ∷ []) r.points else closes_message held (filled (p ∷ []) r.points)) c)
  by_test t test =
      ap (λ (r : Read). loads channel r.refused (filled held r.points) c) (by_point channel kind n held line later c (Some p) short is)
      ∙ ap (λ (b : Bool). let r = read_lines kind (n + 1) later in loads channel r.refused (if b then filled (held ++ p ∷ []) r.points else closes_message held (filled (p ∷ []) r.points)) c) test

  -- the message takes its point
  pub taken_line : takes held p ≡ true → loads_from channel kind n held (line ∷ later) c ≡ loads_from channel kind (n + 1) (held ++ p ∷ []) later c
  taken_line test = by_test true test

  -- the message is full, and its point begins the next one
  pub full_line : takes held p ≡ false → loads_from channel kind n held (line ∷ later) c ≡ loads_from channel kind (n + 1) (p ∷ []) later (asks (asked.Load (of_channel channel held)) c)
  full_line test = by_test false test ∙ (let r = read_lines kind (n + 1) later in closed_first channel r.refused held (filled (p ∷ []) r.points) c)

-- ---- what a reader has given

may_be : (over : Bool) (rest : List ℕ) → (over ≡ true → IsAtEnd (Some rest)) → MayFollow over rest
may_be false rest h = tt
may_be true rest h = h refl

-- all lines are those that were given, and others
pub others : (bytes : List ℕ) (left : Option (List ℕ)) (r : Reading) (given : List (List ℕ)) → HasGiven (Some bytes) left r given → (later : List (List ℕ)) × (lines_in bytes ≡ given ++ later)
others bytes None r given h = absurd h.consumed
others bytes (Some rest) r given h = (lines_in (r.ahead ++ rest), ap lines_in h.consumed ∙ h.lines rest (may_be r.over rest h.end))

pub none_left : (bytes : List ℕ) (left : Option (List ℕ)) (given : List (List ℕ)) → HasGivenAll (Some bytes) left given → lines_in bytes ≡ given
none_left bytes None given h = absurd h.consumed
none_left bytes (Some rest) given h = ap lines_in (h.consumed ∙ ap (λ l. h.taken ++ l) h.end ∙ append-nil h.taken) ∙ h.lines

-- a line of some bytes is at least as long if more follow them
pub record Begun (n : ℕ) (given ls : List (List ℕ)) : Type 0 where
  pub long : List ℕ
  pub later : List (List ℕ)
  pub lines : ls ≡ given ++ long ∷ later
  pub as_long : n ≤ length long

no_line : (given : List (List ℕ)) (long : List ℕ) (later : List (List ℕ)) → [] ≡ given ++ long ∷ later → ⊥
no_line [] long later h = cc
no_line (g ∷ gs) long later h = cc

head_is : (x y : List ℕ) (xs ys : List (List ℕ)) → x ∷ xs ≡ y ∷ ys → x ≡ y
head_is x y xs ys h = cc

tail_is : (x y : List ℕ) (xs ys : List (List ℕ)) → x ∷ xs ≡ y ∷ ys → xs ≡ ys
tail_is x y xs ys h = cc

fed_more : (given : List (List ℕ)) (long : List ℕ) (later ls more : List (List ℕ)) → ((g : List (List ℕ)) → ls ≡ g ++ long ∷ later → Begun (length long) g more) → [] ∷ ls ≡ given ++ long ∷ later → Begun (length long) given ([] ∷ more)
fed_more [] long later ls more rest h = record { long = []; later = more; lines = refl; as_long = let e : [] ≡ long = head_is [] long ls later h in let k : 0 ≡ length long = ap length e in omega (arith, k) }
fed_more (g ∷ gs) long later ls more rest h =
    let b = rest gs (tail_is [] g ls (gs ++ long ∷ later) h) in
    record { long = b.long; later = b.later; lines = ap (λ l. [] ∷ l) b.lines ∙ ap (λ (x : List ℕ). x ∷ (gs ++ b.long ∷ b.later)) (head_is [] g ls (gs ++ long ∷ later) h); as_long = b.as_long }

in_some : (b : ℕ) (ls : List (List ℕ)) → (line : List ℕ) × (more : List (List ℕ)) × (in_front b ls ≡ (b ∷ line) ∷ more)
in_some b [] = ([], [], refl)
in_some b (l ∷ ls) = (l, ls, refl)

-- a byte before a line that grows
front_more : (b : ℕ) (given : List (List ℕ)) (long : List ℕ) (later ls more : List (List ℕ)) → ((g : List (List ℕ)) (l : List ℕ) → ls ≡ g ++ l ∷ later → Begun (length l) g more) → in_front b ls ≡ given ++ long ∷ later → Begun (length long) given (in_front b more)
front_more b [] long later [] more rest h =
    let s = in_some b more in
    let e : length (b ∷ []) ≡ length long = ap length (head_is (b ∷ []) long [] later h) in
    record { long = b ∷ s.0; later = s.1; lines = s.2; as_long = omega (arith, e) }
front_more b (g ∷ gs) long later [] more rest h = absurd (no_line gs long later (tail_is (b ∷ []) g [] (gs ++ long ∷ later) h))
front_more b [] long later (l ∷ ls) more rest h =
    let begun = rest [] l (ap (λ k. l ∷ k) (tail_is (b ∷ l) long ls later h)) in
    let e : length (b ∷ l) ≡ length long = ap length (head_is (b ∷ l) long ls later h) in
    record { long = b ∷ begun.long; later = begun.later; lines = ap (in_front b) begun.lines; as_long = let k : length l ≤ length begun.long = begun.as_long in omega (arith, k, e) }
front_more b (g ∷ gs) long later (l ∷ ls) more rest h =
    let begun = rest (l ∷ gs) long (ap (λ k. l ∷ k) (tail_is (b ∷ l) g ls (gs ++ long ∷ later) h)) in
    record { long = begun.long; later = begun.later; lines = ap (in_front b) begun.lines ∙ ap (λ (x : List ℕ). x ∷ (gs ++ begun.long ∷ begun.later)) (head_is (b ∷ l) g ls (gs ++ long ∷ later) h); as_long = begun.as_long }

step_more : (b : ℕ) (t : Bool) (given : List (List ℕ)) (long : List ℕ) (later ls more : List (List ℕ)) → ((g : List (List ℕ)) (l : List ℕ) → ls ≡ g ++ l ∷ later → Begun (length l) g more)
    → (if t then [] ∷ ls else in_front b ls) ≡ given ++ long ∷ later → Begun (length long) given (if t then [] ∷ more else in_front b more)
step_more b true given long later ls more rest h = fed_more given long later ls more (λ g e. rest g long e) h
step_more b false given long later ls more rest h = front_more b given long later ls more rest h

begins : (a more : List ℕ) (given : List (List ℕ)) (long : List ℕ) (later : List (List ℕ)) → lines_in a ≡ given ++ long ∷ later → Begun (length long) given (lines_in (a ++ more))
begins [] more given long later h = absurd (no_line given long later h)
begins (b ∷ bs) more given long later h = step_more b (b == 10) given long later (lines_in bs) (lines_in (bs ++ more)) (λ g l e. begins bs more g l later e) h

-- a line that is too long follows those that were given
pub has_long : (bytes : List ℕ) (left : Option (List ℕ)) (given : List (List ℕ)) → MeetsLong (Some bytes) left given → Begun 65537 given (lines_in bytes)
has_long bytes None given h = absurd h.consumed
has_long bytes (Some rest) given h =
    let b = begins h.taken rest given h.long h.later h.lines in
    record { long = b.long; later = b.later; lines = ap lines_in h.consumed ∙ b.lines; as_long = let k : length h.long ≤ length b.long = b.as_long in omega (arith, k, h.is_long) }
