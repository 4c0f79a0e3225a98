-- Prefixes, marks and quotes in a text.
use Rattle.std.proofs.Common.{◌≡◌, ◌≢◌, ℕ, ◌<◌, suc, List, [], ◌∷◌, ◌++◌, length, get_or, drop, append_assoc, append-nil, Bool, true, false, nat_eq, Option, Some, None, option_map, unwrap_or, MatchOption, refl, sym, ap, ◌∙◌, inl, inr, eq-eqb, codes, true≢false, arith}
use Rattle.std.proofs.lemmas.Bool.{cases_Bool}
use Rattle.std.proofs.lemmas.Bool.Decides.{nat_tests}
use Rattle.std.specs.Str.Pattern.{FindsTextPrefix, FindsChar, StripsPrefix, SplitsAroundMatch}
use Rattle.std.proofs.lemmas.Str.Pattern.{split_parts}
use denote.Ref.{Bor}
use Rattle.etp_values.specs.Uri.{after, put_before, parted, unquoted, doubled, space_text}

-- ---- prefixes

pub after_found : (p r : List ℕ) → after p (p ++ r) ≡ Some r
after_found [] r = refl
after_found (x ∷ p) r = rw (eq-eqb x x refl) (after_found p r)

pub after_says : (p s r : List ℕ) → after p s ≡ Some r → s ≡ p ++ r
after_says [] s r e = ap (λ o. unwrap_or o []) e
after_says (x ∷ p) [] r e = cc
after_says (x ∷ p) (c ∷ s) r e =
    elim (cases_Bool (nat_eq c x)) [
      | inl same ↦
          let rest : after p s ≡ Some r = rw same at e in
          let head : c ≡ x = grind (arith, nat_tests) in
          rw (head, after_says p s r rest) refl
      | inr other ↦ let never : None ≡ Some r = rw other at e in cc
    ]

after_none : (p s : List ℕ) (o : Option (List ℕ)) → after p s ≡ o → ((r : List ℕ) → s ≢ p ++ r) → o ≡ None
after_none p s None e lacks = refl
after_none p s (Some r) e lacks = absurd (lacks r (after_says p s r e))

pub after_gives : (p s : List ℕ) (r : Option (Bor (List ℕ)))
    → MatchOption r (FindsTextPrefix p s None) (λ x. StripsPrefix (FindsTextPrefix p) s x.now) → option_map (λ x. x.now) r ≡ after p s
after_gives p s None h = sym (after_none p s (after p s) refl h)
after_gives p s (Some x) h =
    let whole : after p s ≡ Some (drop h.0 s) = ap (after p) h.1.1 ∙ after_found p (drop h.0 s) in
    ap Some h.2 ∙ sym whole

-- ---- marks

-- a byte that does not occur in a list
abbrev pub Lacks : ℕ → List ℕ → Type 0
Lacks mark [] = Unit {0}
Lacks mark (c ∷ cs) = (nat_eq c mark ≡ false) × Lacks mark cs

ne-eqb : (a b : ℕ) → a ≢ b → nat_eq a b ≡ false
ne-eqb a b h = grind (arith, nat_tests)

pub Lacks-from_places : (mark : ℕ) (s : List ℕ) → ((i : ℕ) → i < length s → get_or s i 0 ≢ mark) → Lacks mark s
Lacks-from_places mark [] h = tt
Lacks-from_places mark (c ∷ cs) h = (ne-eqb c mark (h 0 (omega arith)), Lacks-from_places mark cs (λ i b. h (suc i) (omega arith)))

pub parted_none : (mark : ℕ) (s : List ℕ) → Lacks mark s → parted mark s ≡ None
parted_none mark [] h = refl
parted_none mark (c ∷ cs) h = rw (h.0, parted_none mark cs h.1) refl

pub parted_at : (mark : ℕ) (xs ys : List ℕ) → Lacks mark xs → parted mark (xs ++ mark ∷ ys) ≡ Some (xs, ys)
parted_at mark [] ys h = rw (eq-eqb mark mark refl) refl
parted_at mark (c ∷ xs) ys h = rw (h.0, parted_at mark xs ys h.1) refl

-- two parts that are both present
abbrev both : List ℕ → List ℕ → Option (List ℕ × List ℕ)
both x y = Some (x, y)

-- what was prepended to the parts of the rest
pub pushed_parts : (c : ℕ) (o : Option (List ℕ × List ℕ)) (x y : List ℕ) → option_map (put_before c) o ≡ Some (x, y)
    → (x' : List ℕ) × (o ≡ Some (x', y)) × (x ≡ c ∷ x')
pushed_parts c None x y e = cc
pushed_parts c (Some p) x y e =
    let front : c ∷ p.0 ≡ x = ap (λ (o : Option (List ℕ × List ℕ)). (unwrap_or o (x, y)).0) e in
    let back : p.1 ≡ y = ap (λ (o : Option (List ℕ × List ℕ)). (unwrap_or o (x, y)).1) e in
    (p.0, ap (λ z. Some (p.0, z)) back, sym front)

pub parted_says : (mark : ℕ) (s x y : List ℕ) → parted mark s ≡ Some (x, y) → s ≡ x ++ mark ∷ y
parted_says mark [] x y e = cc
parted_says mark (c ∷ cs) x y e =
    elim (cases_Bool (nat_eq c mark)) [
      | inl same ↦
          let here : both [] cs ≡ both x y = rw same at e in
          let front : [] ≡ x = ap (λ (o : Option (List ℕ × List ℕ)). (unwrap_or o (x, y)).0) here in
          let back : cs ≡ y = ap (λ (o : Option (List ℕ × List ℕ)). (unwrap_or o (x, y)).1) here in
          let head : c ≡ mark = grind (arith, nat_tests) in
          rw (← front, ← back, head) refl
      | inr other ↦
          let there : option_map (put_before c) (parted mark cs) ≡ Some (x, y) = rw other at e in
          let step = pushed_parts c (parted mark cs) x y there in
          ap (λ z. c ∷ z) (parted_says mark cs step.0 y step.1) ∙ ap (λ z. z ++ mark ∷ y) (sym step.2)
    ]

pub parted_gives : (mark : ℕ) (s : List ℕ) (r : Option (Bor (List ℕ) × Bor (List ℕ)))
    → MatchOption r (FindsChar mark s None) (λ x. SplitsAroundMatch (FindsChar mark) s x.0.now x.1.now) → mark < 128
    → option_map (λ p. (p.0.now, p.1.now)) r ≡ parted mark s
parted_gives mark s None h small = sym (parted_none mark s (Lacks-from_places mark s (split_parts mark s None h small)))
parted_gives mark s (Some x) h small =
    let parts = split_parts mark s (Some x) h small in
    sym (ap (parted mark) parts.0 ∙ parted_at mark x.0.now x.1.now (Lacks-from_places mark x.0.now parts.1))

-- ---- quotes

-- parts after a piece that has no quote
abbrev pub behind_piece : List ℕ → List ℕ × List ℕ → List ℕ × List ℕ
behind_piece piece p = (piece ++ p.0, p.1)

map_behind_nothing : (o : Option (List ℕ × List ℕ)) → option_map (behind_piece []) o ≡ o
map_behind_nothing None = refl
map_behind_nothing (Some p) = refl

map_behind_more : (c : ℕ) (piece : List ℕ) (o : Option (List ℕ × List ℕ)) → option_map (put_before c) (option_map (behind_piece piece) o) ≡ option_map (behind_piece (c ∷ piece)) o
map_behind_more c piece None = refl
map_behind_more c piece (Some p) = refl

pub map_behind_both : (a b : List ℕ) (o : Option (List ℕ × List ℕ)) → option_map (behind_piece a) (option_map (behind_piece b) o) ≡ option_map (behind_piece (a ++ b)) o
map_behind_both a b None = refl
map_behind_both a b (Some p) = ap (λ (x : List ℕ). Some (x, p.1)) (sym (append_assoc a b p.0))

pub unquoted_none : (s : List ℕ) → Lacks 39 s → unquoted false s ≡ None
unquoted_none [] h = refl
unquoted_none (c ∷ cs) h = rw (h.0, unquoted_none cs h.1) refl

pub unquoted_piece : (piece rest : List ℕ) → Lacks 39 piece → unquoted false (piece ++ 39 ∷ rest) ≡ option_map (behind_piece piece) (unquoted true rest)
unquoted_piece [] rest h = sym (map_behind_nothing (unquoted true rest))
unquoted_piece (c ∷ piece) rest h = rw (h.0, unquoted_piece piece rest h.1) (map_behind_more c piece (unquoted true rest))

-- a quote that is not followed by another
pub unquoted_end : (s : List ℕ) → ((rest : List ℕ) → s ≢ 39 ∷ rest) → unquoted true s ≡ Some ([], s)
unquoted_end [] h = refl
unquoted_end (c ∷ cs) h = rw (ne-eqb c 39 (λ e. h cs (ap (λ z. z ∷ cs) e))) refl

pub doubled_plain : (s : List ℕ) → Lacks 39 s → doubled s ≡ s
doubled_plain [] h = refl
doubled_plain (c ∷ cs) h = rw (h.0, doubled_plain cs h.1) refl

pub doubled_piece : (piece rest : List ℕ) → Lacks 39 piece → doubled (piece ++ 39 ∷ rest) ≡ piece ++ 39 ∷ 39 ∷ doubled rest
doubled_piece [] rest h = refl
doubled_piece (c ∷ piece) rest h = rw (h.0, doubled_piece piece rest h.1) refl

doubled_other : (c : ℕ) (cs : List ℕ) → nat_eq c 39 ≡ false → doubled (c ∷ cs) ≡ c ∷ doubled cs
doubled_other c cs e = rw e refl

unquoted_other : (c : ℕ) (cs : List ℕ) → nat_eq c 39 ≡ false → unquoted false (c ∷ cs) ≡ option_map (put_before c) (unquoted false cs)
unquoted_other c cs e = rw e refl

pub unquoted_doubled : (path rest : List ℕ) → ((more : List ℕ) → rest ≢ 39 ∷ more) → unquoted false (doubled path ++ 39 ∷ rest) ≡ Some (path, rest)
unquoted_doubled [] rest h = unquoted_end rest h
unquoted_doubled (c ∷ cs) rest h =
    elim (cases_Bool (nat_eq c 39)) [
      | inl same ↦
          let head : c ≡ 39 = grind (arith, nat_tests) in
          ap (λ z. unquoted false (doubled (z ∷ cs) ++ 39 ∷ rest)) head
          ∙ ap (option_map (put_before 39)) (unquoted_doubled cs rest h) ∙ ap (λ z. both (z ∷ cs) rest) (sym head)
      | inr other ↦
          ap (λ z. unquoted false (z ++ 39 ∷ rest)) (doubled_other c cs other)
          ∙ unquoted_other c (doubled cs ++ 39 ∷ rest) other ∙ ap (option_map (put_before c)) (unquoted_doubled cs rest h)
    ]

-- a text from its quote on, if it was read past that quote
abbrev from_quote : Bool → List ℕ → List ℕ
from_quote false s = s
from_quote true s = 39 ∷ s

quoted_says : (q : Bool) (s path rest : List ℕ) → unquoted q s ≡ Some (path, rest) → from_quote q s ≡ doubled path ++ 39 ∷ rest
quoted_says false [] path rest e = cc
quoted_says false (c ∷ cs) path rest e =
    elim (cases_Bool (nat_eq c 39)) [
      | inl same ↦
          let head : c ≡ 39 = grind (arith, nat_tests) in
          let there : unquoted true cs ≡ Some (path, rest) = rw same at e in
          ap (λ z. z ∷ cs) head ∙ quoted_says true cs path rest there
      | inr other ↦
          let there : option_map (put_before c) (unquoted false cs) ≡ Some (path, rest) = rw other at e in
          let step = pushed_parts c (unquoted false cs) path rest there in
          ap (λ z. c ∷ z) (quoted_says false cs step.0 rest step.1)
          ∙ ap (λ z. z ++ 39 ∷ rest) (sym (doubled_other c step.0 other)) ∙ ap (λ z. doubled z ++ 39 ∷ rest) (sym step.2)
    ]
quoted_says true [] path rest e =
    let front : [] ≡ path = ap (λ (o : Option (List ℕ × List ℕ)). (unwrap_or o (path, rest)).0) e in
    let back : [] ≡ rest = ap (λ (o : Option (List ℕ × List ℕ)). (unwrap_or o (path, rest)).1) e in
    rw (← front, ← back) refl
quoted_says true (c ∷ cs) path rest e =
    elim (cases_Bool (nat_eq c 39)) [
      | inl same ↦
          let head : c ≡ 39 = grind (arith, nat_tests) in
          let there : option_map (put_before 39) (unquoted false cs) ≡ Some (path, rest) = rw same at e in
          let step = pushed_parts 39 (unquoted false cs) path rest there in
          ap (λ z. 39 ∷ z ∷ cs) head ∙ ap (λ z. 39 ∷ 39 ∷ z) (quoted_says false cs step.0 rest step.1)
          ∙ ap (λ z. doubled z ++ 39 ∷ rest) (sym step.2)
      | inr other ↦
          let there : both [] (c ∷ cs) ≡ both path rest = rw other at e in
          let front : [] ≡ path = ap (λ (o : Option (List ℕ × List ℕ)). (unwrap_or o (path, rest)).0) there in
          let back : c ∷ cs ≡ rest = ap (λ (o : Option (List ℕ × List ℕ)). (unwrap_or o (path, rest)).1) there in
          rw (← front, ← back) refl
    ]

pub unquoted_says : (s path rest : List ℕ) → unquoted false s ≡ Some (path, rest) → s ≡ doubled path ++ 39 ∷ rest
unquoted_says s path rest e = quoted_says false s path rest e

-- ---- one step of reading a quoted text

-- the parts of a text round its first mark
pub record IsParted (mark : ℕ) (s front back : List ℕ) : Type 0 where
  pub whole : s ≡ front ++ mark ∷ back
  pub first : Lacks mark front

pub parts_round : (mark : ℕ) (s : List ℕ) (x : Bor (List ℕ) × Bor (List ℕ)) → SplitsAroundMatch (FindsChar mark) s x.0.now x.1.now → mark < 128
    → IsParted mark s x.0.now x.1.now
parts_round mark s x h small =
    let parts = split_parts mark s (Some x) h small in
    record { whole = parts.0; first = Lacks-from_places mark x.0.now parts.1 }

pub no_parts : (mark : ℕ) (s : List ℕ) → FindsChar mark s None → mark < 128 → Lacks mark s
no_parts mark s h small = Lacks-from_places mark s (split_parts mark s None h small)

-- one more piece was read
quoted_piece : (path piece back s text : List ℕ) → option_map (behind_piece path) (unquoted false s) ≡ unquoted false text
    → IsParted 39 s piece back → option_map (behind_piece (path ++ piece)) (unquoted true back) ≡ unquoted false text
quoted_piece path piece back s text said parts =
    sym (map_behind_both path piece (unquoted true back))
    ∙ ap (option_map (behind_piece path)) (sym (ap (unquoted false) parts.whole ∙ unquoted_piece piece back parts.first))
    ∙ said

pub quoted_end : (path piece back s text path' : List ℕ) → option_map (behind_piece path) (unquoted false s) ≡ unquoted false text
    → IsParted 39 s piece back → ((rest : List ℕ) → back ≢ 39 ∷ rest) → path' ≡ path ++ piece → Some (path', back) ≡ unquoted false text
quoted_end path piece back s text path' said parts single e =
    let end : option_map (behind_piece (path ++ piece)) (unquoted true back) ≡ both ((path ++ piece) ++ []) back
    = ap (option_map (behind_piece (path ++ piece))) (unquoted_end back single) in
    ap (λ (z : List ℕ). Some (z, back)) (e ∙ sym (append-nil (path ++ piece))) ∙ sym end ∙ quoted_piece path piece back s text said parts

pub quoted_more : (path piece back more s text path' : List ℕ) → option_map (behind_piece path) (unquoted false s) ≡ unquoted false text
    → IsParted 39 s piece back → back ≡ 39 ∷ more → path' ≡ (path ++ piece) ++ 39 ∷ []
    → option_map (behind_piece path') (unquoted false more) ≡ unquoted false text
quoted_more path piece back more s text path' said parts double e =
    rw e (sym (map_behind_both (path ++ piece) (39 ∷ []) (unquoted false more))
    ∙ ap (option_map (behind_piece (path ++ piece))) (map_put (unquoted false more) ∙ sym (ap (unquoted true) double))
    ∙ quoted_piece path piece back s text said parts)
  where
    map_put : (o : Option (List ℕ × List ℕ)) → option_map (behind_piece (39 ∷ [])) o ≡ option_map (put_before 39) o
    map_put None = refl
    map_put (Some p) = refl

-- the same for what is written
pub put_piece : (out piece back s out' : List ℕ) → IsParted 39 s piece back → out' ≡ (out ++ piece) ++ 39 ∷ 39 ∷ []
    → out' ++ doubled back ≡ out ++ doubled s
put_piece out piece back s out' parts e =
    let whole : doubled s ≡ piece ++ 39 ∷ 39 ∷ doubled back = ap doubled parts.whole ∙ doubled_piece piece back parts.first in
    rw (e, whole) (simp append_assoc)

pub quoted_none : (path s text : List ℕ) → option_map (behind_piece path) (unquoted false s) ≡ unquoted false text → Lacks 39 s → None ≡ unquoted false text
quoted_none path s text said none = ap (option_map (behind_piece path)) (sym (unquoted_none s none)) ∙ said

-- the pieces of a dataspace's text
pub space_pieces : (out path a b d e : List ℕ) → nat_eq (length path) 0 ≡ false → a ≡ out ++ codes "eml:///" → b ≡ a ++ codes "dataspace('"
    → d ≡ b ++ doubled path → e ≡ d ++ codes "')" → e ≡ out ++ space_text path
space_pieces out [] a b d e some p q r t = absurd (true≢false some)
space_pieces out (c ∷ cs) a b d e some p q r t = rw (t, r, q, p) (simp append_assoc)
