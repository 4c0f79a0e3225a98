-- Pieces of a message that are added one after another.
use Rattle.std.proofs.Common.{◌≡◌, ℕ, ◌+◌, ◌<◌, ◌^◌, Bool, true, false, List, [], ◌++◌, length, refl, sym, subst, ap, ◌∙◌, arith, append_assoc, length-append, Result, Ok, Err, Option, None, Some}
use Rattle.std.specs.Prelude.{nat_lt, if◌then◌else◌}
use Rattle.std.proofs.lemmas.Bool.Decides.{nat_tests}
use Rattle.web_frames.specs.declared.breach.Breach.{Breach}
use Rattle.web_frames.specs.declared.breach.Breach.TheVariants as breach
use Rattle.web_frames.specs.declared.coming.Kind.{Kind}
use Rattle.web_frames.specs.declared.coming.Kind.TheVariants.{Binary, Text}
use Rattle.web_frames.specs.declared.utf8.Utf8.{Utf8}
use Rattle.web_frames.specs.Messages.{Open, added, is_short, kept, with_piece, with_text}
use Rattle.web_frames.specs.Utf8.{after_bytes}
use Rattle.web_frames.proofs.Utf8Lemmas.{after_bytes-append}

kept_in_turn : (short before : Bool) (bytes xs ys : List ℕ) → (short ≡ true → before ≡ true)
    → (if short then (if before then bytes ++ xs else []) ++ ys else []) ≡ (if short then bytes ++ (xs ++ ys) else [])
kept_in_turn true true bytes xs ys h = append_assoc bytes xs ys
kept_in_turn true false bytes xs ys h = let is = h refl in cc
kept_in_turn false before bytes xs ys h = refl

kept-kept : (c d : ℕ) (bytes xs ys : List ℕ) → kept (c + d) (kept c bytes xs) ys ≡ kept (c + d) bytes (xs ++ ys)
kept-kept c d bytes xs ys = kept_in_turn (is_short (c + d)) (is_short c) bytes xs ys (λ h. grind (arith, nat_tests))

abbrev counted : ℕ → Result Open Breach → Result Open Breach
counted c e = if nat_lt c (2 ^ 64) then e else Err breach.TooLong

added-is : (o : Open) (piece : List ℕ) → added o piece ≡ counted (o.count + length piece) (with_piece o.kind o (o.count + length piece) piece)
unfolding added
added-is o piece = refl

abbrev whole : Kind → ℕ → List ℕ → Utf8 → Open
whole kind count bytes text = record { kind = kind; count = count; bytes = bytes; text = text }

abbrev of_bytes : ℕ → List ℕ → Utf8 → Result Open Breach
of_bytes count bytes text = Ok (whole Binary count bytes text)

-- the same counts, and the same message
joined_by : (o joined : Open) (xs ys : List ℕ) (c : ℕ) → o.count + length xs ≡ c → joined.count ≡ c
    → with_piece joined.kind joined (c + length ys) ys ≡ with_piece o.kind o (c + length ys) (xs ++ ys)
    → added joined ys ≡ added o (xs ++ ys)
joined_by o joined xs ys c before now same =
    let long : c + length ys ≡ o.count + length (xs ++ ys) = omega (arith, length-append xs ys) in
    added-is joined ys
    ∙ ap (λ n. counted (n + length ys) (with_piece joined.kind joined (n + length ys) ys)) now
    ∙ ap (counted (c + length ys)) same
    ∙ ap (λ n. counted n (with_piece o.kind o n (xs ++ ys))) long
    ∙ sym (added-is o (xs ++ ys))

joined_text : (count c : ℕ) (bytes : List ℕ) (text : Utf8) (after : Option Utf8) (joined : Open) (xs ys : List ℕ) → count + length xs ≡ c
    → after_bytes (Some text) xs ≡ after → with_text (whole Text count bytes text) c after ≡ Ok joined
    → added joined ys ≡ added (whole Text count bytes text) (xs ++ ys)
joined_text count c bytes text None joined xs ys e is h = cc
joined_text count c bytes text (Some u) joined xs ys e is h =
    let so : whole Text c bytes u ≡ joined = cc in
    let on : after_bytes (Some u) ys ≡ after_bytes (Some text) (xs ++ ys) = ap (λ a. after_bytes a ys) (sym is) ∙ sym (after_bytes-append (Some text) xs ys) in
    subst (λ (j : Open). added j ys ≡ added (whole Text count bytes text) (xs ++ ys)) so
    (joined_by (whole Text count bytes text) (whole Text c bytes u) xs ys c e refl
    (ap (with_text (whole Text count bytes text) (c + length ys)) on))

joined_kind : (kind : Kind) (count c : ℕ) (bytes : List ℕ) (text : Utf8) (joined : Open) (xs ys : List ℕ) → count + length xs ≡ c
    → with_piece kind (whole kind count bytes text) c xs ≡ Ok joined → added joined ys ≡ added (whole kind count bytes text) (xs ++ ys)
joined_kind Binary count c bytes text joined xs ys e h =
    let so : whole Binary c (kept c bytes xs) text ≡ joined = cc in
    subst (λ (j : Open). added j ys ≡ added (whole Binary count bytes text) (xs ++ ys)) so
    (joined_by (whole Binary count bytes text) (whole Binary c (kept c bytes xs) text) xs ys c e refl
    (ap (λ (b : List ℕ). of_bytes (c + length ys) b text) (kept-kept c (length ys) bytes xs ys)))
joined_kind Text count c bytes text joined xs ys e h =
    joined_text count c bytes text (after_bytes (Some text) xs) joined xs ys e refl h

joined_counted : (o joined : Open) (xs ys : List ℕ) (fits : Bool) → nat_lt (o.count + length xs) (2 ^ 64) ≡ fits
    → (if fits then with_piece o.kind o (o.count + length xs) xs else Err breach.TooLong) ≡ Ok joined → added joined ys ≡ added o (xs ++ ys)
joined_counted o joined xs ys true is h = joined_kind o.kind o.count (o.count + length xs) o.bytes o.text joined xs ys refl h
joined_counted o joined xs ys false is h = cc

pub added-joined : (o joined : Open) (xs ys : List ℕ) → added o xs ≡ Ok joined → added joined ys ≡ added o (xs ++ ys)
added-joined o joined xs ys h =
    joined_counted o joined xs ys (nat_lt (o.count + length xs) (2 ^ 64)) refl (sym (added-is o xs) ∙ h)
