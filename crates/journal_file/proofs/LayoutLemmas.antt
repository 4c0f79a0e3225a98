-- What files open to.
use Rattle.std.proofs.Common.{◌≡◌, ◌≢◌, inl, inr, ◌+◌, ◌<◌, ◌^◌, ℕ, List, [], ◌∷◌, ◌++◌, length, get_or, take, drop, refl, sym, ◌∙◌, ap, subst, arith, append_assoc, length-append}
use Rattle.std.proofs.lemmas.List.{take_at, drop_at, take_more, append-nil}
use Rattle.std.proofs.lemmas.Bool.{cases_eq}
use Rattle.std.proofs.lemmas.Bool.Decides.{nat_tests}
use Rattle.std.proofs.lemmas.Nat.{from_be_bytes-to_be_bytes_8}
use Rattle.std.specs.Int.{w64, to_be_bytes, from_be_bytes}
use Rattle.journal_file.specs.Layout.{head, block, blocks, Whole, NoMore, at_gate, record_at, length_in, Stand, OpensTo, IsBeforeOrAfter, AreShort, IsFile}
use Rattle.journal_file.specs.Gates.{IsShutOrOpen}

length-told : (n : ℕ) → length (to_be_bytes w64 n) ≡ 8
length-told n = refl

long_record : (rest : List ℕ) → 8 + length_in rest < length rest → record_at rest ≡ Whole (take (length_in rest) (drop 8 rest)) (drop (8 + length_in rest) rest)
long_record rest fits = grind (arith, nat_tests)

-- what stands behind an open gate that tells this length
record_is : (rest : List ℕ) (n : ℕ) → length_in rest ≡ n → 8 + n < length rest → record_at rest ≡ Whole (take n (drop 8 rest)) (drop (8 + n) rest)
record_is rest n told fits =
    subst (λ (m : ℕ). record_at rest ≡ Whole (take m (drop 8 rest)) (drop (8 + m) rest)) told (long_record rest (omega (arith, told, fits)))

module _ (s tail : List ℕ) (short : length s < 2 ^ 64) (more : 0 < length tail) where
  abbrev told : List ℕ
  told = to_be_bytes w64 (length s)

  abbrev rest : List ℕ
  rest = (told ++ s) ++ tail

  split : rest ≡ told ++ (s ++ tail)
  split = append_assoc told s tail

  length_is : length_in rest ≡ length s
  length_is =
      ap (λ (l : List ℕ). from_be_bytes w64 (take 8 l)) split ∙ ap (from_be_bytes w64) (take_at told (s ++ tail) 8 (length-told (length s)))
      ∙ from_be_bytes-to_be_bytes_8 (length s) short

  long : 8 + length s < length rest
  long = omega (arith, more, length-append (told ++ s) tail, length-append told s, length-told (length s))

  spelling_is : take (length s) (drop 8 rest) ≡ s
  spelling_is =
      ap (λ (l : List ℕ). take (length s) (drop 8 l)) split ∙ ap (λ (l : List ℕ). take (length s) l) (drop_at told (s ++ tail) 8 (length-told (length s)))
      ∙ take_at s tail (length s) refl

  rest_is : drop (8 + length s) rest ≡ tail
  rest_is = drop_at (told ++ s) tail (8 + length s) (omega (arith, length-append told s, length-told (length s)))

  -- a block stands at its gate
  pub block_stands : at_gate (block s ++ tail) ≡ Whole s tail
  block_stands = record_is rest (length s) length_is long ∙ (λ i. Whole (spelling_is i) (rest_is i))

-- blocks, and then what stands behind them
pub stand_blocks : (ss more : List (List ℕ)) (tail : List ℕ) → AreShort ss → 0 < length tail → Stand tail more → Stand (blocks ss ++ tail) (ss ++ more)
stand_blocks [] more tail short long stand = stand
stand_blocks (s ∷ ss) more tail short long stand = (
  blocks ss ++ tail,
  ap at_gate (append_assoc (block s) (blocks ss) tail) ∙ block_stands s (blocks ss ++ tail) short.0 (omega (arith, long, length-append (blocks ss) tail)),
  stand_blocks ss more tail short.1 long stand,
)

-- nothing is read behind a gate that is not 1
pub shut_stands : (gate : ℕ) (junk : List ℕ) → gate ≢ 1 → at_gate (gate ∷ junk) ≡ NoMore
shut_stands gate junk shut = grind (arith, nat_tests)

-- blocks and a gate that is not 1
pub blocks_stand : (ss : List (List ℕ)) (gate : ℕ) (junk : List ℕ) → AreShort ss → gate ≢ 1 → Stand (blocks ss ++ gate ∷ junk) ss
blocks_stand ss gate junk short shut =
    subst (λ (l : List (List ℕ)). Stand (blocks ss ++ gate ∷ junk) l) (append-nil ss) (stand_blocks ss [] (gate ∷ junk) short (omega arith) (shut_stands gate junk shut))

-- spellings whose blocks are short are short
pub short_blocks : (ss : List (List ℕ)) → length (blocks ss) < 2 ^ 64 → AreShort ss
short_blocks [] fits = tt
short_blocks (s ∷ ss) fits = (
  omega (arith, fits, length-append (block s) (blocks ss), length-append (to_be_bytes w64 (length s)) s),
  short_blocks ss (omega (arith, fits, length-append (block s) (blocks ss))),
)

-- the blocks of lists together
pub blocks-append : (ss more : List (List ℕ)) → blocks (ss ++ more) ≡ blocks ss ++ blocks more
blocks-append [] more = refl
blocks-append (s ∷ ss) more = ap (λ (l : List ℕ). block s ++ l) (blocks-append ss more) ∙ sym (append_assoc (block s) (blocks ss) (blocks more))

-- blocks that are written one after the other
pub blocks_next : (ss : List (List ℕ)) (i : ℕ) (s start now next : List ℕ) → i < length ss → s ≡ get_or ss i s → now ≡ start ++ blocks (take i ss) → next ≡ now ++ block s
    → next ≡ start ++ blocks (take (i + 1) ss)
blocks_next ss i s start now next within is so_far more =
    let last : blocks (s ∷ []) ≡ block s = append-nil (block s) in
    let grown : take (i + 1) ss ≡ take i ss ++ s ∷ [] = take_more ss i s within ∙ ap (λ (x : List ℕ). take i ss ++ x ∷ []) (sym is) in
    more ∙ ap (λ (l : List ℕ). l ++ block s) so_far ∙ append_assoc start (blocks (take i ss)) (block s) ∙ ap (λ (l : List ℕ). start ++ (blocks (take i ss) ++ l)) (sym last)
    ∙ ap (λ (l : List ℕ). start ++ l) (sym (blocks-append (take i ss) (s ∷ []))) ∙ ap (λ (l : List (List ℕ)). start ++ blocks l) (sym grown)

pub short-append : (ss more : List (List ℕ)) → AreShort ss → AreShort more → AreShort (ss ++ more)
short-append [] more a b = b
short-append (s ∷ ss) more a b = (a.0, short-append ss more a.1 b)

module _ (id : List ℕ) (ss more : List (List ℕ)) (short : AreShort ss) (short_more : AreShort more) where
  abbrev front : List ℕ
  front = head id ++ blocks ss

  -- a file with its gate shut opens to what it had
  pub opens_shut : (gate : ℕ) (junk c : List ℕ) → gate ≢ 1 → c ≡ front ++ gate ∷ junk → OpensTo id ss c
  opens_shut gate junk c shut is = (blocks ss ++ gate ∷ junk, is ∙ append_assoc (head id) (blocks ss) (gate ∷ junk), blocks_stand ss gate junk short shut)

  -- with its gate open it opens to what stands behind it too
  pub opens_open : (piece junk c : List ℕ) → 1 ∷ piece ≡ blocks more ++ 0 ∷ [] → c ≡ front ++ 1 ∷ (piece ++ junk) → OpensTo id (ss ++ more) c
  opens_open piece junk c spelled is =
      let tail : 1 ∷ (piece ++ junk) ≡ blocks more ++ 0 ∷ junk = ap (λ (l : List ℕ). l ++ junk) spelled ∙ append_assoc (blocks more) (0 ∷ []) junk in (
        blocks ss ++ 1 ∷ (piece ++ junk),
        is ∙ append_assoc (head id) (blocks ss) (1 ∷ (piece ++ junk)),
        subst (λ (l : List ℕ). Stand (blocks ss ++ l) (ss ++ more)) (sym tail)
            (stand_blocks ss more (blocks more ++ 0 ∷ junk) short (omega (arith, length-append (blocks more) (0 ∷ junk))) (blocks_stand more 0 junk short_more (omega arith))),
      )

  -- whatever a crash leaves while a piece is appended
  pub opens_either : (gate : ℕ) (piece c : List ℕ) → gate ≢ 1 → 1 ∷ piece ≡ blocks more ++ 0 ∷ [] → IsShutOrOpen front gate piece c → IsBeforeOrAfter id ss more c
  opens_either gate piece c shut spelled (inl behind) = inl (opens_shut gate behind.0 c shut behind.1)
  opens_either gate piece c shut spelled (inr opened) = elim (cases_eq opened.0 1) [
    | inl is_open ↦ inr (opens_open piece opened.1 c spelled (subst (λ (g : ℕ). c ≡ front ++ g ∷ (piece ++ opened.1)) is_open opened.2))
    | inr other ↦ inl (opens_shut opened.0 (piece ++ opened.1) c other opened.2)
  ]

  -- the file afterwards
  pub file_after : (piece rest c : List ℕ) → 1 ∷ piece ≡ blocks more ++ 0 ∷ [] → c ≡ front ++ 1 ∷ (piece ++ rest) → IsFile id (ss ++ more) c
  file_after piece rest c spelled is = record {
    gate = 0;
    junk = rest;
    shut = omega arith;
    bytes =
        is
        ∙ ap (λ (l : List ℕ). front ++ (l ++ rest)) spelled
        ∙ ap (λ (l : List ℕ). front ++ l) (append_assoc (blocks more) (0 ∷ []) rest)
        ∙ sym (append_assoc front (blocks more) (0 ∷ rest))
        ∙ ap (λ (l : List ℕ). l ++ 0 ∷ rest) (append_assoc (head id) (blocks ss) (blocks more) ∙ ap (λ (l : List ℕ). head id ++ l) (sym (blocks-append ss more)));
    short = short-append ss more short short_more;
  }
