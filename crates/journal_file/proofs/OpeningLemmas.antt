-- What is read of a file, part by part.
use Rattle.std.proofs.Common.{◌≡◌, ◌≢◌, inr, ◌+◌, ◌<◌, ◌≤◌, ◌^◌, ℕ, List, [], ◌∷◌, ◌++◌, length, get_or, take, drop, refl, sym, ◌∙◌, ap, subst, arith, append_assoc, length-append, take-append-drop, None, Some, Bool, true, false, true≢false}
use Rattle.std.proofs.lemmas.List.{take_at, drop_at, drop_more, drop_all, drop-drop, drop-take, take-take, append-nil}
use mathlib.Core.Bool.{not}
use lib.Dec.{eqb}
use lib.Pointwise.{pointwise, bytes_decides}
use Rattle.std.specs.Int.{w64, to_be_bytes}
use Rattle.std.specs.Prelude.{codes, Result, Ok, Err, IfOk, IfErr, IfSome}
use Rattle.std.specs.declared.option.Option.{Option}
use Rattle.journal_disk.specs.Disks.{Elapses}
use Rattle.journal_disk.proofs.DiskLemmas.{started, goes_on, joined}
use Rattle.journal_file.specs.Layout.{head, block, blocks, Bad, record_at, IsFile}
use Rattle.journal_file.specs.Opening.{Rested, StandsAt, IsRecord, IsRead, IsBadGate, IsRefusal, IsHeadRefusal, IsStep, IsBegun}
use Rattle.journal_file.specs.declared.error.JournalError.{JournalError}
use Rattle.journal_file.specs.declared.error.JournalError.TheVariants as Why
use Rattle.journal_file.proofs.LayoutLemmas.{short_blocks, blocks-append}

module _ {D : Type 0} (seen : D → Option (List ℕ)) (may_leave : D → List ℕ → Type 0) (moment : D → ℕ) (left_since : D → ℕ → List ℕ → Type 0) where
  -- no call
  pub rested_self : ((file : D) (c : List ℕ) → left_since file (moment file) c → may_leave file c) → (d : D) → Rested seen may_leave moment left_since d d
  rested_self only_now d = record { same = refl; crash = λ c now. now; moments = started moment left_since d (may_leave d) (λ c left. only_now d c left) }

  -- a call that writes nothing
  pub rested_call : ((file : D) (c : List ℕ) → left_since file (moment file) c → may_leave file c) → (old new : D) → seen new ≡ seen old → ((c : List ℕ) → may_leave new c → may_leave old c)
      → Elapses (moment old) (moment new) (left_since old) (left_since new) (may_leave new) → Rested seen may_leave moment left_since old new
  rested_call only_now old new same crash time = record {
    same = same;
    crash = crash;
    moments = goes_on moment left_since old old new (may_leave old) (may_leave new) (started moment left_since old (may_leave old) (λ c left. only_now old c left)) time crash;
  }

  -- one after the other
  pub rested_trans : (old mid new : D) → Rested seen may_leave moment left_since old mid → Rested seen may_leave moment left_since mid new → Rested seen may_leave moment left_since old new
  rested_trans old mid new first second = record {
    same = second.same ∙ first.same;
    crash = λ c now. first.crash c (second.crash c now);
    moments = joined moment left_since old mid new (may_leave old) (may_leave mid) (may_leave old) first.moments second.moments (λ c p. p) (λ c p. first.crash c p);
  }

-- a length and then a spelling with one more byte are a record
pub record_stands : (f : List ℕ) (at n : ℕ) (s : List ℕ) (next : ℕ) → StandsAt f at (to_be_bytes w64 n) → length s ≡ n → StandsAt f (at + 8) (s ++ next ∷ []) → IsRecord f at s next
record_stands f at n s next told size body =
    let front : List ℕ = to_be_bytes w64 n in
    let more : List ℕ = drop (n + 1) (drop (at + 8) f) in
    let eight : length (to_be_bytes w64 n) ≡ 8 = refl in
    let told8 : take 8 (drop at f) ≡ front = ap (λ (k : ℕ). take k (drop at f)) (sym eight) ∙ sym told in
    let long : length (s ++ next ∷ []) ≡ n + 1 = omega (arith, size, length-append s (next ∷ [])) in
    let body1 : take (n + 1) (drop (at + 8) f) ≡ s ++ next ∷ [] = ap (λ (k : ℕ). take k (drop (at + 8) f)) (sym long) ∙ sym body in
    let whole : drop at f ≡ front ++ drop (at + 8) f =
    sym (take-append-drop 8 (drop at f)) ∙ ap (λ (l : List ℕ). l ++ drop 8 (drop at f)) told8 ∙ ap (λ (l : List ℕ). front ++ l) (drop-drop 8 at f) in
    let tail : drop (at + 8) f ≡ s ++ next ∷ more =
    sym (take-append-drop (n + 1) (drop (at + 8) f)) ∙ ap (λ (l : List ℕ). l ++ more) body1 ∙ append_assoc s (next ∷ []) more in
    let all : drop at f ≡ (to_be_bytes w64 n ++ s) ++ next ∷ more = whole ∙ ap (λ (l : List ℕ). front ++ l) tail ∙ sym (append_assoc front s (next ∷ more)) in
    (more, subst (λ (k : ℕ). drop at f ≡ (to_be_bytes w64 k ++ s) ++ next ∷ more) (sym size) all)

-- what stands behind a gate that was read
pub behind_gate : (f : List ℕ) (ss : List (List ℕ)) (gate byte : ℕ) → (read : IsRead f ss gate byte) → drop (gate + 1) f ≡ read.0
behind_gate f ss gate byte read =
    let on : gate + 1 ≡ 24 + (length (blocks ss) + 1) = omega (arith, read.2) in
    let split : drop 24 f ≡ (blocks ss ++ byte ∷ []) ++ read.0 = read.1 ∙ sym (append_assoc (blocks ss) (byte ∷ []) read.0) in
    ap (λ (n : ℕ). drop n f) on ∙ sym (drop-drop (length (blocks ss) + 1) 24 f) ∙ ap (λ (l : List ℕ). drop (length (blocks ss) + 1) l) split
    ∙ drop_at (blocks ss ++ byte ∷ []) read.0 (length (blocks ss) + 1) (omega (arith, length-append (blocks ss) (byte ∷ [])))

-- one block more
pub blocks_more : (ss : List (List ℕ)) (s rest : List ℕ) → blocks (ss ++ s ∷ []) ++ rest ≡ blocks ss ++ (block s ++ rest)
blocks_more ss s rest =
    let last : blocks (s ∷ []) ≡ block s = append-nil (block s) in
    ap (λ (l : List ℕ). l ++ rest) (blocks-append ss (s ∷ []) ∙ ap (λ (l : List ℕ). blocks ss ++ l) last) ∙ append_assoc (blocks ss) (block s) rest

pub length-more : (ss : List (List ℕ)) (s : List ℕ) → length (blocks (ss ++ s ∷ [])) ≡ length (blocks ss) + 9 + length s
length-more ss s =
    let eight : length (to_be_bytes w64 (length s)) ≡ 8 = refl in
    let last : blocks (s ∷ []) ≡ block s = append-nil (block s) in
    omega (arith, ap length (blocks-append ss (s ∷ [])), length-append (blocks ss) (blocks (s ∷ [])), ap length last, length-append (to_be_bytes w64 (length s)) s, eight)

-- an open gate, and the record behind it
pub read_more : (f : List ℕ) (ss grown_ss : List (List ℕ)) (gate byte g n next : ℕ) (s : List ℕ) → grown_ss ≡ ss ++ s ∷ [] → byte ≡ 1 → g ≡ gate + 9 + length s → n ≡ next → IsRead f ss gate byte → IsRecord f (gate + 1) s next
    → IsRead f grown_ss g n
read_more f ss grown_ss gate byte g n next s grown is_open further same read here =
    let rest_is : read.0 ≡ (to_be_bytes w64 (length s) ++ s) ++ next ∷ here.0 = sym (behind_gate f ss gate byte read) ∙ here.1 in
    let whole : drop 24 f ≡ blocks (ss ++ s ∷ []) ++ next ∷ here.0 =
    read.1 ∙ ap (λ (k : ℕ). blocks ss ++ k ∷ read.0) is_open ∙ ap (λ (l : List ℕ). blocks ss ++ 1 ∷ l) rest_is ∙ sym (blocks_more ss s (next ∷ here.0)) in
    let place : gate + 9 + length s ≡ 24 + length (blocks (ss ++ s ∷ [])) = omega (arith, read.2, length-more ss s) in (
      here.0,
      whole ∙ ap (λ (l : List (List ℕ)). blocks l ++ next ∷ here.0) (sym grown) ∙ ap (λ (k : ℕ). blocks grown_ss ++ k ∷ here.0) (sym same),
      further ∙ place ∙ ap (λ (l : List (List ℕ)). 24 + length (blocks l)) (sym grown),
    )

-- an open gate without a record
pub bad_gate : (f : List ℕ) (ss : List (List ℕ)) (gate byte : ℕ) → gate < 2 ^ 64 → byte ≡ 1 → IsRead f ss gate byte → record_at (drop (gate + 1) f) ≡ Bad → IsBadGate f gate
bad_gate f ss gate byte fits is_open read bad = (
  ss,
  read.0,
  read.1 ∙ ap (λ (k : ℕ). blocks ss ++ k ∷ read.0) is_open,
  short_blocks ss (omega (arith, fits, read.2)),
  ap record_at (sym (behind_gate f ss gate byte read)) ∙ bad,
  read.2,
)

pub length-head : (id : List ℕ) → length id ≡ 16 → length (head id) ≡ 24
length-head id size =
    let eight : length (codes "ETPJRN01") ≡ 8 = refl in
    omega (arith, length-append (codes "ETPJRN01") id, eight, size)

-- the first gate
pub begun_read : (id f : List ℕ) (byte : ℕ) → IsBegun id f byte → IsRead f [] 24 byte
begun_read id f byte begun =
    let none : length (blocks []) ≡ 0 = refl in
    (begun.0, ap (λ (l : List ℕ). drop 24 l) begun.1 ∙ drop_at (head id) (byte ∷ begun.0) 24 (length-head id begun.2), omega (arith, none))

begun_head : (id f : List ℕ) (byte : ℕ) → IsBegun id f byte → take 24 f ≡ head id
begun_head id f byte begun = ap (λ (l : List ℕ). take 24 l) begun.1 ∙ take_at (head id) (byte ∷ begun.0) 24 (length-head id begun.2)

-- the last one
pub file_read : (id f : List ℕ) (first : ℕ) (ss : List (List ℕ)) (gate byte : ℕ) → IsBegun id f first → IsRead f ss gate byte → byte ≢ 1 → gate < 2 ^ 64 → IsFile id ss f
file_read id f first ss gate byte begun read shut fits = record {
  gate = byte;
  junk = read.0;
  shut = shut;
  bytes =
      sym (take-append-drop 24 f) ∙ ap (λ (l : List ℕ). l ++ drop 24 f) (begun_head id f first begun) ∙ ap (λ (l : List ℕ). head id ++ l) read.1
      ∙ sym (append_assoc (head id) (blocks ss) (byte ∷ read.0));
  short = short_blocks ss (omega (arith, fits, read.2));
}

pub gate_read : (id f : List ℕ) (first : ℕ) (ss : List (List ℕ)) (gate byte : ℕ) → IsBegun id f first → IsRead f ss gate byte → gate ≡ length (head id ++ blocks ss)
gate_read id f first ss gate byte begun read = omega (arith, read.2, length-head id begun.2, length-append (head id) (blocks ss))

pub step_refused : (id f : List ℕ) (first : ℕ) (e : JournalError) → IsBegun id f first → IsStep f e → IsRefusal id f e
step_refused id f first (Why.Entry at) begun why = (begun_head id f first begun, why)
step_refused id f first Why.DiskFault begun why = tt
step_refused id f first Why.NoMemory begun why = tt
step_refused id f first Why.Magic begun why = absurd why
step_refused id f first Why.Instance begun why = absurd why
step_refused id f first Why.TooLong begun why = absurd why

-- 8 bytes, one by one
pub eight_are : (bs : List ℕ) → length bs ≡ 8
    → get_or bs 0 0 ∷ get_or bs 1 0 ∷ get_or bs 2 0 ∷ get_or bs 3 0 ∷ get_or bs 4 0 ∷ get_or bs 5 0 ∷ get_or bs 6 0 ∷ get_or bs 7 0 ∷ [] ≡ bs
eight_are (a ∷ b ∷ c ∷ d ∷ e ∷ f ∷ g ∷ h ∷ []) size = refl
eight_are [] size = absurd (omega (arith, size))
eight_are (a ∷ []) size = absurd (omega (arith, size))
eight_are (a ∷ b ∷ []) size = absurd (omega (arith, size))
eight_are (a ∷ b ∷ c ∷ []) size = absurd (omega (arith, size))
eight_are (a ∷ b ∷ c ∷ d ∷ []) size = absurd (omega (arith, size))
eight_are (a ∷ b ∷ c ∷ d ∷ e ∷ []) size = absurd (omega (arith, size))
eight_are (a ∷ b ∷ c ∷ d ∷ e ∷ f ∷ []) size = absurd (omega (arith, size))
eight_are (a ∷ b ∷ c ∷ d ∷ e ∷ f ∷ g ∷ []) size = absurd (omega (arith, size))
eight_are (a ∷ b ∷ c ∷ d ∷ e ∷ f ∷ g ∷ h ∷ x ∷ bs) size = absurd (omega (arith, size))

flips : (b : Bool) → not b ≡ false → b ≡ true
flips true h = refl
flips false h = absurd (true≢false h)

-- a test of bytes that does not fail
pub same_bytes : (r : Bool) (xs ys : List ℕ) → r ≡ not (pointwise eqb xs ys) → r ≡ false → xs ≡ ys
same_bytes r xs ys told passed = (bytes_decides xs ys).0 (flips (pointwise eqb xs ys) (sym told ∙ passed))

-- 25 bytes by their parts
pub head_split : (bytes id : List ℕ) → length bytes ≡ 25 → take 8 bytes ≡ codes "ETPJRN01" → take 16 (drop 8 bytes) ≡ id → bytes ≡ head id ++ get_or bytes 24 0 ∷ []
head_split bytes id size magic is =
    let last : drop 24 bytes ≡ get_or bytes 24 0 ∷ [] = drop_more bytes 24 0 (omega (arith, size)) ∙ ap (λ (l : List ℕ). get_or bytes 24 0 ∷ l) (drop_all 25 bytes (omega (arith, size))) in
    let behind : drop 8 bytes ≡ id ++ get_or bytes 24 0 ∷ [] =
    sym (take-append-drop 16 (drop 8 bytes)) ∙ ap (λ (l : List ℕ). l ++ drop 16 (drop 8 bytes)) is ∙ ap (λ (l : List ℕ). id ++ l) (drop-drop 16 8 bytes ∙ last) in
    sym (take-append-drop 8 bytes) ∙ ap (λ (l : List ℕ). l ++ drop 8 bytes) magic ∙ ap (λ (l : List ℕ). codes "ETPJRN01" ++ l) behind
    ∙ sym (append_assoc (codes "ETPJRN01") id (get_or bytes 24 0 ∷ []))

-- what follows from what is said of a result
pub if_ok : {T E : Type 0} (r : Result T E) (P Q : T → Type 0) → ((x : T) → P x → Q x) → IfOk r P → IfOk r Q
if_ok (Ok x) P Q f said = f x said
if_ok (Err e) P Q f said = said

pub if_err : {T E : Type 0} (r : Result T E) (P Q : E → Type 0) → ((e : E) → P e → Q e) → IfErr r P → IfErr r Q
if_err (Ok x) P Q f said = said
if_err (Err e) P Q f said = f e said

pub if_both : {T E : Type 0} (r : Result T E) (P Q : T → Type 0) → IfOk r P → IfOk r Q → IfOk r (λ x. P x × Q x)
if_both (Ok x) P Q a b = (a, b)
if_both (Err e) P Q a b = a

pub if_found : {T E : Type 0} (r : Result (Option T) E) (P Q R : T → Type 0) → ((x : T) → P x → Q x → R x) → IfOk r (λ o. IfSome o P) → IfOk r (λ o. IfSome o Q) → IfOk r (λ o. IfSome o R)
if_found (Ok (Some x)) P Q R f a b = f x a b
if_found (Ok None) P Q R f a b = a
if_found (Err e) P Q R f a b = a

-- the first 25 bytes
module _ (id f bytes : List ℕ) (size : length bytes ≡ 25) (stands : StandsAt f 0 bytes) where
  first_are : bytes ≡ take 25 f
  first_are = stands ∙ ap (λ (k : ℕ). take k f) size

  magic_is : take 8 bytes ≡ take 8 f
  magic_is = ap (λ (l : List ℕ). take 8 l) first_are ∙ take-take 8 25 f (omega arith)

  id_is : take 16 (drop 8 bytes) ≡ take 16 (drop 8 f)
  id_is = ap (λ (l : List ℕ). take 16 (drop 8 l)) first_are ∙ ap (λ (l : List ℕ). take 16 l) (drop-take 8 17 f) ∙ take-take 16 17 (drop 8 f) (omega arith)

  pub head_begun : (byte : ℕ) → bytes ≡ head id ++ byte ∷ [] → length id ≡ 16 → IsBegun id f byte
  head_begun byte is long = (
    drop 25 f,
    sym (take-append-drop 25 f) ∙ ap (λ (l : List ℕ). l ++ drop 25 f) (sym first_are ∙ is) ∙ append_assoc (head id) (byte ∷ []) (drop 25 f),
    long,
  )

  pub head_refused : (e : JournalError) → 25 ≤ length f → IsHeadRefusal id bytes e → IsRefusal id f e
  head_refused Why.Magic long why = inr (λ is. why (magic_is ∙ is))
  head_refused Why.Instance long why = (long, sym magic_is ∙ why.0, λ is. why.1 (id_is ∙ is))
  head_refused (Why.Entry at) long why = absurd why
  head_refused Why.TooLong long why = absurd why
  head_refused Why.DiskFault long why = absurd why
  head_refused Why.NoMemory long why = absurd why
