-- What is appended to a file at rest.
use Rattle.std.proofs.Common.{◌≡◌, inl, ◌+◌, ◌-◌, ◌≤◌, ◌^◌, ℕ, List, [], ◌∷◌, ◌++◌, length, get_or, take, drop, refl, sym, ◌∙◌, ap, subst, arith, length-append, Some}
use Rattle.std.proofs.lemmas.List.{append-nil, take_all}
use Rattle.std.specs.Prelude.{Result, Ok, Err, OnOk, codes}
use Rattle.std.specs.declared.option.Option.{Option}
use Rattle.journal_disk.specs.Disks.{Holds, LeavesOnly, Torn}
use Rattle.journal_disk.proofs.DiskLemmas.{started, leaves_weaker}
use Rattle.journal_file.specs.Layout.{head, blocks, AreShort, IsBeforeOrAfter, IsShort}
use Rattle.journal_file.specs.Gates.{IsKept, IsShutOrOpen, Leaves}
use Rattle.journal_file.specs.Rest.{AtRest, Appends, Stays, AtEachMoment}
use Rattle.journal_file.specs.declared.file.JournalFile.{JournalFile}
use Rattle.journal_file.proofs.Pieces.{held_whole}
use Rattle.journal_file.proofs.LayoutLemmas.{short_blocks, blocks-append, opens_either, opens_shut, file_after}

-- a list by its first item and the others
pub first_and_rest : (ss : List (List ℕ)) (s first : List ℕ) → 1 ≤ length ss → s ≡ get_or ss 0 s → first ≡ s → first ∷ take (length ss - 1) (drop 1 ss) ≡ ss
first_and_rest [] s first some is same = absurd (omega (arith, some))
first_and_rest (x ∷ ss) s first some is same =
    let rest : take (length (x ∷ ss) - 1) ss ≡ ss = take_all (length (x ∷ ss) - 1) ss (omega arith) in
    ap (λ (l : List (List ℕ)). first ∷ l) rest ∙ ap (λ (l : List ℕ). l ∷ ss) (same ∙ is)

-- what follows from what an Ok says
pub on_ok : {T E : Type 0} (r : Result T E) (P Q : Type 0) → (P → Q) → OnOk r P → OnOk r Q
on_ok (Ok x) P Q f said = f said
on_ok (Err e) P Q f said = said

-- what is brought behind a gate has the length of the blocks
pub length-piece : (piece : List ℕ) (more : List (List ℕ)) → 1 ∷ piece ≡ blocks more ++ 0 ∷ [] → length piece ≡ length (blocks more)
length-piece piece more spelled = omega (arith, ap length spelled, length-append (blocks more) (0 ∷ []))

module _ {D : Type 0} (seen : D → Option (List ℕ)) (may_leave : D → List ℕ → Type 0) (old new : JournalFile D) where
  module _ (piece : List ℕ) (fits : old.gate + length piece ≤ 2 ^ 62) (more : List (List ℕ)) (spelled : 1 ∷ piece ≡ blocks more ++ 0 ∷ []) where
    short_more : AreShort more
    short_more = short_blocks more (omega (arith, fits, length-piece piece more spelled))

    pub piece_left : ((front : List ℕ) (g : ℕ) (junk : List ℕ) → length front ≡ old.gate → seen old.disk ≡ Some (front ++ g ∷ junk) → Leaves seen new.disk (IsShutOrOpen front g piece))
        → Stays seen may_leave old more new
    piece_left left id ss rest =
        let got = left (head id ++ blocks ss) rest.form.gate rest.form.junk (sym rest.gate) (rest.kept.told ∙ ap Some rest.form.bytes) in
        (got.0, got.1, opens_either id ss more rest.form.short short_more rest.form.gate piece got.0 rest.form.shut spelled got.2)

    pub piece_moment : (moment : D → ℕ) (left_since : D → ℕ → List ℕ → Type 0)
        → ((front : List ℕ) (g : ℕ) (junk : List ℕ) → length front ≡ old.gate → IsKept seen may_leave old.disk (front ++ g ∷ junk)
        → LeavesOnly moment left_since old.disk new.disk (IsShutOrOpen front g piece))
        → AtEachMoment seen may_leave moment left_since old more new
    piece_moment moment left_since each id ss rest =
        let front = head id ++ blocks ss in
        let run = each front rest.form.gate rest.form.junk (sym rest.gate) (subst (λ (f : List ℕ). IsKept seen may_leave old.disk f) rest.form.bytes rest.kept) in
        leaves_weaker moment left_since old.disk new.disk (IsShutOrOpen front rest.form.gate piece) (IsBeforeOrAfter id ss more) run
        (λ c either. opens_either id ss more rest.form.short short_more rest.form.gate piece c rest.form.shut spelled either)

    pub piece_done : ((front : List ℕ) (g : ℕ) (junk : List ℕ) → length front ≡ old.gate → seen old.disk ≡ Some (front ++ g ∷ junk)
        → IsKept seen may_leave new.disk (front ++ 1 ∷ (piece ++ drop (length piece) junk)))
        → new.gate ≡ old.gate + length piece
        → Appends seen may_leave old more new
    piece_done done grown id ss rest =
        let front = head id ++ blocks ss in
        let behind = drop (length piece) rest.form.junk in
        record {
          file = front ++ 1 ∷ (piece ++ behind);
          kept = done front rest.form.gate rest.form.junk (sym rest.gate) (rest.kept.told ∙ ap Some rest.form.bytes);
          form = file_after id ss more rest.form.short short_more piece behind (front ++ 1 ∷ (piece ++ behind)) spelled refl;
          gate = omega (
            arith,
            grown,
            rest.gate,
            length-piece piece more spelled,
            ap length (blocks-append ss more),
            length-append (blocks ss) (blocks more),
            length-append (head id) (blocks ss),
            length-append (head id) (blocks (ss ++ more)),
          );
        }

module _ {D : Type 0} (seen : D → Option (List ℕ)) (may_leave : D → List ℕ → Type 0) (j : JournalFile D) (more : List (List ℕ)) where
  opens : (id : List ℕ) (ss : List (List ℕ)) (rest : AtRest seen may_leave id ss j) (c : List ℕ) → c ≡ rest.file → IsBeforeOrAfter id ss more c
  opens id ss rest c is = inl (opens_shut id ss [] rest.form.short tt rest.form.gate rest.form.junk c rest.form.shut (is ∙ rest.form.bytes))

  pub none_stays : Stays seen may_leave j more j
  none_stays id ss rest = (rest.file, rest.kept.told, opens id ss rest rest.file refl)

  pub none_moment : (moment : D → ℕ) (left_since : D → ℕ → List ℕ → Type 0) → ((file : D) (c : List ℕ) → left_since file (moment file) c → may_leave file c)
      → AtEachMoment seen may_leave moment left_since j more j
  none_moment moment left_since only_now id ss rest =
      started moment left_since j.disk (IsBeforeOrAfter id ss more) (λ c left. opens id ss rest c (rest.kept.durable c (only_now j.disk c left)))

-- a file that was made, without an entry
pub made : {D : Type 0} (seen : D → Option (List ℕ)) (may_leave : D → List ℕ → Type 0) (id bytes file : List ℕ) (j : JournalFile D) → bytes ≡ head id ++ 0 ∷ [] → length id ≡ 16 → Holds 0 bytes [] file
    → IsKept seen may_leave j.disk file → j.gate ≡ 24 → AtRest seen may_leave id [] j
made seen may_leave id bytes file j is size holds kept gate =
    let none : head id ++ [] ≡ head id = append-nil (head id) in
    let eight : length (codes "ETPJRN01") ≡ 8 = refl in
    record {
      file = file;
      kept = kept;
      form = record {
        gate = 0;
        junk = [];
        shut = omega arith;
        bytes = held_whole bytes file holds ∙ is ∙ ap (λ (l : List ℕ). l ++ 0 ∷ []) (sym none);
        short = tt;
      };
      gate = omega (arith, gate, ap length none, length-append (codes "ETPJRN01") id, eight, size);
    }

torn_short : (bytes c : List ℕ) → length bytes ≡ 25 → Torn 0 (length bytes) [] c → IsShort c
torn_short bytes c size torn = omega (arith, size, torn.no_longer)

length-start : (id bytes : List ℕ) → bytes ≡ head id ++ 0 ∷ [] → length id ≡ 16 → length bytes ≡ 25
length-start id bytes is size =
    let eight : length (codes "ETPJRN01") ≡ 8 = refl in
    omega (arith, ap length is, length-append (head id) (0 ∷ []), length-append (codes "ETPJRN01") id, eight, size)

-- a file whose making was cut short
pub begun_left : {D : Type 0} (seen : D → Option (List ℕ)) (id bytes : List ℕ) (new : D) → bytes ≡ head id ++ 0 ∷ [] → length id ≡ 16 → Leaves seen new (Torn 0 (length bytes) []) → Leaves seen new IsShort
begun_left seen id bytes new is size left = (left.0, left.1, torn_short bytes left.0 (length-start id bytes is size) left.2)

pub begun_moment : {D : Type 0} (moment : D → ℕ) (left_since : D → ℕ → List ℕ → Type 0) (id bytes : List ℕ) (old new : D) → bytes ≡ head id ++ 0 ∷ [] → length id ≡ 16
    → LeavesOnly moment left_since old new (Torn 0 (length bytes) []) → LeavesOnly moment left_since old new IsShort
begun_moment moment left_since id bytes old new is size run =
    leaves_weaker moment left_since old new (Torn 0 (length bytes) []) IsShort run (λ c torn. torn_short bytes c (length-start id bytes is size) torn)
