-- A file opens in one way.
use Rattle.std.proofs.Common.{◌≡◌, inl, inr, ◌<◌, ◌≤◌, ℕ, List, [], ◌∷◌, ◌++◌, length, take, drop, refl, sym, ◌∙◌, ap, subst, arith, append_assoc, length-append}
use Rattle.std.proofs.lemmas.List.{take_at, drop_at, append_cancel_left}
use Rattle.std.specs.Prelude.{codes}
use Rattle.journal_file.specs.Layout.{head, block, blocks, Whole, NoMore, Bad, at_gate, record_at, Stand, OpensTo, AreShort, IsFile}
use Rattle.journal_file.specs.Opening.{IsRefusal, IsOutside}
use Rattle.journal_file.specs.declared.error.JournalError.{JournalError}
use Rattle.journal_file.specs.declared.error.JournalError.TheVariants as Why
use Rattle.journal_file.proofs.LayoutLemmas.{block_stands, opens_shut}
use Rattle.journal_file.proofs.OpeningLemmas.{length-head}

-- a file of an instance with these spellings opens to them
pub file_opens : (id : List ℕ) (ss : List (List ℕ)) (f : List ℕ) → IsFile id ss f → OpensTo id ss f
file_opens id ss f form = opens_shut id ss [] form.short tt form.gate form.junk f form.shut form.bytes

stand_one : (bytes : List ℕ) (ss more : List (List ℕ)) → Stand bytes ss → Stand bytes more → ss ≡ more
stand_one bytes [] [] a b = refl
stand_one bytes [] (t ∷ more) a b = let no' : NoMore ≡ Whole t b.0 = sym a ∙ b.1 in absurd (cc no')
stand_one bytes (s ∷ ss) [] a b = let no' : NoMore ≡ Whole s a.0 = sym b ∙ a.1 in absurd (cc no')
stand_one bytes (s ∷ ss) (t ∷ more) a b =
    let both : Whole s a.0 ≡ Whole t b.0 = sym a.1 ∙ b.1 in
    let first : s ≡ t = cc both in
    let rest : a.0 ≡ b.0 = cc both in
    let others : ss ≡ more = stand_one b.0 ss more (subst (λ (l : List ℕ). Stand l ss) rest a.2) b.2 in
    ap (λ (l : List (List ℕ)). s ∷ l) others ∙ ap (λ (x : List ℕ). x ∷ more) first

pub opens_once : (id : List ℕ) (ss more : List (List ℕ)) (f : List ℕ) → OpensTo id ss f → OpensTo id more f → ss ≡ more
opens_once id ss more f a b =
    let same : a.0 ≡ b.0 = append_cancel_left (head id) a.0 b.0 (sym a.1 ∙ b.1) in
    stand_one b.0 ss more (subst (λ (l : List ℕ). Stand l ss) same a.2) b.2

-- what stands has a gate
stand_some : (bytes : List ℕ) (ss : List (List ℕ)) → Stand bytes ss → 0 < length bytes
stand_some (b ∷ bytes) ss stand = omega arith
stand_some [] [] stand = absurd (cc stand)
stand_some [] (s ∷ ss) stand = absurd (cc stand.1)

-- an open gate without a record is never read over
stand_good : (bs : List (List ℕ)) (rest : List ℕ) (ss : List (List ℕ)) {A : Type 0} → AreShort bs → record_at rest ≡ Bad → Stand (blocks bs ++ 1 ∷ rest) ss → A
stand_good [] rest [] short bad stand = let no' : Bad ≡ NoMore = sym bad ∙ stand in absurd (cc no')
stand_good [] rest (s ∷ ss) short bad stand = let no' : Bad ≡ Whole s stand.0 = sym bad ∙ stand.1 in absurd (cc no')
stand_good (b ∷ bs) rest [] short bad stand =
    let tail : List ℕ = blocks bs ++ 1 ∷ rest in
    let here : at_gate (block b ++ tail) ≡ Whole b tail = block_stands b tail short.0 (omega (arith, length-append (blocks bs) (1 ∷ rest))) in
    let no' : Whole b tail ≡ NoMore = sym here ∙ ap at_gate (sym (append_assoc (block b) (blocks bs) (1 ∷ rest))) ∙ stand in
    absurd (cc no')
stand_good (b ∷ bs) rest (s ∷ ss) short bad stand =
    let tail : List ℕ = blocks bs ++ 1 ∷ rest in
    let here : at_gate (block b ++ tail) ≡ Whole b tail = block_stands b tail short.0 (omega (arith, length-append (blocks bs) (1 ∷ rest))) in
    let both : Whole b tail ≡ Whole s stand.0 = sym here ∙ ap at_gate (sym (append_assoc (block b) (blocks bs) (1 ∷ rest))) ∙ stand.1 in
    let same : tail ≡ stand.0 = cc both in
    stand_good bs rest ss short.1 bad (subst (λ (l : List ℕ). Stand l ss) (sym same) stand.2)

module _ (id : List ℕ) (size : length id ≡ 16) (ss : List (List ℕ)) (f : List ℕ) (opens : OpensTo id ss f) where
  long : 25 ≤ length f
  long = omega (arith, ap length opens.1, length-append (head id) opens.0, length-head id size, stand_some opens.0 ss opens.2)

  split : f ≡ codes "ETPJRN01" ++ (id ++ opens.0)
  split = opens.1 ∙ append_assoc (codes "ETPJRN01") id opens.0

  magic : take 8 f ≡ codes "ETPJRN01"
  magic = ap (λ (l : List ℕ). take 8 l) split ∙ take_at (codes "ETPJRN01") (id ++ opens.0) 8 refl

  instance : take 16 (drop 8 f) ≡ id
  instance = ap (λ (l : List ℕ). take 16 (drop 8 l)) split ∙ ap (λ (l : List ℕ). take 16 l) (drop_at (codes "ETPJRN01") (id ++ opens.0) 8 refl) ∙ take_at id opens.0 16 size

  behind : drop 24 f ≡ opens.0
  behind = ap (λ (l : List ℕ). drop 24 l) opens.1 ∙ drop_at (head id) opens.0 24 (length-head id size)

  pub opens_refuses : (e : JournalError) → IsRefusal id f e → IsOutside e
  opens_refuses Why.Magic (inl short) = absurd (omega (arith, short, long))
  opens_refuses Why.Magic (inr other) = absurd (other magic)
  opens_refuses Why.Instance why = absurd (why.2 instance)
  opens_refuses (Why.Entry at) why = stand_good why.1.0 why.1.1 ss why.1.3 why.1.4 (subst (λ (l : List ℕ). Stand l ss) (sym behind ∙ why.1.2) opens.2)
  opens_refuses Why.TooLong why = absurd why
  opens_refuses Why.DiskFault why = tt
  opens_refuses Why.NoMemory why = tt
