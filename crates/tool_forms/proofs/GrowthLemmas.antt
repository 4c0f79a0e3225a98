-- A journal grows by the entries of one session.
use Rattle.std.proofs.Common.{◌≡◌, ◌≢◌, ℕ, ℤ, ◌+◌, ◌-◌, ◌<◌, cond, List, [], ◌∷◌, ◌++◌, length, refl, ap, sym, ◌∙◌, subst, arith, append_assoc, append-nil, length-append, ◌==◌, eq-eqb}
use Rattle.std.specs.Prelude.{IsSomeAnd, slice_get}
use Rattle.std.specs.List.{AllByRecursion}
use Rattle.std.proofs.lemmas.List.Elements.{filter-append}
use Rattle.std.proofs.lemmas.Bool.{ne_eqb}
use Rattle.store_machine.proofs.NumberLemmas.{own_few}
use Rattle.store_machine.specs.Laws.{IsEntryOf, IsNumber, NumbersStay}
use Rattle.store_machine.specs.Legal.{own, IsNext}
use Rattle.store_machine.specs.declared.journal.Entry.{Entry}

-- all are of one session
abbrev pub By : ℕ → List Entry → Type 0
By n [] = Unit {0}
By n (e ∷ es) = (e.by ≡ n) × By n es

pub by_of : (n nth : ℕ) (at : ℤ) (es : List Entry) → AllByRecursion (IsEntryOf n nth at) es → By n es
by_of n nth at [] all = tt
by_of n nth at (e ∷ es) all = (all.0.0, by_of n nth at es all.1)

-- a journal and what it has grown to
pub record Grows (n : ℕ) (h h' : List Entry) : Type 0 where
  pub more : List Entry
  pub is : h' ≡ h ++ more
  pub by : By n more

pub grows_none : (n : ℕ) (h : List Entry) → Grows n h h
grows_none n h = record { more = []; is = sym (append-nil h); by = tt }

By-append : (n : ℕ) (xs ys : List Entry) → By n xs → By n ys → By n (xs ++ ys)
By-append n [] ys a b = b
By-append n (x ∷ xs) ys a b = (a.0, By-append n xs ys a.1 b)

pub grows_trans : (n : ℕ) (h i j : List Entry) → Grows n h i → Grows n i j → Grows n h j
grows_trans n h i j a b = record {
  more = a.more ++ b.more;
  is = b.is ∙ ap (λ l. l ++ b.more) a.is ∙ append_assoc h a.more b.more;
  by = By-append n a.more b.more a.by b.by;
}

-- ---- the entry of entering

pub entry_last : (h : List Entry) (e : Entry) (P : Entry → Type 0) → P e → IsSomeAnd (slice_get (h ++ e ∷ []) (length h)) P
entry_last [] e P is = is
entry_last (x ∷ xs) e P is = entry_last xs e P is

-- ---- counts of own entries

own_other : (n m : ℕ) (es : List Entry) → m ≢ n → By n es → own m es ≡ []
own_other n m [] other by = refl
own_other n m (e ∷ es) other by =
    ap (λ b. cond b (e ∷ own m es) (own m es)) (ne_eqb e.by m (λ same. other (sym same ∙ by.0))) ∙ own_other n m es other by.1

pub own_all : (n : ℕ) (es : List Entry) → By n es → own n es ≡ es
own_all n [] by = refl
own_all n (e ∷ es) by = ap (λ b. cond b (e ∷ own n es) (own n es)) (eq-eqb e.by n by.0) ∙ ap (λ l. e ∷ l) (own_all n es by.1)

pub own_more : (m : ℕ) (h es : List Entry) → own m (h ++ es) ≡ own m h ++ own m es
own_more m h es = filter-append (λ (e : Entry). e.by == m) h es

-- the entries of another session are the same as before
pub own_kept : (n m : ℕ) (h h' : List Entry) → Grows n h h' → m ≢ n → own m h' ≡ own m h
own_kept n m h h' grows other = ap (own m) grows.is ∙ own_more m h grows.more ∙ ap (λ l. own m h ++ l) (own_other n m grows.more other grows.by) ∙ append-nil (own m h)

-- and as many
pub next_kept : NumbersStay → (n m k : ℕ) (h h' : List Entry) → Grows n h h' → m ≢ n → IsNext h m k → IsNext h' m k
next_kept stay n m k h h' grows other next =
    record {
      session = subst (λ l. IsNumber l m) (sym grows.is) (stay h grows.more m next.session);
      entries = next.entries ∙ ap length (sym (own_kept n m h h' grows other));
    }

-- its own are more by those
pub next_more : NumbersStay → (n k : ℕ) (h es : List Entry) → By n es → IsNext h n k → IsNext (h ++ es) n (k + length es)
next_more stay n k h es by next =
    let all : own n (h ++ es) ≡ own n h ++ es = own_more n h es ∙ ap (λ l. own n h ++ l) (own_all n es by) in
    record {
      session = stay h es n next.session;
      entries = ap (λ x. x + length es) next.entries ∙ sym (length-append (own n h) es) ∙ ap length (sym all);
    }

-- the count of own entries, and of what was added, is a number of the machine if the journal's length is
pub own_fits : (n entries : ℕ) (h h' : List Entry) (before after : ℕ) (es : List Entry) → h' ≡ h ++ es → entries ≡ length (own n h) → before ≡ length h → after ≡ length h' → after < 18446744073709551616
    → entries + (after - before) < 18446744073709551616
own_fits n entries h h' before after es grown own_is before_is after_is small =
    let few = own_few n h in
    let long = ap length grown in
    omega (arith, few, long, length-append h es, own_is, before_is, after_is, small)
