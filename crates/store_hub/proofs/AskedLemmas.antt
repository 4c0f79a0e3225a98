-- One call between taking and giving the turn.
use Rattle.std.proofs.Common.{◌≡◌, ◌+◌, ◌-◌, ◌≤◌, ◌<◌, inl, inr, ℕ, ℤ, List, [], ◌∷◌, ◌++◌, length, Option, Some, None, IfSome, Result, Ok, Err, IfOk, refl, ap, sym, ◌∙◌, subst, arith, length-append}
use Rattle.std.specs.Prelude.{OnOk, OnErr}
use Rattle.std.specs.List.{AllByRecursion}
use mathlib.Core.List.{IsPrefix}
use Rattle.std.proofs.lemmas.List.{append-nil}
use Rattle.server_config.specs.declared.config.Config.{Config}
use Rattle.store_machine.specs.declared.call.StoreCall.{StoreCall}
use Rattle.store_machine.specs.declared.call.Answer.{Answer}
use Rattle.store_machine.specs.declared.journal.Entry.{Entry}
use Rattle.store_machine.specs.Answers.{answer, entries_of, answered, added}
use Rattle.store_machine.specs.Laws.{OneOrNone, IsEntryOf, IsCallAt}
use Rattle.store_machine.specs.Legal.{IsNext}
use Rattle.store_machine.proofs.NumberLemmas.{entries-one, entries-of_session}
use Rattle.turn_book.specs.Hands.{IsOneMore, MayGive, Waits}
use Rattle.turn_book.specs.Lists.{Each, own}
use Rattle.turn_book.specs.Rules.{IsSettled}
use Rattle.turn_book.specs.Steps.{marked, released, wrote, IsOwn, IsOwnSeen, Sees}
use Rattle.store_hub.specs.Words.{Known, by_of, enters_of}
use Rattle.store_hub.specs.Kept.{begins_at, IsKept}
use Rattle.store_hub.specs.Notes.{noted, Answers, Refuses}
use Rattle.store_hub.specs.Turns.{Adds}
use Rattle.store_hub.proofs.CountLemmas.{own_few, number_below, is_next}
use Rattle.store_hub.proofs.KeepingLemmas.{keeps_read, keeps_wrote}

-- ---- after the look

-- a look with the turn
pub sees : (u m : Known) (log : List Entry) (len : ℕ) → u.held ≡ Some log → IfSome u.held (λ (l : List Entry). Sees by_of enters_of l u len m) → Sees by_of enters_of log u len m
sees u m log len is look = subst (λ (h : Option (List Entry)). IfSome h (λ (l : List Entry). Sees by_of enters_of l u len m)) is look

-- the view of a seat that has the turn and has looked
pub looked : (u m : Known) (log : List Entry) (len : ℕ) → Sees by_of enters_of log u len m → m ≡ marked log (length log) u
looked u m log len s = s.view ∙ ap (λ (n : ℕ). marked log n u) s.found

-- nobody else wrote under the number
pub own_kept : (n : ℕ) (u m : Known) (log : List Entry) (len : ℕ) → u.number ≡ Some n → Sees by_of enters_of log u len m → own by_of n log ≡ own by_of n u.seen
own_kept n u m log len is s = subst (λ (o : Option ℕ). IsOwnSeen by_of o u.seen log) is s.own

settled : (n : ℕ) (u m : Known) (log : List Entry) (len : ℕ) → u.number ≡ Some n → Sees by_of enters_of log u len m → IsSettled by_of enters_of log n log
settled n u m log len is s =
    let P : Known → Type 0 = λ x. IfSome x.number (λ (q : ℕ). IsSettled by_of enters_of log q x.seen) in
    let t : P (marked log len u) = subst P s.view s.knows.fits.number in
    subst (λ (o : Option ℕ). IfSome o (λ (q : ℕ). IsSettled by_of enters_of log q log)) is t

-- the journal is no shorter than a length that was heard
heeded : (u m : Known) (log : List Entry) (len : ℕ) → Sees by_of enters_of log u len m → Each (λ n. n ≤ length log) u.heard
heeded u m log len s =
    let P : Known → Type 0 = λ x. Each (λ n. n ≤ length log) x.heard in
    subst P s.view s.knows.fits.heard

-- the store is asked as the one whose turn it is
pub next_of : (n nth : ℕ) (u m : Known) (log : List Entry) (len : ℕ) → IsKept n nth (record u { held = None }) → Sees by_of enters_of log u len m → IsNext log n nth
next_of n nth u m log len k s = is_next n nth log (settled n u m log len k.0 s) (ap length (own_kept n u m log len k.0 s) ∙ k.2)

-- the number is a place of the journal
pub number_within : (n nth : ℕ) (u m : Known) (log : List Entry) (len : ℕ) → IsKept n nth (record u { held = None }) → Sees by_of enters_of log u len m → n < length log
number_within n nth u m log len k s = number_below n log (ap (begins_at n) (own_kept n u m log len k.0 s) ∙ k.3)

-- ---- the entry

-- the store's own words behind the names that nothing looks into
pub asked_as : {E : Type 0} (config : Config) (log after : List Entry) (n nth : ℕ) (at : ℤ) (call : StoreCall) (r : Result Answer E) → IsCallAt log call
    → IfOk r (λ a. a ≡ answer config log call) → OnOk r (after ≡ log ++ entries_of config log n nth at call) → IfOk r (λ a. (a ≡ answered config log call) × Adds config log n nth at call after)
unfolding answered added
asked_as config log after n nth at call (Ok a) asks is whole = (is, record { whole = whole; one = entries-one config log n nth at call; own = entries-of_session config log n nth at call asks })
asked_as config log after n nth at call (Err e) asks is whole = tt

-- what one turn adds to a journal: nothing, or an entry of the seat's own
pub record Grows (number : Option ℕ) (log after es : List Entry) : Type 0 where
  pub whole : after ≡ log ++ es
  pub one : OneOrNone es
  pub mine : AllByRecursion (λ e. IsOwn by_of enters_of number (length log) e) es

-- the entries that came, whatever was answered
abbrev pub entries_by : {A E : Type 0} → Result A E → List Entry → List Entry
entries_by (Ok a) es = es
entries_by (Err e) es = []

own_of : (n nth : ℕ) (at : ℤ) (place : ℕ) (es : List Entry) → AllByRecursion (IsEntryOf n nth at) es → AllByRecursion (λ e. IsOwn by_of enters_of (Some n) place e) es
own_of n nth at place [] t = tt
own_of n nth at place (e ∷ es) t = (t.0.0, own_of n nth at place es t.1)

pub grows : {A E : Type 0} (config : Config) (log after : List Entry) (n nth : ℕ) (at : ℤ) (call : StoreCall) (r : Result A E) (P : A → Type 0)
    → IfOk r (λ a. P a × Adds config log n nth at call after) → OnErr r (after ≡ log) → Grows (Some n) log after (entries_by r (added config log n nth at call))
grows config log after n nth at call (Ok a) P ok err = record { whole = ok.1.whole; one = ok.1.one; mine = own_of n nth at (length log) (added config log n nth at call) ok.1.own }
grows config log after n nth at call (Err e) P ok err = record { whole = err ∙ sym (append-nil log); one = tt; mine = tt }

module _ (number : Option ℕ) (u : Known) (log after : List Entry) where
  -- the view after that
  noted_looked : (w : Known) (es : List Entry) → u.held ≡ Some log → Grows number log after es
      → (u.held ≡ Some after → w ≡ released (marked log (length log) u)) → ((e : Entry) → IsOneMore (marked log (length log) u) e after → w ≡ wrote e (marked log (length log) u)) → w ≡ noted log es u
  noted_looked w [] held g same entry = same (held ∙ ap Some (sym (g.whole ∙ append-nil log)))
  noted_looked w (e ∷ []) held g same entry = entry e (held, g.whole)
  noted_looked w (e ∷ f ∷ es) held g same entry = absurd (g.one)

  pub noted_by : (m w : Known) (len : ℕ) (es : List Entry) → u.held ≡ Some log → Sees by_of enters_of log u len m → Grows number log after es
      → (m.held ≡ Some after → w ≡ released m) → ((e : Entry) → IsOneMore m e after → w ≡ wrote e m) → w ≡ noted log es u
  noted_by m w len es held s g same entry =
      let P : Known → Type 0 = λ x. (x.held ≡ Some after → w ≡ released x) × ((e : Entry) → IsOneMore x e after → w ≡ wrote e x) in
      let t : P (marked log (length log) u) = subst P (looked u m log len s) (same, entry) in
      noted_looked w es held g t.0 t.1

-- what may be given after that
gives_looked : (n : ℕ) (u : Known) (log after es : List Entry) → u.number ≡ Some n → u.held ≡ Some log → Grows (Some n) log after es → MayGive by_of enters_of (marked log (length log) u) after
gives_looked n u log after [] num held g = inl (held ∙ ap Some (sym (g.whole ∙ append-nil log)))
gives_looked n u log after (e ∷ []) num held g = inr (e, (held, g.whole), subst (λ (o : Option ℕ). IsOwn by_of enters_of o (length log) e) (sym num) g.mine.0)
gives_looked n u log after (e ∷ f ∷ es) num held g = absurd (g.one)

gives_by : (n : ℕ) (u m : Known) (log after : List Entry) (len : ℕ) (es : List Entry) → u.number ≡ Some n → u.held ≡ Some log → Sees by_of enters_of log u len m → Grows (Some n) log after es → MayGive by_of enters_of m after
gives_by n u m log after len es num held s g = subst (λ (x : Known). MayGive by_of enters_of x after) (sym (looked u m log len s)) (gives_looked n u log after es num held g)

module _ (n nth : ℕ) (u m : Known) (log after : List Entry) (len : ℕ) where
  -- the pass counts one more for an entry
  pub keeps_noted : (es : List Entry) → IsKept n nth (record u { held = None }) → Sees by_of enters_of log u len m → Grows (Some n) log after es → IsKept n (nth + (length after - len)) (noted log es u)
  keeps_noted [] k s g =
      let same = own_kept n u m log len k.0 s in
      let l = ap length (g.whole ∙ append-nil log) in
      let f = s.found in
      let is : nth ≡ nth + (length after - len) = omega (arith, l, f) in
      subst (λ (c : ℕ). IsKept n c (noted log [] u)) is (keeps_read n nth log u k same (number_within n nth u m log len k s))
  keeps_noted (e ∷ []) k s g =
      let same = own_kept n u m log len k.0 s in
      let l = ap length g.whole in
      let a = length-append log (e ∷ []) in
      let f = s.found in
      let is : nth + 1 ≡ nth + (length after - len) = omega (arith, l, a, f) in
      subst (λ (c : ℕ). IsKept n c (noted log (e ∷ []) u)) is (keeps_wrote n nth log e u k same (number_within n nth u m log len k s) g.mine.0)
  keeps_noted (e ∷ f ∷ es) k s g = absurd (g.one)

-- a count of own entries and of one call more
pub counts_fit : (n nth at_most len : ℕ) (log : List Entry) → length (own by_of n log) ≡ nth → len ≡ length log → len ≤ at_most → nth + (at_most - len) ≤ at_most
counts_fit n nth at_most len log is found more = let few = own_few n 0 log in omega (arith, few, is, found, more)

-- ---- the whole call

-- who has the turn does not matter once it is given
noted_held : (log es : List Entry) (v : Known) (h : Option (List Entry)) (k : ℕ) → noted log es (record v { held = h; missed = k }) ≡ noted log es (record v { missed = k })
noted_held log [] v h k = refl
noted_held log (e ∷ es) v h k = refl

module _ (config : Config) (n nth : ℕ) (at : ℤ) (call : StoreCall) (v u m w : Known) (log : List Entry) (len : ℕ) where
  pub answers : (a : Answer) → Waits v log u → u.number ≡ Some n → Sees by_of enters_of log u len m → a ≡ answered config log call → w ≡ noted log (added config log n nth at call) u → Answers config n nth at call v a w
  answers a waits num s is view = record {
    log = log;
    missed = waits.0;
    before = subst (λ (x : Known). IsPrefix x.seen log) waits.2 s.before;
    heard = subst (λ (x : Known). Each (λ n. n ≤ length log) x.heard) waits.2 (heeded u m log len s);
    more = waits.1;
    own = own_kept n u m log len num s ∙ ap (λ (x : Known). own by_of n x.seen) waits.2;
    answer = is;
    view = view ∙ (ap (noted log (added config log n nth at call)) waits.2 ∙ noted_held log (added config log n nth at call) v (Some log) waits.0);
  }

  pub refuses : Waits v log u → u.number ≡ Some n → Sees by_of enters_of log u len m → w ≡ noted log [] u → Refuses n v w
  refuses waits num s view = record {
    log = log;
    missed = waits.0;
    before = subst (λ (x : Known). IsPrefix x.seen log) waits.2 s.before;
    heard = subst (λ (x : Known). Each (λ n. n ≤ length log) x.heard) waits.2 (heeded u m log len s);
    more = waits.1;
    own = own_kept n u m log len num s ∙ ap (λ (x : Known). own by_of n x.seen) waits.2;
    view = view ∙ (ap (noted log []) waits.2 ∙ noted_held log [] v (Some log) waits.0);
  }

module _ (config key : Config) (n nth : ℕ) (at : ℤ) (call : StoreCall) (u m w : Known) (log after : List Entry) (len : ℕ) where
  turn_answers : {E : Type 0} (r : Result Answer E) → config ≡ key → u.number ≡ Some n → Sees by_of enters_of log u len m
      → IfOk r (λ a. (a ≡ answered config log call) × Adds config log n nth at call after) → w ≡ noted log (entries_by r (added config log n nth at call)) u
      → IfOk r (λ a. (v : Known) → Waits v log u → Answers key n nth at call v a w)
  turn_answers (Ok a) fixed num s ok view = subst (λ (c : Config). (v : Known) → Waits v log u → Answers c n nth at call v a w) fixed (λ v waits. answers config n nth at call v u m w log len a waits num s ok.0 view)
  turn_answers (Err e) fixed num s ok view = tt

  turn_refuses : {E : Type 0} (r : Result Answer E) → u.number ≡ Some n → Sees by_of enters_of log u len m → w ≡ noted log (entries_by r (added config log n nth at call)) u
      → OnErr r ((v : Known) → Waits v log u → Refuses n v w)
  turn_refuses (Ok a) num s view = tt
  turn_refuses (Err e) num s view = λ v waits. refuses config n nth at call v u m w log len waits num s view

  -- what may be said of a turn, before the book is given and after
  pub record Turned {E : Type 0} (r : Result Answer E) : Type 0 where
    pub longer : len ≤ length after
    pub fits : nth + (length after - len) ≤ length after
    pub gives : MayGive by_of enters_of m after
    pub kept : (m.held ≡ Some after → w ≡ released m) → ((e : Entry) → IsOneMore m e after → w ≡ wrote e m) → IsKept n (nth + (length after - len)) w
    pub ok : (m.held ≡ Some after → w ≡ released m) → ((e : Entry) → IsOneMore m e after → w ≡ wrote e m) → IfOk r (λ a. (v : Known) → Waits v log u → Answers key n nth at call v a w)
    pub err : (m.held ≡ Some after → w ≡ released m) → ((e : Entry) → IsOneMore m e after → w ≡ wrote e m) → OnErr r ((v : Known) → Waits v log u → Refuses n v w)

  pub turned : {E : Type 0} (r : Result Answer E) → config ≡ key → IsKept n nth (record u { held = None }) → u.held ≡ Some log → Sees by_of enters_of log u len m
      → IfOk r (λ a. (a ≡ answered config log call) × Adds config log n nth at call after) → OnErr r (after ≡ log) → Turned r
  turned r fixed k held s ok err =
      let es : List Entry = entries_by r (added config log n nth at call) in
      let g = grows config log after n nth at call r (λ (a : Answer). a ≡ answered config log call) ok err in
      let sizes = ap length g.whole in
      let both = length-append log es in
      let found = s.found in
      let more : len ≤ length after = omega (arith, sizes, both, found) in record {
        longer = more;
        fits = counts_fit n nth (length after) len log (ap length (own_kept n u m log len k.0 s) ∙ k.2) s.found more;
        gives = gives_by n u m log after len es k.0 held s g;
        kept = λ same entry. subst (IsKept n (nth + (length after - len))) (sym (noted_by (Some n) u log after m w len es held s g same entry)) (keeps_noted n nth u m log after len es k s g);
        ok = λ same entry. turn_answers r fixed k.0 s ok (noted_by (Some n) u log after m w len es held s g same entry);
        err = λ same entry. turn_refuses r k.0 s (noted_by (Some n) u log after m w len es held s g same entry);
      }
