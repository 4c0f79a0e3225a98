-- A pass still keeps its number and its count after each kind of step.
use Rattle.std.proofs.Common.{◌≡◌, ◌≢◌, ◌==◌, ◌+◌, ◌≤◌, ◌<◌, ℕ, ℤ, Bool, true, false, List, [], ◌∷◌, ◌++◌, length, Option, Some, None, IfSome, IfNone, if◌then◌else◌, refl, ap, sym, ◌∙◌, subst, ne_eqb, eq-eqb, arith, length-append}
use Rattle.std.specs.Prelude.{◌&&◌}
use mathlib.Core.List.{IsPrefix}
use Rattle.std.proofs.lemmas.Bool.{false≢true}
use Rattle.store_machine.specs.declared.journal.Entry.{Entry}
use Rattle.turn_book.specs.Lists.{own, longer}
use Rattle.turn_book.specs.Rules.{IsMine, Sound}
use Rattle.turn_book.specs.Steps.{number_or, hearing, joined, Hears}
use Rattle.turn_book.proofs.OwnLemmas.{own_grown}
use Rattle.store_hub.specs.Words.{Known, by_of, enters_of}
use Rattle.store_hub.specs.Kept.{begins_at, is_alone, IsKept}
use Rattle.store_hub.specs.Notes.{noted, entering, Meets}
use Rattle.store_hub.specs.Turns.{StaysKept}
use Rattle.store_hub.proofs.CountLemmas.{number_below}

-- a place after the number is not the number, and a second place is not alone
alone_further : (n entries place : ℕ) (places : List ℕ) → n < place → is_alone n entries (places ++ place ∷ []) ≡ true
alone_further n entries place [] low = let ne : place ≢ n = omega arith in ap (λ (b : Bool). if b then entries == 1 else true) (ne_eqb place n ne)
alone_further n entries place (p ∷ []) low = refl
alone_further n entries place (p ∷ q ∷ more) low = refl

begins_further : (n : ℕ) (xs ys : List (ℕ × Entry)) → begins_at n xs ≡ true → begins_at n (xs ++ ys) ≡ true
begins_further n [] ys h = absurd (false≢true h)
begins_further n (first ∷ more) ys h = h

-- a turn without an entry
pub keeps_read : (n nth : ℕ) (log : List Entry) (u : Known) → IsKept n nth (record u { held = None }) → own by_of n log ≡ own by_of n u.seen → n < length log → IsKept n nth (noted log [] u)
keeps_read n nth log u k same low = (
  k.0,
  refl,
  ap length same ∙ k.2,
  ap (begins_at n) same ∙ k.3,
  alone_further n nth (length log) u.places low,
)

-- a turn with one
pub keeps_wrote : (n nth : ℕ) (log : List Entry) (e : Entry) (u : Known) → IsKept n nth (record u { held = None }) → own by_of n log ≡ own by_of n u.seen → n < length log → e.by ≡ n → IsKept n (nth + 1) (noted log (e ∷ []) u)
keeps_wrote n nth log e u k same low mine =
    let grown = own_grown by_of n log e mine in
    let before : length (own by_of n log) ≡ nth = ap length same ∙ k.2 in (
      ap (λ (o : Option ℕ). number_or o (length log)) k.0,
      refl,
      ap length grown ∙ (length-append (own by_of n log) ((length log, e) ∷ []) ∙ ap (λ (l : ℕ). l + 1) before),
      ap (begins_at n) grown ∙ begins_further n (own by_of n log) ((length log, e) ∷ []) (ap (begins_at n) same ∙ k.3),
      alone_further n (nth + 1) (length log) u.places low,
    )

either : (b : Bool) → (if b then true else true) ≡ true
either true = refl
either false = refl

-- the turn by which a session is let in
pub keeps_entered : (n : ℕ) (at : ℤ) (log : List Entry) (u : Known) → u.number ≡ None → u.places ≡ [] → n ≡ length log → own by_of n log ≡ [] → IsKept n 1 (noted log (entering n at ∷ []) u)
keeps_entered n at log u new places is own_none =
    let grown : own by_of n (log ++ entering n at ∷ []) ≡ (length log, entering n at) ∷ [] = own_grown by_of n log (entering n at) refl ∙ ap (λ (l : List (ℕ × Entry)). l ++ (length log, entering n at) ∷ []) own_none in (
      ap (λ (o : Option ℕ). number_or o (length log)) new ∙ ap Some (sym is),
      refl,
      ap length grown,
      ap (begins_at n) grown ∙ ap (λ (b : Bool). b && true) (eq-eqb (length log) n (sym is)),
      ap (λ (ps : List ℕ). is_alone n 1 (ps ++ length log ∷ [])) places ∙ either (length log == n),
    )

-- what a look shows of a join before it
met : (v w u : Known) (front : ℕ) → Hears by_of enters_of (joined v w) front u → Meets v w u
met v w u front h =
    let t : Sound by_of enters_of (hearing front (joined v w)) = subst (λ (x : Known). Sound by_of enters_of x) h.view h.sound in record {
      front = front;
      view = h.view;
      least = subst (λ (x : Known). length x.seen ≤ front) (sym h.view) h.least;
      first = subst (λ (x : Known). IsPrefix v.seen x.seen) (sym h.view) (t.fits.olds 0 v.seen refl);
      second = subst (λ (x : Known). IsPrefix w.seen x.seen) (sym h.view) (t.fits.olds 1 w.seen refl);
      sound = h.sound;
    }

-- a look at a seat without the turn
pub hears : (v m : Known) (front : ℕ) → v.held ≡ None → IfNone v.held (Hears by_of enters_of v front m) → Hears by_of enters_of v front m
hears v m front idle h = subst (λ (o : Option (List Entry)). IfNone o (Hears by_of enters_of v front m)) idle h

pub met_by : (v w x u : Known) (front : ℕ) → x ≡ joined v w → v.held ≡ None → IfNone x.held (Hears by_of enters_of x front u) → Meets v w u
met_by v w x u front is idle h =
    let t : Hears by_of enters_of x front u = hears x u front (ap (λ (y : Known). y.held) is ∙ idle) h in
    met v w u front (subst (λ (y : Known). Hears by_of enters_of y front u) is t)

-- a join, and the look after it
pub keeps_met : (v w u : Known) → Meets v w u → StaysKept v u
keeps_met v w u m n entries k =
    let t : Sound by_of enters_of (hearing m.front (joined v w)) = subst (λ (x : Known). Sound by_of enters_of x) m.view m.sound in
    let mine : IsMine by_of n (v.seen ∷ w.seen ∷ []) = subst (λ (o : Option ℕ). IfSome o (λ (q : ℕ). IsMine by_of q (v.seen ∷ w.seen ∷ []))) k.0 t.fits.mine in
    let same : own by_of n (longer v.seen w.seen) ≡ own by_of n v.seen = mine (number_below n v.seen k.3) in
    subst (IsKept n entries) (sym m.view) (k.0, k.1, ap length same ∙ k.2, ap (begins_at n) same ∙ k.3, k.4)
