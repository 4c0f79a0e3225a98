-- What a seat's next step may rely on, by what its last steps showed.
use Rattle.std.proofs.Common.{◌≡◌, ℕ, Bool, List, [], ◌∷◌, ◌++◌, length, Option, Some, ap, sym, ◌∙◌, subst}
use mathlib.Core.Option.{some}
use Rattle.atomic_table.specs.Table.{Me, Final, Seen}
use Rattle.turn_book.specs.declared.view.View.{View}
use Rattle.turn_book.specs.Lists.{last}
use Rattle.turn_book.specs.Rules.{Knows, Ruled}
use Rattle.turn_book.specs.Hands.{hand_of, held_len, Waits, EndsAt}
use Rattle.turn_book.specs.Steps.{grown}
use Rattle.turn_book.proofs.ListLemmas.{last_snoc}
use Rattle.turn_book.proofs.KeptLemmas.{my_turn}

module _ {B E F : Type 0} (m : Me (Option B) (View E F)) (n : ℕ) (m' : Me (Option B) (View E F)) (entry : Option E) (log : List E) where
  -- the step showed an entry, and the journal ends with it
  pub published_view : ((e : E) → entry ≡ Some e → (n ≡ length m.0.seen) × (m' ≡ (grown e n m.0, m.1))) → entry ≡ last log → (e : E) → log ≡ m.0.seen ++ e ∷ [] → m' ≡ (grown e (length m.0.seen) m.0, m.1)
  published_view tells said e whole =
      let t = tells e (said ∙ (ap last whole ∙ last_snoc m.0.seen e)) in
      t.1 ∙ ap (λ (k : ℕ). (grown e k m.0, m.1)) t.0

  pub published_held : ((e : E) → entry ≡ Some e → (n ≡ length m.0.seen) × (m' ≡ (grown e n m.0, m.1))) → entry ≡ last log → (e : E) → log ≡ m.0.seen ++ e ∷ [] → m'.0.held ≡ Some log
  published_held tells said e whole = ap (λ x. x.0.held) (published_view tells said e whole) ∙ ap Some (sym whole)

  pub published_hand : ((e : E) → entry ≡ Some e → (n ≡ length m.0.seen) × (m' ≡ (grown e n m.0, m.1))) → entry ≡ last log → (e : E) → log ≡ m.0.seen ++ e ∷ [] → m.0.held ≡ Some m.0.seen → m.1 ≡ hand_of m.0.held → m'.1 ≡ hand_of m'.0.held
  published_hand tells said e whole held hand = ap (λ x. x.1) (published_view tells said e whole) ∙ (hand ∙ (ap hand_of held ∙ ap hand_of (sym (published_held tells said e whole))))

  pub published_length : ((e : E) → entry ≡ Some e → (n ≡ length m.0.seen) × (m' ≡ (grown e n m.0, m.1))) → entry ≡ last log → (e : E) → log ≡ m.0.seen ++ e ∷ [] → (k : ℕ) → k ≡ length log → held_len m'.0.held k ≡ k
  published_length tells said e whole k is = ap (λ h. held_len h k) (published_held tells said e whole) ∙ sym is

-- takes that missed the turn change nothing that a seat knows
pub knows_missed : {E F : Type 0} (by : E → ℕ) (enters : E → Bool) (log : List E) (v u : View E F) (k : ℕ) → u ≡ record v { missed = k } → Knows by enters log u → Knows by enters log v
knows_missed {E} {F} by enters log v u k is knows =
    let t : Knows by enters log (record v { missed = k }) = subst (λ (w : View E F). Knows by enters log w) is knows in
    let f = t.fits in record {
      fits = record { seen = f.seen; marks = f.marks; heard = f.heard; number = f.number; met = f.met; olds = f.olds; mine = f.mine; dated = f.dated; rises = f.rises; places = f.places };
      apart = t.apart;
    }

-- the seat that took the turn last has the whole journal of the last state
pub ends : {B E F : Type 0} (journal : B → List E) (fixed : B → F) (by : E → ℕ) (enters : E → Bool) (key : F) (v u : View E F) (log : List E) (place : ℕ) (words : List ℕ) (slots : List (Option B))
    → Waits v log u → Final (Seen (Ruled journal fixed by enters key) place u) words slots → EndsAt journal fixed by enters key v log
ends journal fixed by enters key v u log place words slots waits final =
    let state = final.0 in
    let rule = final.1.0 in
    let mine = my_turn journal fixed by enters key state rule place u log final.1.1 (ap (λ w. w.held) waits.2) in record {
      state = state;
      rule = rule;
      whole = sym mine.1;
      place = place;
      turn = mine.0;
      missed = waits.0;
      more = waits.1;
      mine = final.1.1 ∙ ap some waits.2;
    }
