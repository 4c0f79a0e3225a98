-- Letting a session in, between taking and giving the turn.
use Rattle.std.proofs.Common.{◌≡◌, ◌≤◌, ℕ, ℤ, Bool, true, false, cond, leb, List, [], ◌∷◌, ◌++◌, length, Some, refl, ap, sym, ◌∙◌, subst, arith, length-append}
use Rattle.std.specs.Prelude.{if◌then◌else◌}
use mathlib.Core.List.{IsPrefix}
use Rattle.std.proofs.lemmas.Bool.Decides.{nat_tests}
use Rattle.std.proofs.lemmas.List.{append-nil}
use Rattle.server_config.specs.declared.config.Config.{Config}
use Rattle.store_machine.specs.declared.call.StoreCall.TheVariants as call
use Rattle.store_machine.specs.declared.journal.Act.TheVariants.{Enter}
use Rattle.store_machine.specs.declared.journal.Entry.{Entry}
use Rattle.store_machine.specs.Answers.{has_room_for, entries_of}
use Rattle.store_machine.specs.Legal.{Legal}
use Rattle.store_machine.proofs.NumberLemmas.{fresh-number}
use Rattle.turn_book.specs.Hands.{Waits}
use Rattle.turn_book.specs.Lists.{own, longer}
use Rattle.turn_book.specs.Steps.{fresh_view, hearing, joined}
use Rattle.store_hub.specs.Words.{Known, by_of}
use Rattle.store_hub.specs.Kept.{IsKept}
use Rattle.store_hub.specs.Notes.{noted, entering, SeesMore, Meets}
use Rattle.store_hub.specs.Turns.{LetsIn}
use Rattle.store_hub.proofs.CountLemmas.{own_same}
use Rattle.store_hub.proofs.KeepingLemmas.{keeps_entered}

-- ---- the store

-- an Enter that added an entry found room for it
has_room : (b : Bool) (log after : List Entry) (e : Entry) → after ≡ log ++ (if b then e ∷ [] else []) → (length after ≡ length log → ⊥) → b ≡ true
has_room true log after e is longer = refl
has_room false log after e is longer = absurd (longer (ap length (is ∙ append-nil log)))

nothing : {X : Type 0} (xs : List X) → length xs ≡ 0 → xs ≡ []
nothing [] len = refl
nothing (x ∷ xs) len = absurd (omega (arith, len))

pub lets_in : (config : Config) (log after : List Entry) (at : ℤ) (n : ℕ) → Legal config log → n ≡ length log → after ≡ log ++ entries_of config log 0 0 at call.Enter → (length after ≡ n → ⊥) → LetsIn config log n
lets_in config log after at n legals is whole longer =
    let fresh : own by_of (length log) log ≡ [] = nothing (own by_of (length log) log) (own_same (length log) 0 log ∙ ap length (fresh-number config log legals)) in record {
      number = is;
      room = has_room (has_room_for config log Enter) log after (entering (length log) at) whole (λ same. longer (same ∙ sym is));
      own = subst (λ (k : ℕ). own by_of k log ≡ []) (sym is) fresh;
    }

-- ---- the seats

module _ (config : Config) (at : ℤ) (v f u w : Known) (log : List Entry) where
  -- the new pass has its number and its one entry
  pub kept_entered : (n : ℕ) → f ≡ fresh_view v.fixed v.seen → Waits f log u → LetsIn config log n → w ≡ noted log (entering n at ∷ []) u → IsKept n 1 w
  kept_entered n split waits lets view =
      let is : u ≡ record (fresh_view v.fixed v.seen) { held = Some log; missed = waits.0 } = waits.2 ∙ ap (λ (x : Known). record x { held = Some log; missed = waits.0 }) split in
      subst (IsKept n 1) (sym view) (keeps_entered n at log u (ap (λ (x : Known). x.number) is) (ap (λ (x : Known). x.places) is) lets.number lets.own)

whole_of : {X : Type 0} (xs more ys : List X) → xs ++ more ≡ ys → length ys ≤ length xs → xs ≡ ys
whole_of xs [] ys is short = sym (append-nil xs) ∙ is
whole_of xs (m ∷ more) ys is short = let l = ap length is in let a = length-append xs (m ∷ more) in absurd (omega (arith, l, a, short))

longer_of : {X : Type 0} (xs ys : List X) → IsPrefix xs ys → (b : Bool) → leb (length ys) (length xs) ≡ b → cond b xs ys ≡ ys
longer_of xs ys p true is = whole_of xs p.0 ys p.1 (grind (arith, nat_tests))
longer_of xs ys p false is = refl

-- the longer of a prefix and the whole
longer_whole : {X : Type 0} (xs ys : List X) → IsPrefix xs ys → longer xs ys ≡ ys
longer_whole xs ys p = longer_of xs ys p (leb (length ys) (length xs)) refl

module _ (v f u w x : Known) (log : List Entry) where
  -- the new seat that was not let in is joined again
  pub sees_more : f ≡ fresh_view v.fixed v.seen → Waits f log u → IsPrefix u.seen log → w ≡ noted log [] u → Meets v w x → SeesMore log v x
  sees_more split waits before view m =
      let is : u ≡ record (fresh_view v.fixed v.seen) { held = Some log; missed = waits.0 } = waits.2 ∙ ap (λ (y : Known). record y { held = Some log; missed = waits.0 }) split in
      let prefix : IsPrefix v.seen log = subst (λ (y : Known). IsPrefix y.seen log) is before in
      let back : w ≡ noted log [] (record (fresh_view v.fixed v.seen) { held = Some log; missed = waits.0 }) = view ∙ ap (noted log []) is in
      let long : longer v.seen log ≡ log = longer_whole v.seen log prefix in
      let none_met = append-nil v.met in
      let all : joined v w ≡ record v { seen = log; olds = v.seen ∷ log ∷ [] } = ap (joined v) back ∙ (λ i. record v { seen = long i; met = none_met i; olds = v.seen ∷ log ∷ [] }) in
      let at : x ≡ hearing m.front (record v { seen = log; olds = v.seen ∷ log ∷ [] }) = m.view ∙ ap (hearing m.front) all in record {
        front = m.front;
        before = prefix;
        least = subst (λ (y : Known). length y.seen ≤ m.front) at m.least;
        view = at;
        sound = m.sound;
      }
