-- The answer and the entry of a call that commits a transaction, and the plan of its operations.
use Rattle.std.specs.Prelude.{ℕ, ℤ, Bool, true, false, cond, ◌≡◌, ◌==◌, List, [], ◌∷◌, ◌++◌, Option, Some, None, filter, fold, map, refl, if◌then◌else◌, length}
use Rattle.std.proofs.Common.{ap, sym, ◌∙◌, arith}
use Rattle.std.proofs.lemmas.Bool.{false≢true}
use Rattle.std.proofs.lemmas.Bool.Decides.{nat_tests}
use Rattle.server_config.specs.declared.config.Config.{Config}
use Rattle.tx_stage.specs.declared.contents.Contents.{Contents}
use Rattle.tx_stage.specs.declared.key.Key.{Key}
use Rattle.tx_stage.specs.declared.op.Op.{Op}
use Rattle.tx_stage.specs.declared.plan.Plan.{Plan}
use Rattle.tx_stage.specs.declared.touch.Staged.{Staged}
use Rattle.tx_stage.specs.declared.value.Value.{Value}
use Rattle.tx_stage.specs.Ops.{alters_by, op_left}
use Rattle.tx_stage.specs.State.{Advances, state_in, state_now}
use Rattle.store_machine.specs.declared.call.Reply.TheVariants as replied
use Rattle.store_machine.specs.declared.call.StoreCall.TheVariants as call
use Rattle.store_machine.specs.declared.journal.Act.{Act}
use Rattle.store_machine.specs.declared.journal.Act.TheVariants.{Commit}
use Rattle.store_machine.specs.declared.journal.Entry.{Entry}
use Rattle.store_machine.specs.Answers.{commit_reply, entered, entry, granted, has_room, has_room_for}
use Rattle.store_machine.specs.Clash.{act_with, commit_of, conflict}
use Rattle.store_machine.specs.History.{Change, Operate, alters, left}
use Rattle.store_machine.specs.Kept.{Holds, Plans, PlansOn, after_ops}
use Rattle.store_machine.specs.Loads.{Answered}
use Rattle.store_machine.proofs.ValueLemmas.{value-append}

-- ---- lists that were tested

pub empty-is : {X : Type 0} (xs : List X) → (length xs == 0) ≡ true → xs ≡ []
empty-is [] h = refl
empty-is (x ∷ xs) h = let e : (length (x ∷ xs) == 0) ≡ false = grind (arith, nat_tests) in absurd (false≢true (sym e ∙ h))

pub some-is : {X : Type 0} (xs : List X) → (length xs == 0) ≡ false → xs ≡ [] → ⊥
some-is [] h e = false≢true (sym h)
some-is (x ∷ xs) h e = absurd (cc)

-- ---- what is granted

one-act : (ops : List Op) (a : Act) → (ops ≡ [] → ⊥) → act_with ops a ≡ a ∷ []
one-act [] a some = absurd (some refl)
one-act (o ∷ os) a some = refl

-- a transaction without a conflict that has operations is committed whole
pub granted-whole : (config : Config) (history : List Entry) (staged : Staged) → conflict staged.touched history ≡ None → (staged.ops ≡ [] → ⊥) → granted config history (Commit staged) ≡ Commit staged ∷ []
granted-whole config history staged free some = ap (λ o. commit_of o staged) free ∙ one-act staged.ops (Commit staged) some

-- ---- what the call answers and adds

-- by what is granted, and whether there is room for it
by_room : (config : Config) (history : List Entry) (by nth : ℕ) (at : ℤ) (staged : Staged) (found : Option ℕ) (acts : List Act) (room : Bool)
    → conflict staged.touched history ≡ found → commit_of found staged ≡ acts → has_room config history acts ≡ room
    → Answered config history by nth at (call.Commit staged) (if room then commit_reply found else replied.JournalFull) (if room then map (entry history by nth at) acts else [])
by_room config history by nth at staged found acts room e g h =
    let w : granted config history (Commit staged) ≡ acts = ap (λ o. commit_of o staged) e ∙ g in
    let r : has_room config history (granted config history (Commit staged)) ≡ room = ap (has_room config history) w ∙ h in
    record {
      told = (λ j. record { mark = length history; reply = if sym r j then commit_reply (sym e j) else replied.JournalFull });
      made = (λ j. if sym h j then map (entry history by nth at) acts else []) ∙ ap (entered config history by nth at) (sym w);
    }

-- an entry altered what it had touched before
pub commit-conflicts : (config : Config) (history : List Entry) (by nth : ℕ) (at : ℤ) (staged : Staged) (place : ℕ) → Some place ≡ conflict staged.touched history
    → Answered config history by nth at (call.Commit staged) (replied.Conflict place) []
commit-conflicts config history by nth at staged place e = by_room config history by nth at staged (Some place) [] true (sym e) refl refl

-- it has no operations
pub commit-empty : (config : Config) (history : List Entry) (by nth : ℕ) (at : ℤ) (staged : Staged) → conflict staged.touched history ≡ None → staged.ops ≡ []
    → Answered config history by nth at (call.Commit staged) replied.Committed []
commit-empty config history by nth at staged free none = by_room config history by nth at staged None [] true free (ap (λ ops. act_with ops (Commit staged)) none) refl

-- there is no room for its entry
pub commit-full : (config : Config) (history : List Entry) (by nth : ℕ) (at : ℤ) (staged : Staged) → conflict staged.touched history ≡ None → (staged.ops ≡ [] → ⊥) → has_room_for config history (Commit staged) ≡ false
    → Answered config history by nth at (call.Commit staged) replied.JournalFull []
commit-full config history by nth at staged free some full = by_room config history by nth at staged None (Commit staged ∷ []) false free (one-act staged.ops (Commit staged) some) full

-- it is done
pub commit-done : (config : Config) (history : List Entry) (by nth : ℕ) (at : ℤ) (staged : Staged) → conflict staged.touched history ≡ None → (staged.ops ≡ [] → ⊥) → has_room_for config history (Commit staged) ≡ true
    → Answered config history by nth at (call.Commit staged) replied.Committed (record { by = by; nth = nth; at = at; act = Commit staged } ∷ [])
commit-done config history by nth at staged free some room = by_room config history by nth at staged None (Commit staged ∷ []) true free (one-act staged.ops (Commit staged) some) room

-- ---- the plan of its operations

-- nothing is planned yet
pub plans-none : (t : Contents) (p : Plan) (rest all : List Op) → ((key : Key) → state_now t p key ≡ state_in t key) → rest ≡ all → PlansOn t p rest all
plans-none t p rest all same whole = record { each = λ key. (λ j. after_ops key (whole j) (same key j)) }

-- one operation on
pub plans-step : (t : Contents) (old new : Plan) (o : Op) (rest all : List Op) → PlansOn t old (o ∷ rest) all → Advances t old new o.key o.what o.at → PlansOn t new rest all
plans-step t old new o rest all p step = record { each = λ key. ap (after_ops key rest) (step key) ∙ by key (alters_by o.key o.what key) (state_now t old key) ∙ p.each key }
  where
    by : (key : Key) (b : Bool) (v : Option Value) → after_ops key rest (if b then op_left o v else v)
        ≡ fold left v (cond b (Operate o ∷ filter (λ c. alters c key) (map Operate rest)) (filter (λ c. alters c key) (map Operate rest)))
    by key true v = refl
    by key false v = refl

-- all of them are planned
pub plans-all : (t : Contents) (p : Plan) (rest all : List Op) (sofar : List Change) → PlansOn t p rest all → rest ≡ [] → Holds t sofar → Plans t p (sofar ++ map Operate all)
plans-all t p rest all sofar done none h = record {
  each = λ key. ap (λ l. after_ops key l (state_now t p key)) (sym none) ∙ done.each key ∙ ap (after_ops key all) (h.each key) ∙ sym (value-append key sofar (map Operate all));
}
