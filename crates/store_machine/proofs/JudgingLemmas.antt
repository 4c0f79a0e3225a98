-- Items that are judged one after the other get the definition's verdicts, and the plan has what the accepted ones leave.
-- For the crates above too.
use Rattle.std.specs.Prelude.{ℕ, ℤ, Bool, true, false, List, [], ◌∷◌, ◌++◌, ◌≡◌, Option, Some, None, map, refl, if◌then◌else◌, is_some}
use Rattle.std.specs.Map.{values_of, keys_of}
use Rattle.std.specs.Str.{bytes_eq}
use Rattle.std.proofs.Common.{ap, sym, subst, ◌∙◌, append_assoc, append-nil}
use Rattle.etp_values.specs.declared.code.ErrorCode.{ErrorCode}
use Rattle.etp_values.specs.declared.code.ErrorCode.TheVariants.{RequestDenied, NotFound}
use Rattle.tx_stage.specs.declared.contents.Contents.{Contents}
use Rattle.tx_stage.specs.declared.key.Key.{Key}
use Rattle.tx_stage.specs.declared.key.Key.TheVariants.{Space}
use Rattle.tx_stage.specs.declared.op.Op.{Op}
use Rattle.tx_stage.specs.declared.plan.Plan.{Plan}
use Rattle.tx_stage.specs.declared.value.Value.{Value}
use Rattle.tx_stage.specs.declared.value.Value.TheVariants as valued
use Rattle.tx_stage.specs.Keys.{same_key, space_of}
use Rattle.tx_stage.specs.Ops.{made_at}
use Rattle.tx_stage.specs.Overlay.{op_refusal}
use Rattle.tx_stage.specs.State.{state_in, state_now, PutsSpace, DropsSpace, PlansUnless}
use Rattle.store_machine.specs.declared.call.SpacePut.{SpacePut}
use Rattle.store_machine.specs.declared.call.Verdict.{Verdict}
use Rattle.store_machine.specs.declared.call.Verdict.TheVariants.{Accepted, Refused}
use Rattle.store_machine.specs.History.{Change, DropSpace, Operate, is_default, alters, left, value, set_space}
use Rattle.store_machine.specs.Answers.{verdict, verdict_of, verdicts, accepted, is_accepted, sofar_with}
use Rattle.store_machine.specs.Kept.{Holds, Plans, Judged, Takes, Drafting, with_accepted}
use Rattle.store_machine.proofs.ValueLemmas.{value-push}

-- a plan to do nothing
pub plans-first : (t : Contents) (p : Plan) (sofar : List Change) → ((key : Key) → state_now t p key ≡ state_in t key) → Holds t sofar → Plans t p sofar
plans-first t p sofar same h = record { each = λ key. same key ∙ h.each key }

-- ---- one change

refused : (t : Contents) (p : Plan) (sofar : List Change) (c : Change) (code : ErrorCode) → Plans t p sofar → verdict sofar c ≡ Refused code → Judged t p (Refused code) sofar c
refused t p sofar c code pl e = record {
  given = sym e;
  plan = subst (λ v. Plans t p (if is_accepted v then sofar ++ c ∷ [] else sofar)) (sym e) pl;
}

taken_in : (t : Contents) (old new : Plan) (sofar : List Change) (c : Change) → Plans t old sofar → verdict sofar c ≡ Accepted
    → ((key : Key) → state_now t new key ≡ (if alters c key then left (state_now t old key) c else state_now t old key)) → Judged t new Accepted sofar c
taken_in t old new sofar c pl e step = record {
  given = sym e;
  plan = subst (λ v. Plans t new (if is_accepted v then sofar ++ c ∷ [] else sofar)) (sym e)
      (record { each = λ key. step key ∙ ap (λ v. if alters c key then left v c else v) (pl.each key) ∙ sym (value-push key sofar c) });
}

-- a dataspace is put
pub put_denied : (t : Contents) (p : Plan) (sofar : List Change) (at : ℤ) (put : SpacePut) → is_default put.path ≡ true → Plans t p sofar → Judged t p (Refused RequestDenied) sofar (set_space at put)
put_denied t p sofar at put h pl = refused t p sofar (set_space at put) RequestDenied pl (ap (λ b. if b then Refused RequestDenied else Accepted) h)

pub put_planned : (t : Contents) (old new : Plan) (sofar : List Change) (at : ℤ) (put : SpacePut) → is_default put.path ≡ false → PutsSpace t old new put.path put.custom at → Plans t old sofar
    → Judged t new Accepted sofar (set_space at put)
put_planned t old new sofar at put h puts pl =
    taken_in t old new sofar (set_space at put) pl (ap (λ b. if b then Refused RequestDenied else Accepted) h)
    (λ key. puts key ∙ ap (λ v. if same_key key (Space put.path) then v else state_now t old key) (sym (made (state_now t old key))))
  where
    made : (v : Option Value) → left v (set_space at put) ≡ Some (valued.Space (record { path = put.path; written = at; created = made_at at v; custom = put.custom }))
    made v = ap (λ (b : Bool). if b then v else Some (valued.Space (record { path = put.path; written = at; created = made_at at v; custom = put.custom }))) h

-- a dataspace is dropped
pub drop_denied : (t : Contents) (p : Plan) (sofar : List Change) (path : List ℕ) → is_default path ≡ true → Plans t p sofar → Judged t p (Refused RequestDenied) sofar (DropSpace path)
drop_denied t p sofar path h pl = refused t p sofar (DropSpace path) RequestDenied pl
    (ap (λ b. if b then Refused RequestDenied else (if is_some (value (Space path) sofar) then Accepted else Refused NotFound)) h)

dropped : (path : List ℕ) (b d : Bool) → is_default path ≡ false → b ≡ d → (if is_default path then Refused RequestDenied else (if b then Accepted else Refused NotFound)) ≡ (if d then Accepted else Refused NotFound)
dropped path b d h e = ap (λ x. if x then Refused RequestDenied else (if b then Accepted else Refused NotFound)) h ∙ ap (λ x. if x then Accepted else Refused NotFound) e

pub drop_missing : (t : Contents) (p : Plan) (sofar : List Change) (path : List ℕ) → is_default path ≡ false → is_some (state_now t p (Space path)) ≡ false → Plans t p sofar
    → Judged t p (Refused NotFound) sofar (DropSpace path)
drop_missing t p sofar path h none pl =
    refused t p sofar (DropSpace path) NotFound pl (dropped path (is_some (value (Space path) sofar)) false h (ap is_some (sym (pl.each (Space path))) ∙ none))

pub drop_planned : (t : Contents) (old new : Plan) (sofar : List Change) (path : List ℕ) → is_default path ≡ false → is_some (state_now t old (Space path)) ≡ true → DropsSpace t old new path → Plans t old sofar
    → Judged t new Accepted sofar (DropSpace path)
drop_planned t old new sofar path h there drops pl =
    taken_in t old new sofar (DropSpace path) pl (dropped path (is_some (value (Space path) sofar)) true h (ap is_some (sym (pl.each (Space path))) ∙ there))
    (λ key. drops key ∙ ap (λ v. if bytes_eq (space_of key) path then v else state_now t old key) (sym (ap (λ (b : Bool). if b then state_now t old key else None) h)))

-- an operation is done
op_verdict : (t : Contents) (p : Plan) (sofar : List Change) (o : Op) → Plans t p sofar → verdict_of (op_refusal (state_now t p) o) ≡ verdict sofar (Operate o)
op_verdict t p sofar o pl = ap (λ (state : Key → Option Value). verdict_of (op_refusal state o)) (λ j key. pl.each key j)

pub op_accepted : (t : Contents) (old new : Plan) (sofar : List Change) (o : Op) (r : Option ErrorCode) → r ≡ None → r ≡ op_refusal (state_now t old) o → PlansUnless r t old new o.key o.what o.at → Plans t old sofar
    → Judged t new Accepted sofar (Operate o)
op_accepted t old new sofar o r none e plan pl =
    taken_in t old new sofar (Operate o) pl (sym (ap verdict_of (sym none ∙ e) ∙ op_verdict t old sofar o pl)) (subst (λ (x : Option ErrorCode). PlansUnless x t old new o.key o.what o.at) none plan)

pub op_refused : (t : Contents) (old new : Plan) (sofar : List Change) (o : Op) (r : Option ErrorCode) (code : ErrorCode) → r ≡ Some code → r ≡ op_refusal (state_now t old) o → PlansUnless r t old new o.key o.what o.at
    → Plans t old sofar → Judged t new (Refused code) sofar (Operate o)
op_refused t old new sofar o r code some e plan pl =
    let same : new ≡ old = subst (λ (x : Option ErrorCode). PlansUnless x t old new o.key o.what o.at) some plan in
    refused t new sofar (Operate o) code (subst (λ p. Plans t p sofar) (sym same) pl) (sym (ap verdict_of (sym some ∙ e) ∙ op_verdict t old sofar o pl))

-- ---- one item

pub takes-noted : {X : Type 0} (t : Contents) (sofar : List Change) (name : List ℕ) (x : X) (c : Change) (given given' : List (List ℕ × Verdict)) (taken taken' : List X) (p p' : Plan) (v : Verdict)
    → Judged t p v sofar c → given' ≡ given ++ (name, v) ∷ [] → taken' ≡ with_accepted v taken x → p' ≡ p → Takes t sofar name x c given given' taken taken' p'
takes-noted t sofar name x c given given' taken taken' p p' v j g k same = record {
  told = g ∙ ap (λ w. given ++ (name, w) ∷ []) j.given;
  item = k ∙ ap (λ w. with_accepted w taken x) j.given;
  plan = subst (λ q. Plans t q (sofar_with sofar c)) (sym same) j.plan;
}

-- ---- all items

map-push : {X : Type 0} (change : X → Change) (taken : List X) (x : X) → map change (taken ++ x ∷ []) ≡ map change taken ++ change x ∷ []
map-push change [] x = refl
map-push change (y ∷ ys) x = ap (λ l. change y ∷ l) (map-push change ys x)

pub drafting-first : {X : Type 0} (change : X → Change) (t : Contents) (sofar : List Change) (rest all : List (List ℕ × X)) (given : List (List ℕ × Verdict)) (taken : List X) (p : Plan)
    → rest ≡ all → given ≡ [] → taken ≡ [] → Plans t p sofar → Drafting change t sofar rest all given taken p
drafting-first change t sofar rest all given taken p whole g k pl =
    let none : sofar ++ map change taken ≡ sofar = ap (λ l. sofar ++ map change l) k ∙ append-nil sofar in
    record {
      verdicts = ap (λ l. l ++ verdicts change (sofar ++ map change taken) rest) g ∙ (λ j. verdicts change (none j) (whole j));
      items = ap (λ l. l ++ accepted change (sofar ++ map change taken) (values_of rest)) k ∙ (λ j. accepted change (none j) (values_of (whole j)));
      plan = subst (Plans t p) (sym none) pl;
    }

-- one item on
pub drafting-step : {X : Type 0} (change : X → Change) (t : Contents) (sofar : List Change) (name : List ℕ) (x : X) (rest all : List (List ℕ × X)) (given given' : List (List ℕ × Verdict)) (taken taken' : List X) (p p' : Plan)
    → Drafting change t sofar ((name, x) ∷ rest) all given taken p → Takes t (sofar ++ map change taken) name x (change x) given given' taken taken' p'
    → Drafting change t sofar rest all given' taken' p'
drafting-step {X} change t sofar name x rest all given given' taken taken' p p' d s =
    by (is_accepted (verdict now (change x))) refl s.item s.plan
  where
    now : List Change
    now = sofar ++ map change taken

    by : (b : Bool) → is_accepted (verdict now (change x)) ≡ b
        → taken' ≡ (if is_accepted (verdict now (change x)) then taken ++ x ∷ [] else taken)
        → Plans t p' (if is_accepted (verdict now (change x)) then now ++ change x ∷ [] else now)
        → Drafting change t sofar rest all given' taken' p'
    by true e k pl =
        let k' : taken' ≡ taken ++ x ∷ [] = k ∙ ap (λ b. if b then taken ++ x ∷ [] else taken) e in
        let more : sofar ++ map change taken' ≡ now ++ change x ∷ [] = ap (λ l. sofar ++ map change l) k' ∙ ap (λ l. sofar ++ l) (map-push change taken x) ∙ sym (append_assoc sofar (map change taken) (change x ∷ [])) in
        record {
          verdicts = ap (λ l. l ++ verdicts change (sofar ++ map change taken') rest) s.told ∙ append_assoc given _ _
              ∙ ap (λ l. given ++ ((name, verdict now (change x)) ∷ verdicts change l rest)) (more ∙ ap (λ b. if b then now ++ change x ∷ [] else now) (sym e))
              ∙ d.verdicts;
          items = ap (λ l. l ++ accepted change (sofar ++ map change taken') (values_of rest)) k' ∙ append_assoc taken _ _
              ∙ ap (λ l. taken ++ (x ∷ accepted change l (values_of rest))) more
              ∙ ap (λ b. taken ++ (if b then x ∷ accepted change (now ++ change x ∷ []) (values_of rest) else accepted change now (values_of rest))) (sym e)
              ∙ d.items;
          plan = subst (Plans t p') (ap (λ b. if b then now ++ change x ∷ [] else now) e ∙ sym more) pl;
        }
    by false e k pl =
        let k' : taken' ≡ taken = k ∙ ap (λ b. if b then taken ++ x ∷ [] else taken) e in
        let more : sofar ++ map change taken' ≡ now = ap (λ l. sofar ++ map change l) k' in
        record {
          verdicts = ap (λ l. l ++ verdicts change (sofar ++ map change taken') rest) s.told ∙ append_assoc given _ _
              ∙ ap (λ l. given ++ ((name, verdict now (change x)) ∷ verdicts change l rest)) (more ∙ ap (λ b. if b then now ++ change x ∷ [] else now) (sym e))
              ∙ d.verdicts;
          items = ap (λ l. l ++ accepted change (sofar ++ map change l) (values_of rest)) k'
              ∙ ap (λ b. taken ++ (if b then x ∷ accepted change (now ++ change x ∷ []) (values_of rest) else accepted change now (values_of rest))) (sym e)
              ∙ d.items;
          plan = subst (Plans t p') (ap (λ b. if b then now ++ change x ∷ [] else now) e ∙ sym more) pl;
        }

-- all items are judged
pub verdicts-done : {X : Type 0} (change : X → Change) (t : Contents) (sofar : List Change) (rest all : List (List ℕ × X)) (given : List (List ℕ × Verdict)) (taken : List X) (p : Plan)
    → rest ≡ [] → Drafting change t sofar rest all given taken p → given ≡ verdicts change sofar all
verdicts-done change t sofar rest all given taken p none d =
    sym (append-nil given) ∙ ap (λ l. given ++ verdicts change (sofar ++ map change taken) l) (sym none) ∙ d.verdicts

pub items-done : {X : Type 0} (change : X → Change) (t : Contents) (sofar : List Change) (rest all : List (List ℕ × X)) (given : List (List ℕ × Verdict)) (taken : List X) (p : Plan)
    → rest ≡ [] → Drafting change t sofar rest all given taken p → taken ≡ accepted change sofar (values_of all)
items-done change t sofar rest all given taken p none d =
    sym (append-nil taken) ∙ ap (λ l. taken ++ accepted change (sofar ++ map change taken) (values_of l)) (sym none) ∙ d.items

-- ---- puts: no verdict looks at the moment, or at what was before

pub verdicts-moment : (at late : ℤ) (sofar before : List Change) (items : List (List ℕ × SpacePut)) → verdicts (set_space at) sofar items ≡ verdicts (set_space late) before items
verdicts-moment at late sofar before [] = refl
verdicts-moment at late sofar before (item ∷ items) =
    ap (λ l. (item.0, verdict sofar (set_space at item.1)) ∷ l) (verdicts-moment at late (sofar_with sofar (set_space at item.1)) (sofar_with before (set_space late item.1)) items)

pub accepted-moment : (at late : ℤ) (sofar before : List Change) (puts : List SpacePut) → accepted (set_space at) sofar puts ≡ accepted (set_space late) before puts
accepted-moment at late sofar before [] = refl
accepted-moment at late sofar before (p ∷ ps) =
    by (is_accepted (verdict sofar (set_space at p))) (accepted-moment at late (sofar ++ set_space at p ∷ []) (before ++ set_space late p ∷ []) ps) (accepted-moment at late sofar before ps)
  where
    by : (b : Bool) → accepted (set_space at) (sofar ++ set_space at p ∷ []) ps ≡ accepted (set_space late) (before ++ set_space late p ∷ []) ps → accepted (set_space at) sofar ps ≡ accepted (set_space late) before ps
        → (if b then p ∷ accepted (set_space at) (sofar ++ set_space at p ∷ []) ps else accepted (set_space at) sofar ps)
        ≡ (if b then p ∷ accepted (set_space late) (before ++ set_space late p ∷ []) ps else accepted (set_space late) before ps)
    by true some none = ap (λ l. p ∷ l) some
    by false some none = none

-- ---- the verdicts are under the names of the items

pub names-verdicts : {X : Type 0} (change : X → Change) (sofar : List Change) (items : List (List ℕ × X)) → keys_of (verdicts change sofar items) ≡ keys_of items
names-verdicts change sofar [] = refl
names-verdicts change sofar (item ∷ items) = ap (λ l. item.0 ∷ l) (names-verdicts change (sofar_with sofar (change item.1)) items)
