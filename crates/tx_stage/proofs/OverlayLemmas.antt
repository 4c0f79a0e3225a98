-- What exists after operations, step by step.
use Rattle.std.proofs.Common.{ℕ, suc, ◌+◌, ◌<◌, ℤ, Bool, true, false, cond, not, List, [], ◌∷◌, ◌++◌, ◌≡◌, Option, Some, None, refl, sym, ap, ◌∙◌, fold, filter, length, drop, get_or, add-one, drop-cons}
use Rattle.std.specs.Prelude.{is_some}
use Rattle.std.specs.Option.{option_map}
use Rattle.std.proofs.lemmas.List.{append-nil}
use Rattle.std.proofs.lemmas.List.Elements.{filter-append}
use Rattle.std.proofs.lemmas.List.Sums.{fold_push}
use Rattle.etp_values.specs.declared.code.ErrorCode.TheVariants.{InvalidArgument, NotFound}
use Rattle.tx_stage.specs.declared.key.Key.{Key}
use Rattle.tx_stage.specs.declared.op.Op.{Op}
use Rattle.tx_stage.specs.declared.op.OpWhat.{OpWhat}
use Rattle.tx_stage.specs.declared.op.OpWhat.TheVariants.{SetObject, SetArray, Patch, Gone}
use Rattle.tx_stage.specs.declared.value.Value.{Value}
use Rattle.tx_stage.specs.Ops.{suits, op_alters, op_left, left_by}
use Rattle.tx_stage.specs.Overlay.{overlay, leaves, needed, misfit}
use Rattle.tx_stage.specs.Laws.{OverlayIsThere, OverlayGoesOn, RefusalsSeeTheState}

-- ---- one more operation

one_more : {A X : Type 0} (f : A → X → A) (a : A) (xs : List X) (x : X) (b : Bool) → fold f a (xs ++ cond b (x ∷ []) []) ≡ cond b (f (fold f a xs) x) (fold f a xs)
one_more f a xs x true = fold_push f a xs x
one_more f a xs x false = ap (fold f a) (append-nil xs)

pub overlay-next : OverlayGoesOn
overlay-next ops o key base =
    let passes : Op → Bool = λ p. op_alters p key in
    let step : Option Value → Op → Option Value = λ v p. op_left p v in
    ap (fold step base) (filter-append passes ops (o ∷ [])) ∙ one_more step base (filter passes ops) o (passes o)

-- the first operation of a list
first-step : {A X : Type 0} (f : A → X → A) (a : A) (x : X) (xs : List X) (b : Bool) → fold f a (cond b (x ∷ xs) xs) ≡ fold f (cond b (f a x) a) xs
first-step f a x xs true = refl
first-step f a x xs false = refl

overlay-first : (o : Op) (ops : List Op) (key : Key) (base : Option Value) → overlay (o ∷ ops) key base ≡ overlay ops key (cond (op_alters o key) (op_left o base) base)
overlay-first o ops key base = first-step (λ v (p : Op). op_left p v) base o (filter (λ (p : Op). op_alters p key) ops) (op_alters o key)

-- one operation of a list is done, and then the others
pub overlay-goes : (ops : List Op) (k : ℕ) (o : Op) (key : Key) (before after : Option Value) → k < length ops → o ≡ get_or ops k o
    → after ≡ cond (op_alters o key) (op_left o before) before → overlay (drop (k + 1) ops) key after ≡ overlay (drop k ops) key before
overlay-goes ops k o key before after within is done =
    ap (overlay (drop (k + 1) ops) key) done
    ∙ sym (overlay-first o (drop (k + 1) ops) key before)
    ∙ ap (λ n. overlay (o ∷ drop n ops) key before) (add-one k)
    ∙ ap (λ os. overlay os key before) (sym (drop-cons ops k o within ∙ ap (λ p. p ∷ drop (suc k) ops) (sym is)))

-- ---- whether something exists

mapped-some : {A B : Type 0} (f : A → B) (v : Option A) → is_some (option_map f v) ≡ is_some v
mapped-some f None = refl
mapped-some f (Some x) = refl

left-some : (at : ℤ) (what : OpWhat) (before : Option Value) → is_some (left_by at what before) ≡ leaves what (is_some before)
left-some at (SetObject r) before = refl
left-some at (SetArray r) before = refl
left-some at (Patch ss cs vs) before = mapped-some _ before
left-some at Gone before = refl

stands-some : (ops : List Op) (base : Option Value) → is_some (fold (λ v (o : Op). op_left o v) base ops) ≡ fold (λ b (o : Op). leaves o.what b) (is_some base) ops
stands-some [] base = refl
stands-some (o ∷ ops) base = stands-some ops (op_left o base) ∙ ap (λ b. fold (λ b (o : Op). leaves o.what b) b ops) (left-some o.at o.what base)

pub overlay-there : OverlayIsThere
overlay-there ops key base = stands-some (filter (λ o. op_alters o key) ops) base

-- ---- refusals

pub refusal-same : RefusalsSeeTheState
refusal-same state other o same =
    λ j. cond (not (suits o.key o.what)) (Some InvalidArgument) (cond (not (is_some (same (needed o.key o.what) j))) (Some NotFound) (misfit o.what (same o.key j)))
