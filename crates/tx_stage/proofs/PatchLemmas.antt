-- A patch in the operation that sets the array: what the plan then leaves at each key.
use Rattle.std.proofs.Common.{ℕ, zero, suc, ℤ, Bool, true, false, cond, ◌&&◌, ◌||◌, ◌<◌, List, [], ◌∷◌, ◌++◌, ◌≡◌, Option, Some, None, refl, sym, ap, ◌∙◌, subst, fold, length, get_or, take, drop, set, arith, Vec, Result, Ok, Err}
use Rattle.std.specs.Prelude.{is_some, is_none, IsSome, IfOk, OnOk}
use Rattle.std.specs.List.{list_any}
use Rattle.std.specs.Option.{option_map}
use Rattle.std.specs.Vec.{with_item}
use Rattle.std.proofs.lemmas.Bool.{false≢true, or_parts, and_parts}
use Rattle.std.proofs.lemmas.List.{set-get_or}
use lib.ListN.{length-set}
use native.Mathlib.Nat.{ℕ_set}
use mathlib.Core.HLevel.{is_prop→PathP}
use Rattle.etp_values.specs.declared.code.ErrorCode.{ErrorCode}
use Rattle.etp_values.specs.declared.data.AnyArray.{AnyArray}
use Rattle.etp_values.specs.declared.data.AnyArray.TheVariants.{ArrayOfBoolean, ArrayOfInt, ArrayOfLong, ArrayOfFloat, ArrayOfDouble, ArrayOfString, Bytes}
use Rattle.etp_values.specs.declared.memory.NoMemory.{NoMemory}
use Rattle.array_store.specs.declared.error.ArrayError.{ArrayError}
use Rattle.array_store.specs.declared.key.ArrayKey.{ArrayKey}
use Rattle.array_store.specs.declared.op.ArrayOp.{ArrayOp}
use Rattle.array_store.specs.declared.op.ArrayOp.TheVariants.{SetArray, PatchArray, DropArraysOf, DropArraysIn}
use Rattle.array_store.specs.declared.record.ArrayRecord.{ArrayRecord}
use Rattle.array_store.specs.Codes.{code_of}
use Rattle.array_store.specs.Operations.{array_after, put_unless}
use Rattle.array_store.specs.Refusals.{record_refusal}
use Rattle.array_store.specs.Arrays.{has_numbers, is_bytes}
use Rattle.array_store.specs.Table.{array_in, is_of_object, is_in_space, patch_array, patched_at, patched_in_place, rewritten, same_key, unless_refused}
use Rattle.array_store.proofs.KeyLemmas.{same_key-is}
use Rattle.tx_stage.specs.declared.contents.Contents.{Contents}
use Rattle.tx_stage.specs.declared.key.Key.TheVariants.{Space, Object, Array}
use Rattle.tx_stage.specs.declared.op.OpWhat.TheVariants.{Patch}
use Rattle.tx_stage.specs.declared.plan.Plan.{Plan}
use Rattle.tx_stage.specs.declared.value.Value.TheVariants as value
use Rattle.tx_stage.specs.Ops.{patched_value}
use Rattle.tx_stage.specs.Patching.{IsUntouched, SetsLater, SetsOver, array_set, concerns, is_sound, patched_op, set_refusal, sets}
use Rattle.tx_stage.specs.State.{state_now, Advances}
use Rattle.tx_stage.specs.Overlay.{misfit}
use Rattle.tx_stage.specs.Standing.{array_given}
use Rattle.tx_stage.proofs.PlanLemmas.{accepted-patch, arrays-next, leaves-refused, objects-same, patch-misfit, refused-some, spaces-same, undated}

-- ---- tests

none-of : (e : Option ArrayError) → is_none e ≡ true → e ≡ None
none-of None h = refl
none-of (Some e) h = absurd (false≢true h)

-- ---- the operation that sets an array last

pub sets-later : (key : ArrayKey) (ops : List ArrayOp) (place : ℕ) (o : ArrayOp) → place < length ops → o ≡ get_or ops place o
    → sets key o ≡ true → list_any (concerns key) (drop (suc place) ops) ≡ false → SetsLater key ops place
sets-later key [] place o inside is set later = absurd (let h : place < 0 = inside in omega (arith, h))
sets-later key (p ∷ ops) zero o inside is set later = (ap (sets key) (sym is) ∙ set, later)
sets-later key (p ∷ ops) (suc place) o inside is set later = sets-later key ops place o (omega (arith, inside)) is set later

pub later-inside : (key : ArrayKey) (ops : List ArrayOp) (place : ℕ) → SetsLater key ops place → place < length ops
later-inside key [] place is = absurd is
later-inside key (o ∷ ops) zero is = omega arith
later-inside key (o ∷ ops) (suc place) is = let h = later-inside key ops place is in omega (arith, h)

pub over-inside : (key : ArrayKey) (before : Option ArrayRecord) (ops : List ArrayOp) (place : ℕ) → SetsOver key before ops place → place < length ops
over-inside key before [] place is = absurd is
over-inside key before (o ∷ ops) zero is = omega arith
over-inside key before (o ∷ ops) (suc place) is = let h = over-inside key (array_after key before o) ops place is in omega (arith, h)

pub sets-over : (key : ArrayKey) (before : Option ArrayRecord) (ops : List ArrayOp) (place : ℕ) → SetsLater key ops place
    → is_some (fold (array_after key) before (take place ops)) ≡ true → SetsOver key before ops place
sets-over key before [] place is stands = is
sets-over key before (o ∷ ops) zero is stands = (stands, is.0, is.1)
sets-over key before (o ∷ ops) (suc place) is stands = sets-over key (array_after key before o) ops place is stands

-- ---- operations that do not concern a key

idle-op : (key : ArrayKey) (o : ArrayOp) (before : Option ArrayRecord) → concerns key o ≡ false → array_after key before o ≡ before
idle-op key (SetArray k r) before h = put (same_key key k) (record_refusal r) (or_parts (same_key key k && is_none (record_refusal r)) false h).0
  where
    put : (b : Bool) (e : Option ArrayError) → (b && is_none e) ≡ false → cond b (put_unless e before r) before ≡ before
    put true None h = absurd (false≢true (sym h))
    put true (Some e) h = refl
    put false e h = refl
idle-op key (PatchArray k at ss cs vs) before h = ap (λ b. cond b (option_map (patched_in_place at ss cs vs) before) before) h
idle-op key (DropArraysOf u) before h = ap (λ b. cond b None before) (or_parts (is_of_object u key) false h).0
idle-op key (DropArraysIn p) before h = ap (λ b. cond b None before) (or_parts (is_in_space p key) false h).0

idle : (key : ArrayKey) (ops : List ArrayOp) (before : Option ArrayRecord) → list_any (concerns key) ops ≡ false → fold (array_after key) before ops ≡ before
idle key [] before h = refl
idle key (o ∷ ops) before h =
    let n = or_parts (concerns key o) (list_any (concerns key) ops) h in
    ap (λ x. fold (array_after key) x ops) (idle-op key o before n.0) ∙ idle key ops before n.1

-- ---- what is at the key

-- the operation, and what is at the key after all of them
pub record Stands (key : ArrayKey) (op : ArrayOp) (after : Option ArrayRecord) : Type 0 where
  pub own : ArrayKey
  pub array : ArrayRecord
  pub made : ℤ
  pub is : op ≡ SetArray own array
  pub same : same_key key own ≡ true
  pub sound : record_refusal array ≡ None
  pub after_is : after ≡ Some (record array { created = made })

stands-here : (key : ArrayKey) (o : ArrayOp) (before : Option ArrayRecord) (ops : List ArrayOp) → is_some before ≡ true → sets key o ≡ true → list_any (concerns key) ops ≡ false
    → Stands key o (fold (array_after key) (array_after key before o) ops)
stands-here key (SetArray k r) None ops some set later = absurd (false≢true some)
stands-here key (SetArray k r) (Some b) ops some set later =
    let h = and_parts (same_key key k) (is_none (record_refusal r)) set in
    let sound = none-of (record_refusal r) h.1 in
    record {
      own = k;
      array = r;
      made = b.created;
      is = refl;
      same = h.0;
      sound = sound;
      after_is = idle key ops (array_after key (Some b) (SetArray k r)) later ∙ (λ j. cond (h.0 j) (put_unless (sound j) (Some b) r) (Some b));
    }
stands-here key (PatchArray k at ss cs vs) before ops some set later = absurd (false≢true set)
stands-here key (DropArraysOf u) before ops some set later = absurd (false≢true set)
stands-here key (DropArraysIn p) before ops some set later = absurd (false≢true set)

pub stands : (key : ArrayKey) (before : Option ArrayRecord) (ops : List ArrayOp) (place : ℕ) (o : ArrayOp) → SetsOver key before ops place → o ≡ get_or ops place o
    → Stands key o (fold (array_after key) before ops)
stands key before [] place o is at = absurd is
stands key before (p ∷ ops) zero o is at = subst (λ x. Stands key x (fold (array_after key) before (p ∷ ops))) (sym at) (stands-here key p before ops is.0 is.1 is.2)
stands key before (p ∷ ops) (suc place) o is at = stands key (array_after key before p) ops place o is at

-- ---- a patch of it

-- at its own key
patched-here : (key : ArrayKey) (o : ArrayOp) (before : Option ArrayRecord) (ops : List ArrayOp) (new : ArrayOp) (at : ℤ) (ss cs : List ℤ) (vs : AnyArray)
    → is_some before ≡ true → sets key o ≡ true → list_any (concerns key) ops ≡ false → new ≡ patched_op at ss cs vs o → set_refusal ss cs vs o ≡ None → is_sound new ≡ true
    → fold (array_after key) (array_after key before new) ops ≡ option_map (patched_at at ss cs vs) (fold (array_after key) (array_after key before o) ops)
patched-here key (SetArray k r) None ops new at ss cs vs some is later made fits sound = absurd (false≢true some)
patched-here key (SetArray k r) (Some b) ops new at ss cs vs some is later made fits sound =
    let h = and_parts (same_key key k) (is_none (record_refusal r)) is in
    let patched : ArrayRecord = patched_at at ss cs vs r in
    let held : record_refusal r ≡ None = none-of (record_refusal r) h.1 in
    let holds : record_refusal patched ≡ None = none-of (record_refusal patched) (ap is_sound (sym made) ∙ sound) in
    let stood : fold (array_after key) (array_after key (Some b) (SetArray k r)) ops ≡ Some (record r { created = b.created }) =
    idle key ops (array_after key (Some b) (SetArray k r)) later ∙ (λ j. cond (h.0 j) (put_unless (held j) (Some b) r) (Some b)) in
    idle key ops (array_after key (Some b) new) later
    ∙ ap (array_after key (Some b)) made
    ∙ (λ j. cond (h.0 j) (put_unless (holds j) (Some b) patched) (Some b))
    ∙ ap (λ (x : ArrayRecord). Some x) (accepted-patch None r (record r { created = b.created }) at ss cs vs refl refl fits)
    ∙ sym (ap (option_map (patched_at at ss cs vs)) stood)
patched-here key (PatchArray k when starts counts values) before ops new at ss cs vs some is later made fits sound = absurd (false≢true is)
patched-here key (DropArraysOf u) before ops new at ss cs vs some is later made fits sound = absurd (false≢true is)
patched-here key (DropArraysIn p) before ops new at ss cs vs some is later made fits sound = absurd (false≢true is)

patched-own : (key : ArrayKey) (before : Option ArrayRecord) (ops : List ArrayOp) (place : ℕ) (o new : ArrayOp) (at : ℤ) (ss cs : List ℤ) (vs : AnyArray)
    → SetsOver key before ops place → o ≡ get_or ops place o → new ≡ patched_op at ss cs vs o → set_refusal ss cs vs o ≡ None → is_sound new ≡ true
    → fold (array_after key) before (set ops place new) ≡ option_map (patched_at at ss cs vs) (fold (array_after key) before ops)
patched-own key before [] place o new at ss cs vs is read made fits sound = absurd is
patched-own key before (p ∷ ops) zero o new at ss cs vs is read made fits sound =
    patched-here key p before ops new at ss cs vs is.0 is.1 is.2 (made ∙ ap (patched_op at ss cs vs) read) (ap (set_refusal ss cs vs) (sym read) ∙ fits) sound
patched-own key before (p ∷ ops) (suc place) o new at ss cs vs is read made fits sound =
    patched-own key (array_after key before p) ops place o new at ss cs vs is read made fits sound

-- at another key
other-here : (key q : ArrayKey) (o new : ArrayOp) (y : Option ArrayRecord) (at : ℤ) (ss cs : List ℤ) (vs : AnyArray)
    → same_key q key ≡ false → sets key o ≡ true → new ≡ patched_op at ss cs vs o → array_after q y new ≡ array_after q y o
other-here key q (SetArray k r) new y at ss cs vs apart is made =
    let h = and_parts (same_key key k) (is_none (record_refusal r)) is in
    let off : same_key q k ≡ false = ap (same_key q) (sym (same_key-is key k h.0)) ∙ apart in
    let patched : ArrayRecord = patched_at at ss cs vs r in
    ap (array_after q y) made
    ∙ (λ j. cond (off j) (put_unless (record_refusal patched) y patched) y)
    ∙ sym (λ j. cond (off j) (put_unless (record_refusal r) y r) y)
other-here key q (PatchArray k when starts counts values) new y at ss cs vs apart is made = absurd (false≢true is)
other-here key q (DropArraysOf u) new y at ss cs vs apart is made = absurd (false≢true is)
other-here key q (DropArraysIn p) new y at ss cs vs apart is made = absurd (false≢true is)

patched-other : (key q : ArrayKey) (before y : Option ArrayRecord) (ops : List ArrayOp) (place : ℕ) (o new : ArrayOp) (at : ℤ) (ss cs : List ℤ) (vs : AnyArray)
    → same_key q key ≡ false → SetsOver key before ops place → o ≡ get_or ops place o → new ≡ patched_op at ss cs vs o
    → fold (array_after q) y (set ops place new) ≡ fold (array_after q) y ops
patched-other key q before y [] place o new at ss cs vs apart is read made = absurd is
patched-other key q before y (p ∷ ops) zero o new at ss cs vs apart is read made =
    ap (λ x. fold (array_after q) x ops) (other-here key q p new y at ss cs vs apart is.1 (made ∙ ap (patched_op at ss cs vs) read))
patched-other key q before y (p ∷ ops) (suc place) o new at ss cs vs apart is read made =
    patched-other key q (array_after key before p) (array_after q y p) ops place o new at ss cs vs apart is read made

mapped : (at : ℤ) (ss cs : List ℤ) (vs : AnyArray) (o : Option ArrayRecord)
    → option_map value.Array (option_map (patched_at at ss cs vs) o) ≡ option_map (patched_value at ss cs vs) (option_map value.Array o)
mapped at ss cs vs None = refl
mapped at ss cs vs (Some r) = refl

-- a patch that fits
pub patches-there : (t : Contents) (p q : Plan) (k : ArrayKey) (place : ℕ) (o new : ArrayOp) (at : ℤ) (ss cs : List ℤ) (vs : AnyArray)
    → SetsOver k (array_in t.arrays k) p.arrays.items place → o ≡ get_or p.arrays.items place o → new ≡ patched_op at ss cs vs o → set_refusal ss cs vs o ≡ None → is_sound new ≡ true
    → q.objects.items ≡ p.objects.items → q.arrays.items ≡ set p.arrays.items place new
    → Advances t p q (Array k) (Patch ss cs vs) at
patches-there t p q k place o new at ss cs vs is read made fits sound same items (Space x) = spaces-same t p q x same
patches-there t p q k place o new at ss cs vs is read made fits sound same items (Object x) = objects-same t p q x same
patches-there t p q k place o new at ss cs vs is read made fits sound same items (Array x) = by_key (same_key x k) refl
  where
    by_key : (b : Bool) → same_key x k ≡ b
        → state_now t q (Array x) ≡ cond (b || false) (option_map (patched_value at ss cs vs) (state_now t p (Array x))) (state_now t p (Array x))
    by_key true h =
        ap (λ os. option_map value.Array (fold (array_after x) (array_in t.arrays x) os)) items
        ∙ ap (λ y. option_map value.Array (fold (array_after y) (array_in t.arrays y) (set p.arrays.items place new))) (same_key-is x k h)
        ∙ ap (option_map value.Array) (patched-own k (array_in t.arrays k) p.arrays.items place o new at ss cs vs is read made fits sound)
        ∙ mapped at ss cs vs (fold (array_after k) (array_in t.arrays k) p.arrays.items)
        ∙ ap (λ y. option_map (patched_value at ss cs vs) (state_now t p (Array y))) (sym (same_key-is x k h))
    by_key false h =
        ap (λ os. option_map value.Array (fold (array_after x) (array_in t.arrays x) os)) items
        ∙ ap (option_map value.Array) (patched-other k x (array_in t.arrays k) (array_in t.arrays x) p.arrays.items place o new at ss cs vs h is read made)

-- a patch that does not
pub unpatched : (o : ArrayOp) (e : ArrayError) (at : ℤ) (ss cs : List ℤ) (vs : AnyArray) → set_refusal ss cs vs o ≡ Some e → patched_op at ss cs vs o ≡ o
unpatched (SetArray k r) e at ss cs vs h = ap (λ f. SetArray k (unless_refused f r (rewritten (patch_array r ss cs vs) at))) h
unpatched (PatchArray k when starts counts values) e at ss cs vs h = refl
unpatched (DropArraysOf u) e at ss cs vs h = refl
unpatched (DropArraysIn p) e at ss cs vs h = refl

-- a list written with what it already has is unchanged, also as a `Vec`
vec-same : {X Z : Type 0} (v : Vec X Z) (place : ℕ) (x : X) → set v.items place x ≡ v.items → with_item v place x ≡ v
vec-same v place x e = λ j. record {
  ptr = v.ptr;
  len = v.len;
  cap = v.cap;
  alloc = v.alloc;
  items = e j;
  ok = (is_prop→PathP (λ i. v.len ≡ length (e i)) (λ i. ℕ_set v.len (length (e i))) (v.ok.0 ∙ sym (length-set v.items place x)) v.ok.0 j, v.ok.1);
  small = v.small;
}

pub written-same : {X Z : Type 0} (v : Vec X Z) (place : ℕ) (x new : X) → x ≡ get_or v.items place x → new ≡ x → with_item v place new ≡ v
written-same v place x new read same = vec-same v place new (ap (set v.items place) (same ∙ read) ∙ set-get_or v.items place x)

-- what the plan has of the array is what exists, except for its time of creation
alike : (k : ArrayKey) (o : ArrayOp) (after : Option ArrayRecord) (s : Stands k o after) → undated (Some s.array) ≡ undated after
alike k o after s = ap undated (sym s.after_is)

pub planned-code : (k : ArrayKey) (before : Option ArrayRecord) (ops : List ArrayOp) (place : ℕ) (o : ArrayOp) (ss cs : List ℤ) (vs : AnyArray) → SetsOver k before ops place → o ≡ get_or ops place o
    → option_map code_of (set_refusal ss cs vs o) ≡ misfit (Patch ss cs vs) (option_map value.Array (fold (array_after k) before ops))
planned-code k before ops place o ss cs vs is read =
    let s = stands k before ops place o is read in
    ap (λ x. option_map code_of (set_refusal ss cs vs x)) s.is ∙ patch-misfit (fold (array_after k) before ops) s.array ss cs vs (alike k o (fold (array_after k) before ops) s)

-- the plan with the operation at an index written
abbrev pub written : Plan → ℕ → ArrayOp → Plan
written p place new = record { objects = p.objects; arrays = with_item p.arrays place new }

refused-same : (p : Plan) (place : ℕ) (o new : ArrayOp) (e : ArrayError) (at : ℤ) (ss cs : List ℤ) (vs : AnyArray)
    → o ≡ get_or p.arrays.items place o → new ≡ patched_op at ss cs vs o → set_refusal ss cs vs o ≡ Some e → written p place new ≡ p
refused-same p place o new e at ss cs vs read made h =
    λ j. record { objects = p.objects; arrays = written-same p.arrays place o new read (made ∙ unpatched o e at ss cs vs h) j }

pub planned : (result : Result (Option ErrorCode) NoMemory) (t : Contents) (p : Plan) (k : ArrayKey) (place : ℕ) (o new : ArrayOp) (at : ℤ) (ss cs : List ℤ) (vs : AnyArray)
    → SetsOver k (array_in t.arrays k) p.arrays.items place → o ≡ get_or p.arrays.items place o
    → OnOk result (new ≡ patched_op at ss cs vs o) → IfOk result (λ code. code ≡ option_map code_of (set_refusal ss cs vs o)) → IfOk result (λ code. code ≡ None → is_sound new ≡ true)
    → OnOk result (Advances t p (written p place new) (Array k) (Patch ss cs vs) at)
planned (Err e) t p k place o new at ss cs vs is read made coded sound = tt
planned (Ok code) t p k place o new at ss cs vs is read made coded sound = by_refusal (set_refusal ss cs vs o) refl
  where
    by_refusal : (e : Option ArrayError) → set_refusal ss cs vs o ≡ e → Advances t p (written p place new) (Array k) (Patch ss cs vs) at
    by_refusal None h = patches-there t p (written p place new) k place o new at ss cs vs is read made h (sound (coded ∙ ap (option_map code_of) h)) refl refl
    by_refusal (Some e) h =
        let after = fold (array_after k) (array_in t.arrays k) p.arrays.items in
        let s = stands k (array_in t.arrays k) p.arrays.items place o is read in
        subst (λ q. Advances t p q (Array k) (Patch ss cs vs) at) (sym (refused-same p place o new e at ss cs vs read made h))
        (leaves-refused t p k s.array e at ss cs vs (alike k o after s) (ap (set_refusal ss cs vs) (sym s.is) ∙ h))

pub kept : (result : Result (Option ErrorCode) NoMemory) (p : Plan) (place : ℕ) (o new : ArrayOp) (at : ℤ) (ss cs : List ℤ) (vs : AnyArray)
    → o ≡ get_or p.arrays.items place o → OnOk result (new ≡ patched_op at ss cs vs o) → IfOk result (λ code. code ≡ option_map code_of (set_refusal ss cs vs o))
    → IfOk result (λ code. IsSome code → written p place new ≡ p)
kept (Err e) p place o new at ss cs vs read made coded = tt
kept (Ok code) p place o new at ss cs vs read made coded = λ some.
    let why = refused-some (set_refusal ss cs vs o) (sym (ap (λ (c : Option ErrorCode). is_some c) coded) ∙ some) in
    refused-same p place o new why.0 at ss cs vs read made why.1

-- ---- the array as it was given, if an operation sets it and no later one concerns it

idle-given-op : (key : ArrayKey) (o : ArrayOp) (before : Option ArrayRecord) → concerns key o ≡ false → array_given key before o ≡ before
idle-given-op key (SetArray k r) before h = ap (λ b. cond b (Some r) before) (or_parts (same_key key k && is_none (record_refusal r)) false h).0
idle-given-op key (PatchArray k at ss cs vs) before h = ap (λ b. cond b (option_map (patched_in_place at ss cs vs) before) before) h
idle-given-op key (DropArraysOf u) before h = ap (λ b. cond b None before) (or_parts (is_of_object u key) false h).0
idle-given-op key (DropArraysIn p) before h = ap (λ b. cond b None before) (or_parts (is_in_space p key) false h).0

idle-given : (key : ArrayKey) (ops : List ArrayOp) (before : Option ArrayRecord) → list_any (concerns key) ops ≡ false → fold (array_given key) before ops ≡ before
idle-given key [] before h = refl
idle-given key (o ∷ ops) before h =
    let n = or_parts (concerns key o) (list_any (concerns key) ops) h in
    ap (λ x. fold (array_given key) x ops) (idle-given-op key o before n.0) ∙ idle-given key ops before n.1

given-here : (key : ArrayKey) (o : ArrayOp) (before : Option ArrayRecord) → sets key o ≡ true → array_given key before o ≡ array_set o
given-here key (SetArray k r) before h = ap (λ b. cond b (Some r) before) h
given-here key (PatchArray k at ss cs vs) before h = absurd (false≢true h)
given-here key (DropArraysOf u) before h = absurd (false≢true h)
given-here key (DropArraysIn p) before h = absurd (false≢true h)

pub given-set : (key : ArrayKey) (before : Option ArrayRecord) (ops : List ArrayOp) (place : ℕ) (o : ArrayOp) → SetsLater key ops place → o ≡ get_or ops place o → array_set o ≡ fold (array_given key) before ops
given-set key before [] place o is read = absurd is
given-set key before (p ∷ ops) zero o is read =
    ap array_set read ∙ sym (given-here key p before is.0) ∙ sym (idle-given key ops (array_given key before p) is.1)
given-set key before (p ∷ ops) (suc place) o is read = given-set key (array_given key before p) ops place o is read

-- ---- a patch of an array of the tables, in place

plain : (a : AnyArray) → has_numbers a ≡ true → is_bytes a ≡ false
plain (ArrayOfBoolean l) h = refl
plain (ArrayOfInt l) h = refl
plain (ArrayOfLong l) h = refl
plain (ArrayOfFloat l) h = refl
plain (ArrayOfDouble l) h = refl
plain (ArrayOfString l) h = absurd (false≢true h)
plain (Bytes b) h = absurd (false≢true h)

pub untouched : (t : Contents) (p : Plan) (k : ArrayKey) (r : ArrayRecord) → IsUntouched k (array_in t.arrays k) p.arrays.items r → fold (array_after k) (array_in t.arrays k) p.arrays.items ≡ Some r
untouched t p k r is = idle k p.arrays.items (array_in t.arrays k) is.1 ∙ is.0

in-place-put : (same : Bool) (before : Option ArrayRecord) (r : ArrayRecord) (at : ℤ) (ss cs : List ℤ) (vs : AnyArray) → is_bytes r.values ≡ false → (same ≡ true → before ≡ Some r)
    → option_map value.Array (cond same (option_map (patched_in_place at ss cs vs) before) before)
    ≡ cond (same || false) (option_map (patched_value at ss cs vs) (option_map value.Array before)) (option_map value.Array before)
in-place-put false before r at ss cs vs numbers found = refl
in-place-put true before r at ss cs vs numbers found =
    let h : before ≡ Some r = found refl in
    ap (λ o. option_map value.Array (option_map (patched_in_place at ss cs vs) o)) h
    ∙ ap (λ b. Some (value.Array (cond b r (patched_at at ss cs vs r)))) numbers
    ∙ sym (ap (λ o. option_map (patched_value at ss cs vs) (option_map value.Array o)) h)

pub patches-stored : (t : Contents) (p q : Plan) (k : ArrayKey) (r : ArrayRecord) (at : ℤ) (ss cs : List ℤ) (vs : AnyArray) → IsUntouched k (array_in t.arrays k) p.arrays.items r
    → q.objects.items ≡ p.objects.items → q.arrays.items ≡ p.arrays.items ++ PatchArray k at ss cs vs ∷ [] → Advances t p q (Array k) (Patch ss cs vs) at
patches-stored t p q k r at ss cs vs is same items (Space x) = spaces-same t p q x same
patches-stored t p q k r at ss cs vs is same items (Object x) = objects-same t p q x same
patches-stored t p q k r at ss cs vs is same items (Array x) =
    arrays-next t p q x _ items
    ∙ in-place-put (same_key x k) (fold (array_after x) (array_in t.arrays x) p.arrays.items) r at ss cs vs (plain r.values is.2)
    (λ h. ap (λ y. fold (array_after y) (array_in t.arrays y) p.arrays.items) (same_key-is x k h) ∙ untouched t p k r is)
