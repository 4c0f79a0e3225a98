-- What a plan leaves at each key, by what was added to it.
use Rattle.std.proofs.Common.{ℕ, ℤ, pos, Bool, true, false, cond, not, ◌&&◌, ◌||◌, List, [], ◌∷◌, ◌++◌, ◌≡◌, Option, Some, None, refl, sym, ap, ◌∙◌, subst, fold}
use Rattle.std.specs.Prelude.{is_some, is_none, IsSome, IfOk, OnOk, Result, Ok, Err}
use Rattle.std.specs.Cmp.Lexicographic.{nat_list_eq_equiv}
use Rattle.std.specs.Option.{option_map}
use Rattle.std.specs.Str.{bytes_eq}
use Rattle.std.proofs.lemmas.Bool.{false≢true}
use Rattle.std.proofs.lemmas.List.Sums.{fold_push}
use Rattle.std.proofs.lemmas.Option.{same_Some}
use Rattle.etp_values.specs.declared.code.ErrorCode.{ErrorCode}
use Rattle.etp_values.specs.declared.code.ErrorCode.TheVariants.{InvalidArgument, NotFound}
use Rattle.etp_values.specs.declared.data.AnyArray.{AnyArray}
use Rattle.etp_values.specs.declared.data.DataValue.{DataValue}
use Rattle.etp_values.specs.declared.memory.NoMemory.{NoMemory}
use Rattle.etp_values.specs.declared.uri.StoreUri.{StoreUri}
use Rattle.etp_values.specs.SameUri.{same_uri, same_uri-is}
use Rattle.array_store.specs.declared.error.ArrayError.{ArrayError}
use Rattle.array_store.specs.declared.key.ArrayKey.{ArrayKey}
use Rattle.array_store.specs.declared.op.ArrayOp.{ArrayOp}
use Rattle.array_store.specs.declared.op.ArrayOp.TheVariants as set
use Rattle.array_store.specs.declared.record.ArrayRecord.{ArrayRecord}
use Rattle.array_store.specs.Codes.{code_of}
use Rattle.array_store.specs.Operations.{array_after, put_unless}
use Rattle.array_store.specs.Refusals.{record_refusal, write_refusal}
use Rattle.array_store.specs.Table as table
use Rattle.array_store.specs.Arrays.{is_bytes}
use Rattle.array_store.specs.Table.{array_in, is_of_object, is_in_space, patch_array, patched_at, patched_in_place, rewritten, unless_refused}
use Rattle.array_store.proofs.KeyLemmas.{same_key-is}
use Rattle.object_store.specs.declared.op.ObjectOp.{ObjectOp}
use Rattle.object_store.specs.declared.op.ObjectOp.TheVariants as op
use Rattle.object_store.specs.declared.records.ObjectRecord.{ObjectRecord}
use Rattle.object_store.specs.declared.records.SpaceRecord.{SpaceRecord}
use Rattle.object_store.specs.Changes.{space_after, object_after, space_made, object_made}
use Rattle.object_store.specs.Tables.{space_in, object_in}
use Rattle.tx_stage.specs.declared.contents.Contents.{Contents}
use Rattle.tx_stage.specs.declared.key.Key.{Key}
use Rattle.tx_stage.specs.declared.key.Key.TheVariants.{Space, Object, Array}
use Rattle.tx_stage.specs.declared.op.Op.{Op}
use Rattle.tx_stage.specs.declared.op.OpWhat.{OpWhat}
use Rattle.tx_stage.specs.declared.op.OpWhat.TheVariants.{SetObject, SetArray, Patch, Gone}
use Rattle.tx_stage.specs.declared.plan.Plan.{Plan}
use Rattle.tx_stage.specs.declared.value.Value.{Value}
use Rattle.tx_stage.specs.declared.value.Value.TheVariants as value
use Rattle.tx_stage.specs.Ops.{suits, made_at, patched_value}
use Rattle.tx_stage.specs.Overlay.{misfit, needed, op_refusal}
use Rattle.tx_stage.specs.Standing.{array_given}
use Rattle.tx_stage.specs.State.{state_now, Advances, PutsSpace, DropsSpace, PlansUnless}

-- ---- the three kinds of keys, one operation later

spaces-next : (t : Contents) (p q : Plan) (x : List ℕ) (o : ObjectOp) → q.objects.items ≡ p.objects.items ++ o ∷ []
    → state_now t q (Space x) ≡ option_map value.Space (space_after x (fold (space_after x) (space_in t.objects x) p.objects.items) o)
spaces-next t p q x o added =
    ap (λ os. option_map value.Space (fold (space_after x) (space_in t.objects x) os)) added
    ∙ ap (option_map value.Space) (fold_push (space_after x) (space_in t.objects x) p.objects.items o)

objects-next : (t : Contents) (p q : Plan) (x : StoreUri) (o : ObjectOp) → q.objects.items ≡ p.objects.items ++ o ∷ []
    → state_now t q (Object x) ≡ option_map value.Object (object_after x (fold (object_after x) (object_in t.objects x) p.objects.items) o)
objects-next t p q x o added =
    ap (λ os. option_map value.Object (fold (object_after x) (object_in t.objects x) os)) added
    ∙ ap (option_map value.Object) (fold_push (object_after x) (object_in t.objects x) p.objects.items o)

pub arrays-next : (t : Contents) (p q : Plan) (x : ArrayKey) (o : ArrayOp) → q.arrays.items ≡ p.arrays.items ++ o ∷ []
    → state_now t q (Array x) ≡ option_map value.Array (array_after x (fold (array_after x) (array_in t.arrays x) p.arrays.items) o)
arrays-next t p q x o added =
    ap (λ os. option_map value.Array (fold (array_after x) (array_in t.arrays x) os)) added
    ∙ ap (option_map value.Array) (fold_push (array_after x) (array_in t.arrays x) p.arrays.items o)

-- nothing was added
pub spaces-same : (t : Contents) (p q : Plan) (x : List ℕ) → q.objects.items ≡ p.objects.items → state_now t q (Space x) ≡ state_now t p (Space x)
spaces-same t p q x same = ap (λ os. option_map value.Space (fold (space_after x) (space_in t.objects x) os)) same

pub objects-same : (t : Contents) (p q : Plan) (x : StoreUri) → q.objects.items ≡ p.objects.items → state_now t q (Object x) ≡ state_now t p (Object x)
objects-same t p q x same = ap (λ os. option_map value.Object (fold (object_after x) (object_in t.objects x) os)) same

arrays-same : (t : Contents) (p q : Plan) (x : ArrayKey) → q.arrays.items ≡ p.arrays.items → state_now t q (Array x) ≡ state_now t p (Array x)
arrays-same t p q x same = ap (λ os. option_map value.Array (fold (array_after x) (array_in t.arrays x) os)) same

-- ---- choices

-- a choice that is never made
never : {A : Type 0} (b : Bool) (x y : A) → y ≡ cond (b && false) x y
never true x y = refl
never false x y = refl

-- what is removed is not of its kind either
gone : {A B : Type 0} (f : A → B) (b : Bool) (before : Option A) → option_map f (cond b None before) ≡ cond b None (option_map f before)
gone f true before = refl
gone f false before = refl

-- ---- dataspaces

space-put : (b : Bool) (path : List ℕ) (custom : List (List ℕ × DataValue)) (at made : ℤ) (before : Option SpaceRecord)
    → option_map value.Space (cond b (Some (space_made before (record { path = path; written = at; created = made; custom = custom }))) before)
    ≡ cond b (Some (value.Space (record { path = path; written = at; created = made_at at (option_map value.Space before); custom = custom }))) (option_map value.Space before)
space-put true path custom at made None = refl
space-put true path custom at made (Some r) = refl
space-put false path custom at made before = refl

pub puts-space : (t : Contents) (p q : Plan) (path : List ℕ) (custom : List (List ℕ × DataValue)) (at made : ℤ)
    → q.objects.items ≡ p.objects.items ++ op.SetSpace (record { path = path; written = at; created = made; custom = custom }) ∷ []
    → q.arrays.items ≡ p.arrays.items → PutsSpace t p q path custom at
puts-space t p q path custom at made added same (Space x) = spaces-next t p q x _ added ∙ space-put (bytes_eq x path) path custom at made _
puts-space t p q path custom at made added same (Object x) = objects-next t p q x _ added
puts-space t p q path custom at made added same (Array x) = arrays-same t p q x same

pub drops-space : (t : Contents) (p q : Plan) (path : List ℕ)
    → q.objects.items ≡ p.objects.items ++ op.DropSpace path ∷ [] → q.arrays.items ≡ p.arrays.items ++ set.DropArraysIn path ∷ [] → DropsSpace t p q path
drops-space t p q path added sets (Space x) = spaces-next t p q x _ added ∙ gone value.Space (bytes_eq x path) _
drops-space t p q path added sets (Object x) = objects-next t p q x _ added ∙ gone value.Object (bytes_eq x.space path) _
drops-space t p q path added sets (Array x) =
    arrays-next t p q x _ sets ∙ gone value.Array (is_in_space path x) _
    ∙ ap (λ b. cond b None (state_now t p (Array x))) (nat_list_eq_equiv.symm path x.uri.space)

-- ---- objects

object-put : (s b : Bool) → s ≡ true → (at : ℤ) (r : ObjectRecord) (before : Option ObjectRecord)
    → option_map value.Object (cond b (Some (object_made before (record r { written = at }))) before)
    ≡ cond (s && (b || false)) (Some (value.Object (record r { written = at; created = made_at at (option_map value.Object before) }))) (option_map value.Object before)
object-put true true suited at r None = refl
object-put true true suited at r (Some b) = refl
object-put true false suited at r before = refl
object-put false b suited at r before = absurd (false≢true suited)

pub sets-object : (t : Contents) (p q : Plan) (u : StoreUri) (r : ObjectRecord) (at : ℤ) → same_uri u r.uri ≡ true
    → q.objects.items ≡ p.objects.items ++ op.SetObject (record r { written = at }) ∷ [] → q.arrays.items ≡ p.arrays.items
    → Advances t p q (Object u) (SetObject r) at
sets-object t p q u r at suited added same (Space x) = spaces-next t p q x _ added ∙ never (same_uri u r.uri) _ _
sets-object t p q u r at suited added same (Object x) =
    let before = fold (object_after x) (object_in t.objects x) p.objects.items in
    objects-next t p q x _ added
    ∙ ap (λ v. option_map value.Object (cond (same_uri x v) (Some (object_made before (record r { written = at }))) before)) (sym (same_uri-is u r.uri suited))
    ∙ object-put (same_uri u r.uri) (same_uri x u) suited at r before
sets-object t p q u r at suited added same (Array x) = arrays-same t p q x same ∙ never (same_uri u r.uri) _ _

-- a record of another URI
unsuited : {A : Type 0} (s b : Bool) → s ≡ false → (x y : A) → y ≡ cond (s && b) x y
unsuited true b h x y = absurd (false≢true (sym h))
unsuited false b h x y = refl

-- ---- arrays

array-put : (e : Option ArrayError) (b : Bool) (at : ℤ) (r : ArrayRecord) (before : Option ArrayRecord)
    → option_map value.Array (cond b (put_unless e before (record r { written = at })) before)
    ≡ cond (is_none e && (b || false)) (Some (value.Array (record r { written = at; created = made_at at (option_map value.Array before) }))) (option_map value.Array before)
array-put None true at r None = refl
array-put None true at r (Some b) = refl
array-put None false at r before = refl
array-put (Some e) true at r before = refl
array-put (Some e) false at r before = refl

pub sets-array : (t : Contents) (p q : Plan) (k : ArrayKey) (r : ArrayRecord) (at : ℤ)
    → q.objects.items ≡ p.objects.items → q.arrays.items ≡ p.arrays.items ++ set.SetArray k (record r { written = at }) ∷ []
    → Advances t p q (Array k) (SetArray r) at
sets-array t p q k r at same sets (Space x) = spaces-same t p q x same ∙ never (is_none (record_refusal r)) _ _
sets-array t p q k r at same sets (Object x) = objects-same t p q x same ∙ never (is_none (record_refusal r)) _ _
sets-array t p q k r at same sets (Array x) = arrays-next t p q x _ sets ∙ array-put (record_refusal r) (table.same_key x k) at r _

-- ---- patches: what exists, and what the plan has of it, differ at most in the array's time of creation

abbrev pub undated : Option ArrayRecord → Option ArrayRecord
undated before = option_map (λ (r : ArrayRecord). record r { created = pos 0 }) before

dated : (s b : ArrayRecord) → undated (Some s) ≡ undated (Some b) → s ≡ record b { created = s.created }
dated s b same =
    let plain : record s { created = pos 0 } ≡ record b { created = pos 0 } = same_Some (record s { created = pos 0 }) (record b { created = pos 0 }) same in
    λ j. record (plain j) { created = s.created }

-- one operation later
undated-put : (e : Option ArrayError) (b : Bool) (r : ArrayRecord) (x y : Option ArrayRecord) → undated x ≡ undated y
    → undated (cond (b && is_none e) (Some r) x) ≡ undated (cond b (put_unless e y r) y)
undated-put None true r x None same = refl
undated-put None true r x (Some s) same = refl
undated-put (Some e) true r x y same = same
undated-put None false r x y same = same
undated-put (Some e) false r x y same = same

undated-gone : (b : Bool) (x y : Option ArrayRecord) → undated x ≡ undated y → undated (cond b None x) ≡ undated (cond b None y)
undated-gone true x y same = refl
undated-gone false x y same = same

-- a patch in place does not look at the array's time of creation
patch-dated : (bytes : Bool) (e : Option ArrayError) (b whole : ArrayRecord) (made : ℤ)
    → cond bytes (record b { created = made }) (unless_refused e (record b { created = made }) (record whole { created = made })) ≡ record (cond bytes b (unless_refused e b whole)) { created = made }
patch-dated true e b whole made = refl
patch-dated false None b whole made = refl
patch-dated false (Some e) b whole made = refl

undated-patch : (same : Bool) (at : ℤ) (ss cs : List ℤ) (vs : AnyArray) (x y : Option ArrayRecord) → undated x ≡ undated y
    → undated (cond same (option_map (patched_in_place at ss cs vs) x) x) ≡ undated (cond same (option_map (patched_in_place at ss cs vs) y) y)
undated-patch false at ss cs vs x y alike = alike
undated-patch true at ss cs vs None None alike = refl
undated-patch true at ss cs vs None (Some b) alike = absurd cc
undated-patch true at ss cs vs (Some s) None alike = absurd cc
undated-patch true at ss cs vs (Some s) (Some b) alike =
    ap (λ (r : ArrayRecord). undated (Some (patched_in_place at ss cs vs r))) (dated s b alike)
    ∙ ap (λ (r : ArrayRecord). undated (Some r)) (patch-dated (is_bytes b.values) (write_refusal b ss cs vs) b (rewritten (patch_array b ss cs vs) at) s.created)

undated-next : (key : ArrayKey) (o : ArrayOp) (x y : Option ArrayRecord) → undated x ≡ undated y → undated (array_given key x o) ≡ undated (array_after key y o)
undated-next key (set.SetArray k r) x y same = undated-put (record_refusal r) (table.same_key key k) r x y same
undated-next key (set.PatchArray k at ss cs vs) x y same = undated-patch (table.same_key key k) at ss cs vs x y same
undated-next key (set.DropArraysOf u) x y same = undated-gone (is_of_object u key) x y same
undated-next key (set.DropArraysIn p) x y same = undated-gone (is_in_space p key) x y same

pub undated-after : (key : ArrayKey) (sets : List ArrayOp) (x y : Option ArrayRecord) → undated x ≡ undated y
    → undated (fold (array_given key) x sets) ≡ undated (fold (array_after key) y sets)
undated-after key [] x y same = same
undated-after key (o ∷ sets) x y same = undated-after key sets (array_given key x o) (array_after key y o) (undated-next key o x y same)

-- something exists in both
pub undated-some : (x : Option ArrayRecord) → is_some (undated x) ≡ is_some x
undated-some None = refl
undated-some (Some r) = refl

stands-alike : (x y : Option ArrayRecord) → undated x ≡ undated y → is_some x ≡ is_some (option_map value.Array y)
stands-alike x y same = sym (undated-some x) ∙ ap is_some same ∙ undated-some y ∙ mapped y
  where
    mapped : (y : Option ArrayRecord) → is_some y ≡ is_some (option_map value.Array y)
    mapped None = refl
    mapped (Some r) = refl

none-of : {A : Type 0} (o : Option A) → is_some o ≡ false → o ≡ None
none-of None h = refl
none-of (Some a) h = absurd (false≢true (sym h))

pub gone-alike : (x y : Option ArrayRecord) → undated x ≡ undated y → is_some (option_map value.Array y) ≡ false → x ≡ None
gone-alike x y same h = none-of x (stands-alike x y same ∙ h)

pub none-alike : (y : Option ArrayRecord) → undated None ≡ undated y → y ≡ None
none-alike None same = refl
none-alike (Some r) same = absurd cc

-- an array refuses a patch regardless of its time of creation
pub write-alike : (s b : ArrayRecord) (ss cs : List ℤ) (vs : AnyArray) → undated (Some s) ≡ undated (Some b) → write_refusal s ss cs vs ≡ write_refusal b ss cs vs
write-alike s b ss cs vs same = ap (λ r. write_refusal r ss cs vs) (dated s b same)

pub patch-misfit : (y : Option ArrayRecord) (b : ArrayRecord) (ss cs : List ℤ) (vs : AnyArray) → undated (Some b) ≡ undated y
    → option_map code_of (write_refusal b ss cs vs) ≡ misfit (Patch ss cs vs) (option_map value.Array y)
patch-misfit None b ss cs vs same = absurd cc
patch-misfit (Some s) b ss cs vs same = ap (option_map code_of) (write-alike b s ss cs vs same)

pub no-patch : (y : Option ArrayRecord) (ss cs : List ℤ) (vs : AnyArray) → y ≡ None → None ≡ misfit (Patch ss cs vs) (option_map value.Array y)
no-patch y ss cs vs none = ap (λ o. misfit (Patch ss cs vs) (option_map value.Array o)) (sym none)

-- a patch that fits: what is put is what the patch leaves of what exists
pub accepted-patch : (e : Option ArrayError) (b s : ArrayRecord) (at : ℤ) (ss cs : List ℤ) (vs : AnyArray) → e ≡ None → s ≡ record b { created = s.created } → write_refusal b ss cs vs ≡ e
    → record (patched_at at ss cs vs b) { created = s.created } ≡ patched_at at ss cs vs s
accepted-patch None b s at ss cs vs none dated fits =
    let whole = rewritten (patch_array b ss cs vs) at in
    ap (λ e. record (unless_refused e b whole) { created = s.created }) fits
    ∙ ap (λ e. unless_refused e (record b { created = s.created }) (record whole { created = s.created })) (sym fits)
    ∙ ap (patched_at at ss cs vs) (sym dated)
accepted-patch (Some e) b s at ss cs vs none dated fits = absurd cc

patch-put : (same : Bool) (before : Option ArrayRecord) (b new : ArrayRecord) (at : ℤ) (ss cs : List ℤ) (vs : AnyArray)
    → new ≡ patched_at at ss cs vs b → write_refusal b ss cs vs ≡ None → record_refusal new ≡ None
    → (same ≡ true → undated (Some b) ≡ undated before)
    → option_map value.Array (cond same (put_unless (record_refusal new) before new) before)
    ≡ cond (same || false) (option_map (patched_value at ss cs vs) (option_map value.Array before)) (option_map value.Array before)
patch-put false before b new at ss cs vs made fits sound alike = refl
patch-put true None b new at ss cs vs made fits sound alike = absurd (let h = alike refl in cc)
patch-put true (Some s) b new at ss cs vs made fits sound alike =
    let whole : record new { created = s.created } ≡ patched_at at ss cs vs s =
    ap (λ (r : ArrayRecord). record r { created = s.created }) made ∙ accepted-patch None b s at ss cs vs refl (dated s b (sym (alike refl))) fits in
    ap (λ e. option_map value.Array (put_unless e (Some s) new)) sound ∙ ap (λ r. Some (value.Array r)) whole

pub patches-array : (t : Contents) (p q : Plan) (k : ArrayKey) (b new : ArrayRecord) (at : ℤ) (ss cs : List ℤ) (vs : AnyArray)
    → undated (Some b) ≡ undated (fold (array_after k) (array_in t.arrays k) p.arrays.items)
    → new ≡ patched_at at ss cs vs b → write_refusal b ss cs vs ≡ None → record_refusal new ≡ None
    → q.objects.items ≡ p.objects.items → q.arrays.items ≡ p.arrays.items ++ set.SetArray k new ∷ []
    → Advances t p q (Array k) (Patch ss cs vs) at
patches-array t p q k b new at ss cs vs alike made fits sound same sets (Space x) = spaces-same t p q x same
patches-array t p q k b new at ss cs vs alike made fits sound same sets (Object x) = objects-same t p q x same
patches-array t p q k b new at ss cs vs alike made fits sound same sets (Array x) =
    let own = λ (h : table.same_key x k ≡ true). alike ∙ ap (λ y. undated (fold (array_after y) (array_in t.arrays y) p.arrays.items)) (sym (same_key-is x k h)) in
    arrays-next t p q x _ sets ∙ patch-put (table.same_key x k) _ b new at ss cs vs made fits sound own

-- a patch that leaves what exists
left-alone : (same : Bool) (before : Option ArrayRecord) (at : ℤ) (ss cs : List ℤ) (vs : AnyArray)
    → (same ≡ true → option_map (patched_value at ss cs vs) (option_map value.Array before) ≡ option_map value.Array before)
    → option_map value.Array before ≡ cond (same || false) (option_map (patched_value at ss cs vs) (option_map value.Array before)) (option_map value.Array before)
left-alone true before at ss cs vs stays = sym (stays refl)
left-alone false before at ss cs vs stays = refl

leaves-array : (t : Contents) (p : Plan) (k : ArrayKey) (at : ℤ) (ss cs : List ℤ) (vs : AnyArray)
    → option_map (patched_value at ss cs vs) (state_now t p (Array k)) ≡ state_now t p (Array k)
    → Advances t p p (Array k) (Patch ss cs vs) at
leaves-array t p k at ss cs vs stays (Space x) = refl
leaves-array t p k at ss cs vs stays (Object x) = refl
leaves-array t p k at ss cs vs stays (Array x) =
    left-alone (table.same_key x k) (fold (array_after x) (array_in t.arrays x) p.arrays.items) at ss cs vs
    (λ h. ap (λ y. option_map (patched_value at ss cs vs) (state_now t p (Array y))) (same_key-is x k h) ∙ stays ∙ ap (λ y. state_now t p (Array y)) (sym (same_key-is x k h)))

patched-none : (y : Option ArrayRecord) (at : ℤ) (ss cs : List ℤ) (vs : AnyArray) → y ≡ None
    → option_map (patched_value at ss cs vs) (option_map value.Array y) ≡ option_map value.Array y
patched-none y at ss cs vs none =
    ap (λ o. option_map (patched_value at ss cs vs) (option_map value.Array o)) none ∙ ap (λ o. option_map value.Array o) (sym none)

pub leaves-none : (t : Contents) (p : Plan) (k : ArrayKey) (at : ℤ) (ss cs : List ℤ) (vs : AnyArray)
    → fold (array_after k) (array_in t.arrays k) p.arrays.items ≡ None → Advances t p p (Array k) (Patch ss cs vs) at
leaves-none t p k at ss cs vs none = leaves-array t p k at ss cs vs (patched-none _ at ss cs vs none)

patched-refused : (y : Option ArrayRecord) (b : ArrayRecord) (e : ArrayError) (at : ℤ) (ss cs : List ℤ) (vs : AnyArray) → undated (Some b) ≡ undated y → write_refusal b ss cs vs ≡ Some e
    → option_map (patched_value at ss cs vs) (option_map value.Array y) ≡ option_map value.Array y
patched-refused None b e at ss cs vs alike refused = absurd cc
patched-refused (Some s) b e at ss cs vs alike refused =
    ap (λ f. Some (value.Array (unless_refused f s (rewritten (patch_array s ss cs vs) at)))) (write-alike s b ss cs vs (sym alike) ∙ refused)

pub leaves-refused : (t : Contents) (p : Plan) (k : ArrayKey) (b : ArrayRecord) (e : ArrayError) (at : ℤ) (ss cs : List ℤ) (vs : AnyArray)
    → undated (Some b) ≡ undated (fold (array_after k) (array_in t.arrays k) p.arrays.items) → write_refusal b ss cs vs ≡ Some e
    → Advances t p p (Array k) (Patch ss cs vs) at
leaves-refused t p k b e at ss cs vs alike refused = leaves-array t p k at ss cs vs (patched-refused _ b e at ss cs vs alike refused)

-- ---- what does not suit its key

object-misfit : (what : OpWhat) (y : Option ObjectRecord) → None ≡ misfit what (option_map value.Object y)
object-misfit (SetObject r) y = refl
object-misfit (SetArray r) y = refl
object-misfit (Patch ss cs vs) None = refl
object-misfit (Patch ss cs vs) (Some r) = refl
object-misfit Gone y = refl

pub object-fits : (t : Contents) (p : Plan) (key : Key) (u : StoreUri) (what : OpWhat) → key ≡ Object u → None ≡ misfit what (state_now t p key)
object-fits t p key u what is = object-misfit what _ ∙ ap (λ k. misfit what (state_now t p k)) (sym is)

space-misfit : (what : OpWhat) (y : Option SpaceRecord) → None ≡ misfit what (option_map value.Space y)
space-misfit (SetObject r) y = refl
space-misfit (SetArray r) y = refl
space-misfit (Patch ss cs vs) None = refl
space-misfit (Patch ss cs vs) (Some r) = refl
space-misfit Gone y = refl

pub space-fits : (t : Contents) (p : Plan) (key : Key) (path : List ℕ) (what : OpWhat) → key ≡ Space path → None ≡ misfit what (state_now t p key)
space-fits t p key path what is = space-misfit what _ ∙ ap (λ k. misfit what (state_now t p k)) (sym is)

space-unaltered : (t : Contents) (p : Plan) (own : List ℕ) (what : OpWhat) (at : ℤ) → Advances t p p (Space own) what at
space-unaltered t p own (SetObject r) at key = refl
space-unaltered t p own (SetArray r) at key = refl
space-unaltered t p own (Patch ss cs vs) at key = refl
space-unaltered t p own Gone at key = refl

pub space-stays : (t : Contents) (p : Plan) (key : Key) (path : List ℕ) (what : OpWhat) (at : ℤ) → key ≡ Space path → Advances t p p key what at
space-stays t p key path what at is = subst (λ k. Advances t p p k what at) (sym is) (space-unaltered t p path what at)

-- what does not suit an object's key, and an array's
pub object-stays : (t : Contents) (p : Plan) (u : StoreUri) (what : OpWhat) (at : ℤ) → suits (Object u) what ≡ false → Advances t p p (Object u) what at
object-stays t p u what at other key = unsuited (suits (Object u) what) _ other _ _

pub array-stays : (t : Contents) (p : Plan) (k : ArrayKey) (what : OpWhat) (at : ℤ) → suits (Array k) what ≡ false → Advances t p p (Array k) what at
array-stays t p k what at other key = unsuited (suits (Array k) what) _ other _ _

-- whether a patch was refused
pub refused-some : (o : Option ArrayError) → is_some (option_map code_of o) ≡ true → (e : ArrayError) × (o ≡ Some e)
refused-some None h = absurd (false≢true h)
refused-some (Some e) h = (e, refl)

pub refused-none : (o : Option ArrayError) → is_some (option_map code_of o) ≡ false → o ≡ None
refused-none None h = refl
refused-none (Some e) h = absurd (false≢true (sym h))

-- ---- judging

pub judged-verdict : (result : Result (Option ErrorCode) NoMemory) (state : Key → Option Value) (o : Op) → suits o.key o.what ≡ true → is_some (state (needed o.key o.what)) ≡ true
    → IfOk result (λ r. r ≡ misfit o.what (state o.key)) → IfOk result (λ r. r ≡ op_refusal state o)
judged-verdict (Ok r) state o suited stands is =
    is ∙ sym (λ j. cond (not (suited j)) (Some InvalidArgument) (cond (not (stands j)) (Some NotFound) (misfit o.what (state o.key))))
judged-verdict (Err e) state o suited stands is = tt

pub judged-plan : (result : Result (Option ErrorCode) NoMemory) (t : Contents) (old new : Plan) (own : Key) (what : OpWhat) (at : ℤ)
    → OnOk result (Advances t old new own what at) → IfOk result (λ r. IsSome r → new ≡ old) → IfOk result (λ r. PlansUnless r t old new own what at)
judged-plan (Ok None) t old new own what at advances same = advances
judged-plan (Ok (Some code)) t old new own what at advances same = same refl
judged-plan (Err e) t old new own what at advances same = tt
