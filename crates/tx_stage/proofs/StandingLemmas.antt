-- What exists after operations, by whether it did before.
use Rattle.std.proofs.Common.{ℕ, Bool, true, false, cond, not, ◌&&◌, ◌||◌, List, [], ◌∷◌, ◌≡◌, Option, Some, None, refl, sym, ap, ◌∙◌, fold, Bor}
use Rattle.std.specs.Prelude.{is_none, is_some}
use Rattle.std.specs.Option.{option_copied, option_map}
use Rattle.std.specs.Str.{bytes_eq}
use Rattle.etp_values.specs.declared.uri.StoreUri.{StoreUri}
use Rattle.etp_values.specs.SameUri.{same_uri}
use Rattle.array_store.specs.declared.error.ArrayError.{ArrayError}
use Rattle.array_store.specs.declared.key.ArrayKey.{ArrayKey}
use Rattle.array_store.specs.declared.op.ArrayOp.{ArrayOp}
use Rattle.array_store.specs.declared.op.ArrayOp.TheVariants as set
use Rattle.array_store.specs.declared.record.ArrayRecord.{ArrayRecord}
use Rattle.array_store.specs.Operations.{array_after, put_unless}
use Rattle.array_store.specs.Refusals.{record_refusal}
use Rattle.array_store.specs.Table.{is_of_object, is_in_space, patched_in_place}
use Rattle.array_store.specs.Table.{same_key as same_array}
use Rattle.object_store.specs.declared.op.ObjectOp.{ObjectOp}
use Rattle.object_store.specs.declared.op.ObjectOp.TheVariants as op
use Rattle.object_store.specs.declared.records.ObjectRecord.{ObjectRecord}
use Rattle.object_store.specs.declared.records.SpaceRecord.{SpaceRecord}
use Rattle.object_store.specs.Changes.{space_after, object_after}
use Rattle.tx_stage.specs.declared.value.Value.{Value}
use Rattle.tx_stage.specs.Standing.{space_stands, object_stands, array_stands}

put : {A : Type 0} (b : Bool) (x : A) (before : Option A) → is_some (cond b (Some x) before) ≡ (b || is_some before)
put true x before = refl
put false x before = refl

gone : {A : Type 0} (b : Bool) (before : Option A) → is_some (cond b None before) ≡ (not b && is_some before)
gone true before = refl
gone false before = refl

space-next : (path : List ℕ) (before : Option SpaceRecord) (o : ObjectOp) → is_some (space_after path before o) ≡ space_stands path (is_some before) o
space-next path before (op.SetSpace r) = put (bytes_eq path r.path) _ before
space-next path before (op.DropSpace p) = gone (bytes_eq path p) before
space-next path before (op.SetObject r) = refl
space-next path before (op.DropObject u) = refl

object-next : (uri : StoreUri) (before : Option ObjectRecord) (o : ObjectOp) → is_some (object_after uri before o) ≡ object_stands uri (is_some before) o
object-next uri before (op.SetSpace r) = refl
object-next uri before (op.DropSpace p) = gone (bytes_eq uri.space p) before
object-next uri before (op.SetObject r) = put (same_uri uri r.uri) _ before
object-next uri before (op.DropObject u) = gone (same_uri uri u) before

folded : {A O : Type 0} (step : Option A → O → Option A) (stands : Bool → O → Bool) → ((before : Option A) (o : O) → is_some (step before o) ≡ stands (is_some before) o)
    → (ops : List O) (before : Option A) → fold stands (is_some before) ops ≡ is_some (fold step before ops)
folded step stands next [] before = refl
folded step stands next (o ∷ ops) before = ap (λ b. fold stands b ops) (sym (next before o)) ∙ folded step stands next ops (step before o)

mapped : {A : Type 0} (f : A → Value) (before : Option A) → is_some before ≡ is_some (option_map f before)
mapped f None = refl
mapped f (Some x) = refl

pub space-stands : (f : SpaceRecord → Value) (path : List ℕ) (ops : List ObjectOp) (before : Option SpaceRecord)
    → fold (space_stands path) (is_some before) ops ≡ is_some (option_map f (fold (space_after path) before ops))
space-stands f path ops before = folded (space_after path) (space_stands path) (space-next path) ops before ∙ mapped f _

pub object-stands : (f : ObjectRecord → Value) (uri : StoreUri) (ops : List ObjectOp) (before : Option ObjectRecord)
    → fold (object_stands uri) (is_some before) ops ≡ is_some (option_map f (fold (object_after uri) before ops))
object-stands f uri ops before = folded (object_after uri) (object_stands uri) (object-next uri) ops before ∙ mapped f _

array-set : (b : Bool) (e : Option ArrayError) (r : ArrayRecord) (before : Option ArrayRecord) → is_some (cond b (put_unless e before r) before) ≡ ((b && is_none e) || is_some before)
array-set true None r before = refl
array-set true (Some e) r before = refl
array-set false e r before = refl

array-patched : (f : ArrayRecord → ArrayRecord) (b : Bool) (before : Option ArrayRecord) → is_some (cond b (option_map f before) before) ≡ is_some before
array-patched f true None = refl
array-patched f true (Some r) = refl
array-patched f false before = refl

array-next : (key : ArrayKey) (before : Option ArrayRecord) (o : ArrayOp) → is_some (array_after key before o) ≡ array_stands key (is_some before) o
array-next key before (set.SetArray k r) = array-set (same_array key k) (record_refusal r) r before
array-next key before (set.PatchArray k at ss cs vs) = array-patched (patched_in_place at ss cs vs) (same_array key k) before
array-next key before (set.DropArraysOf u) = gone (is_of_object u key) before
array-next key before (set.DropArraysIn p) = gone (is_in_space p key) before

pub array-stood : (key : ArrayKey) (ops : List ArrayOp) (before : Option ArrayRecord) → fold (array_stands key) (is_some before) ops ≡ is_some (fold (array_after key) before ops)
array-stood key ops before = folded (array_after key) (array_stands key) (array-next key) ops before

pub array-stands : (f : ArrayRecord → Value) (key : ArrayKey) (ops : List ArrayOp) (before : Option ArrayRecord)
    → fold (array_stands key) (is_some before) ops ≡ is_some (option_map f (fold (array_after key) before ops))
array-stands f key ops before = array-stood key ops before ∙ mapped f _

-- something is borrowed exactly if something is there
pub copied-some : {A : Type 0} (o : Option (Bor A)) → is_some o ≡ is_some (option_copied o)
copied-some None = refl
copied-some (Some x) = refl
