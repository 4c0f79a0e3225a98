-- Every array of the table stays one that a put accepts.
use Rattle.std.proofs.Common.{OnOk, OnErr, ℕ, ◌*◌, ◌≤◌, nat_lt, ◌≡◌, arith, ℤ, Bool, true, false, cond, List, Option, Some, None, Result, Ok, Err, refl, sym, ap, ◌∙◌}
use Rattle.std.specs.Map.{lookup}
use Rattle.std.specs.Option.{unwrap_or}
use Rattle.std.specs.Prelude.{is_ok}
use Rattle.std.proofs.lemmas.Bool.{false≢true}
use Rattle.std.proofs.lemmas.Bool.Decides.{nat_tests}
use Rattle.etp_values.specs.declared.data.AnyArray.{AnyArray}
use Rattle.etp_values.specs.declared.data.AnyArray.TheVariants.{ArrayOfBoolean, ArrayOfInt, ArrayOfLong, ArrayOfFloat, ArrayOfDouble, ArrayOfString, Bytes}
use Rattle.array_store.specs.declared.key.ArrayKey.{ArrayKey}
use Rattle.array_store.specs.declared.record.ArrayRecord.{ArrayRecord}
use Rattle.array_store.specs.declared.error.ArrayError.{ArrayError}
use Rattle.array_store.specs.declared.error.ArrayError.TheVariants.{TooLarge, NoMemory}
use Rattle.array_store.specs.Shape.{sizes}
use Rattle.array_store.specs.Arrays.{elements, has_numbers, is_bytes, patch_of, size_of}
use Rattle.array_store.specs.Refusals.{dims_of, elements_refusal, weight_refusal, record_refusal, region_refusal, values_refusal, first_refusal, patch_refusal, write_refusal, Refuses}
use Rattle.array_store.specs.Table.{AllSound, same_key, put_array, patch_array, patched_at, patched_in_place, rewritten, unless_refused}
use Rattle.array_store.proofs.RegionLemmas.{length-patched}

-- the one that was set, or one that was there
either_sound : (b : Bool) (r s : ArrayRecord) (before : Option ArrayRecord) → record_refusal r ≡ None → (before ≡ Some s → record_refusal s ≡ None) → cond b (Some r) before ≡ Some s → record_refusal s ≡ None
either_sound true r s before sound old h = let same : r ≡ s = cc in ap record_refusal (sym same) ∙ sound
either_sound false r s before sound old h = old h

pub sound-set : (old new : List (ArrayKey × ArrayRecord)) (key : ArrayKey) (r : ArrayRecord) → AllSound old → record_refusal r ≡ None
    → ((q : ArrayKey) → lookup (same_key q) new ≡ cond (same_key q key) (Some r) (lookup (same_key q) old)) → AllSound new
sound-set old new key r all sound each = λ q s h. either_sound (same_key q key) r s (lookup (same_key q) old) sound (all q s) (sym (each q) ∙ h)

one_sound : (b : Bool) (s : ArrayRecord) (before : Option ArrayRecord) → (before ≡ Some s → record_refusal s ≡ None) → cond b None before ≡ Some s → record_refusal s ≡ None
one_sound true s before old h = absurd cc
one_sound false s before old h = old h

pub sound-drop : (old new : List (ArrayKey × ArrayRecord)) (goes : ArrayKey → Bool) → AllSound old
    → ((q : ArrayKey) → lookup (same_key q) new ≡ cond (goes q) None (lookup (same_key q) old)) → AllSound new
sound-drop old new goes all each = λ q s h. one_sound (goes q) s (lookup (same_key q) old) (all q s) (sym (each q) ∙ h)

pub sound-same : (old new : List (ArrayKey × ArrayRecord)) → AllSound old → new ≡ old → AllSound new
sound-same old new all same = λ q s h. all q s (ap (lookup (same_key q)) (sym same) ∙ h)

-- a put changes nothing that is tested
pub refusal-put_array : (before : Option ArrayRecord) (r : ArrayRecord) → record_refusal (put_array before r) ≡ record_refusal r
refusal-put_array None r = refl
refusal-put_array (Some b) r = refl

-- a patch leaves the number of elements
elements-patch_of : (ds ss cs : List ℕ) (a b : AnyArray) → elements (patch_of ds ss cs a b) ≡ elements a
elements-patch_of ds ss cs (ArrayOfBoolean l) (ArrayOfBoolean m) = length-patched ds ss cs l m
elements-patch_of ds ss cs (ArrayOfBoolean l) b = refl
elements-patch_of ds ss cs (ArrayOfInt l) (ArrayOfInt m) = length-patched ds ss cs l m
elements-patch_of ds ss cs (ArrayOfInt l) b = refl
elements-patch_of ds ss cs (ArrayOfLong l) (ArrayOfLong m) = length-patched ds ss cs l m
elements-patch_of ds ss cs (ArrayOfLong l) b = refl
elements-patch_of ds ss cs (ArrayOfFloat l) (ArrayOfFloat m) = length-patched ds ss cs l m
elements-patch_of ds ss cs (ArrayOfFloat l) b = refl
elements-patch_of ds ss cs (ArrayOfDouble l) (ArrayOfDouble m) = length-patched ds ss cs l m
elements-patch_of ds ss cs (ArrayOfDouble l) b = refl
elements-patch_of ds ss cs (ArrayOfString l) (ArrayOfString m) = length-patched ds ss cs l m
elements-patch_of ds ss cs (ArrayOfString l) b = refl
elements-patch_of ds ss cs (Bytes l) (Bytes m) = length-patched ds ss cs l m
elements-patch_of ds ss cs (Bytes l) b = refl

-- the size of numbers and booleans is the same after a patch
size-patch_of : (ds ss cs : List ℕ) (a b : AnyArray) → has_numbers a ≡ true → size_of (patch_of ds ss cs a b) ≡ size_of a
size-patch_of ds ss cs (ArrayOfBoolean l) (ArrayOfBoolean m) h = length-patched ds ss cs l m
size-patch_of ds ss cs (ArrayOfBoolean l) b h = refl
size-patch_of ds ss cs (ArrayOfInt l) (ArrayOfInt m) h = ap (λ n. 4 * n) (length-patched ds ss cs l m)
size-patch_of ds ss cs (ArrayOfInt l) b h = refl
size-patch_of ds ss cs (ArrayOfLong l) (ArrayOfLong m) h = ap (λ n. 8 * n) (length-patched ds ss cs l m)
size-patch_of ds ss cs (ArrayOfLong l) b h = refl
size-patch_of ds ss cs (ArrayOfFloat l) (ArrayOfFloat m) h = ap (λ n. 4 * n) (length-patched ds ss cs l m)
size-patch_of ds ss cs (ArrayOfFloat l) b h = refl
size-patch_of ds ss cs (ArrayOfDouble l) (ArrayOfDouble m) h = ap (λ n. 8 * n) (length-patched ds ss cs l m)
size-patch_of ds ss cs (ArrayOfDouble l) b h = refl
size-patch_of ds ss cs (ArrayOfString l) b h = absurd (false≢true h)
size-patch_of ds ss cs (Bytes l) b h = absurd (false≢true h)

no_refusal : (a b : Option ArrayError) → first_refusal a b ≡ None → (a ≡ None) × (b ≡ None)
no_refusal None b h = (refl, h)
no_refusal (Some e) b h = absurd cc

-- if only the size could be refused, and is not
light : (a b : AnyArray) (r : Result ℕ ArrayError) → elements_refusal a r ≡ None → weight_refusal b ≡ None → elements_refusal b r ≡ None
light a b (Ok n) h w = w
light a b (Err e) h w = absurd cc

pub refusal-patch_array : (r : ArrayRecord) (ss cs : List ℤ) (values : AnyArray) → record_refusal r ≡ None → patch_refusal r ss cs values ≡ None → record_refusal (patch_array r ss cs values) ≡ None
refusal-patch_array r ss cs values sound h =
    let new = patch_of (sizes r.dims) (sizes ss) (sizes cs) r.values values in
    let parts = no_refusal (region_refusal r.dims ss cs) (first_refusal (values_refusal r.values cs values) (weight_refusal new)) h in
    let later = no_refusal (values_refusal r.values cs values) (weight_refusal new) parts.1 in
    let count : elements new ≡ elements r.values = elements-patch_of (sizes r.dims) (sizes ss) (sizes cs) r.values values in
    ap (λ n. elements_refusal new (dims_of r.dims (Some n))) count ∙ light r.values new (dims_of r.dims (Some (elements r.values))) sound later.1

-- an array that is invalid for its elements' size alone is otherwise sound
weight-none : (a : AnyArray) (r : Result ℕ ArrayError) → elements_refusal a r ≡ None → weight_refusal a ≡ None
weight-none a (Ok n) h = h
weight-none a (Err e) h = absurd cc

light_number : (n : ℕ) → cond (nat_lt 33554432 n) (Some TooLarge) None ≡ None → n ≤ 33554432
light_number n h = by (nat_lt 33554432 n) refl h
  where
    by : (b : Bool) → nat_lt 33554432 n ≡ b → cond b (Some TooLarge) None ≡ None → n ≤ 33554432
    by true e k = absurd cc
    by false e k = grind (arith, nat_tests)

-- the size of an array's elements
pub light_sound : (r : ArrayRecord) → record_refusal r ≡ None → size_of r.values ≤ 33554432
light_sound r h = light_number (size_of r.values) (weight-none r.values (dims_of r.dims (Some (elements r.values))) h)

second-none : (a b c : Option ArrayError) → c ≡ None → first_refusal a (first_refusal b c) ≡ first_refusal a b
second-none (Some e) b c none = refl
second-none None (Some e) c none = refl
second-none None None c none = none

where-none : (a b c : Option ArrayError) → (a ≡ None → b ≡ c) → first_refusal a b ≡ first_refusal a c
where-none (Some e) b c same = refl
where-none None b c same = same refl

-- a patch of numbers is refused only for the record, the region and the values
pub refusal-numbers : (r : ArrayRecord) (ss cs : List ℤ) (values : AnyArray) → has_numbers r.values ≡ true
    → write_refusal r ss cs values ≡ first_refusal (record_refusal r) (first_refusal (region_refusal r.dims ss cs) (values_refusal r.values cs values))
refusal-numbers r ss cs values numbers =
    let new = patch_of (sizes r.dims) (sizes ss) (sizes cs) r.values values in
    let same : size_of new ≡ size_of r.values = size-patch_of (sizes r.dims) (sizes ss) (sizes cs) r.values values numbers in
    let light : record_refusal r ≡ None → weight_refusal new ≡ None =
    λ sound. ap (λ n. cond (nat_lt 33554432 n) (Some TooLarge) None) same ∙ weight-none r.values (dims_of r.dims (Some (elements r.values))) sound in
    where-none (record_refusal r) (patch_refusal r ss cs values) (first_refusal (region_refusal r.dims ss cs) (values_refusal r.values cs values))
    (λ sound. second-none (region_refusal r.dims ss cs) (values_refusal r.values cs values) (weight_refusal new) (light sound))

-- ---- a patch in place

-- only a refusal leaves an array that has no bytes
kept-plain : (refusal : Option ArrayError) (e : ArrayError) (r new : ArrayRecord) (bytes : Bool) → bytes ≡ false → e ≡ unwrap_or refusal NoMemory → (e ≡ NoMemory → bytes ≡ true) → r ≡ unless_refused refusal r new
kept-plain None e r new bytes plain why memory = absurd (false≢true (sym plain ∙ memory why))
kept-plain (Some f) e r new bytes plain why memory = refl

pub kept-in-place : {X : Type 0} (result : Result X ArrayError) (r now : ArrayRecord) (at : ℤ) (ss cs : List ℤ) (values : AnyArray) → is_ok result ≡ false → is_bytes r.values ≡ false
    → Refuses result (write_refusal r ss cs values) → OnErr result (now ≡ r) → (result ≡ Err NoMemory → is_bytes r.values ≡ true)
    → now ≡ patched_in_place at ss cs values r
kept-in-place (Ok x) r now at ss cs values failed plain why kept memory = absurd (false≢true (sym failed))
kept-in-place (Err e) r now at ss cs values failed plain why kept memory =
    kept
    ∙ kept-plain (write_refusal r ss cs values) e r (rewritten (patch_array r ss cs values) at) (is_bytes r.values) plain why (λ none. memory (ap (λ f. Err f) none))
    ∙ ap (λ b. cond b r (patched_at at ss cs values r)) (sym plain)

-- ---- by the outcome of a call

pub on_ok_both : {X E : Type 0} {P Q R : Type 0} (r : Result X E) → (P → Q → R) → OnOk r P → OnOk r Q → OnOk r R
on_ok_both (Ok x) f p q = f p q
on_ok_both (Err e) f p q = p

-- a call that is done was not refused
pub done-refusal : {X : Type 0} (r : Result X ArrayError) (refusal : Option ArrayError) → Refuses r refusal → OnOk r (refusal ≡ None)
done-refusal (Ok x) refusal h = h
done-refusal (Err e) refusal h = tt

pub sound-call : {X E : Type 0} (r : Result X E) (old new : List (ArrayKey × ArrayRecord)) → AllSound old → OnOk r (AllSound new) → OnErr r (new ≡ old) → AllSound new
sound-call (Ok x) old new all done same = done
sound-call (Err e) old new all done same = sound-same old new all same
