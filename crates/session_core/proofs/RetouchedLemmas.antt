-- The rows of a transaction neither see what it touched nor change that: the second half of each request.
use Rattle.std.specs.Prelude.{ℕ, ℤ, ◌+◌, Bool, true, false, List, [], ◌∷◌, ◌≡◌, Option, Some, None, refl, if◌then◌else◌, take, drop, length, slice_get}
use Rattle.std.proofs.Common.{ap, ◌∙◌}
use Rattle.array_rows.specs.Arrays as arrays
use Rattle.array_rows.specs.Changing as changing
use Rattle.array_rows.specs.Reading as reading
use Rattle.array_rows.specs.declared.arrays.ArrayPending.{ArrayPending}
use Rattle.array_rows.specs.declared.arrays.ArrayPending.TheVariants as keeps_array
use Rattle.array_rows.specs.declared.changing.ArrayChange.TheVariants as change
use Rattle.array_rows.specs.declared.changing.ArrayPatch.{ArrayPatch}
use Rattle.array_rows.specs.declared.naming.Region.{Region}
use Rattle.array_store.specs.Arrays.{size_of}
use Rattle.array_store.specs.declared.key.ArrayKey.{ArrayKey}
use Rattle.array_store.specs.declared.record.ArrayRecord.{ArrayRecord}
use Rattle.etp_values.specs.declared.code.ErrorCode.{ErrorCode}
use Rattle.etp_values.specs.declared.code.ErrorCode.TheVariants.{LimitExceeded}
use Rattle.etp_values.specs.declared.data.AnyArray.{AnyArray}
use Rattle.etp_values.specs.declared.uri.StoreUri.{StoreUri}
use Rattle.keyed_requests.specs.Keyed.{finished, finished_state, granted_unless, request_reply}
use Rattle.keyed_requests.specs.declared.keys.Decision.{Decision}
use Rattle.keyed_requests.specs.declared.keys.Decision.TheVariants.{Granted, Refused}
use Rattle.keyed_requests.specs.declared.sending.Sending.{Sending}
use Rattle.object_store.specs.declared.records.ObjectRecord.{ObjectRecord}
use Rattle.request_scope.specs.Finding.{found_refusal, is_first_seen, putting_by, refused_look}
use Rattle.request_scope.specs.Reply.{scoped_reply}
use Rattle.request_scope.specs.Scope.{left_by, paying, pays, put_left, stage_refusal, stands, staging}
use Rattle.request_scope.specs.declared.reply.Answered.{Answered}
use Rattle.request_scope.specs.declared.within.Scope.{Scope}
use Rattle.session_rows.specs.Objects as objects
use Rattle.session_rows.specs.declared.formats.Format.{Format}
use Rattle.session_rows.specs.declared.objects.ObjectPending.{ObjectPending}
use Rattle.session_rows.specs.declared.objects.ObjectPending.TheVariants as keeps_object
use Rattle.store_machine.specs.declared.call.Reply.TheVariants as reply
use Rattle.tx_stage.specs.Staging.{Transaction, put_refusal}
use Rattle.tx_stage.specs.declared.error.StageError.{StageError}
use Rattle.tx_stage.specs.declared.key.Key.TheVariants.{Object, Space}
use Rattle.tx_stage.specs.declared.look.Looked.{Looked}
use Rattle.tx_stage.specs.declared.look.Looked.TheVariants as look
use Rattle.tx_stage.specs.declared.op.Op.{Op}
use Rattle.tx_stage.specs.declared.touch.Touch.{Touch}

-- a transaction that touched these instead
abbrev pub retouched : List Touch → Transaction → Transaction
retouched ts x = record x { touched = ts }

abbrev pub scope : Transaction → ℕ → Scope
scope x paid = record { stage = Some x; paid = paid }

-- whatever was touched, a scope becomes this one, and this is decided
pub record Decides {R : Type 0} (step : List Touch → Scope × Decision R) : Type 0 where
  pub after : Transaction
  pub paid : ℕ
  pub decision : Decision R
  pub is : (ts : List Touch) → step ts ≡ (scope (retouched ts after) paid, decision)

-- the same for a key
abbrev pub IsSteady : {B R : Type 0} → (Scope → List ℕ → B → List Looked → Scope × Decision R) → Type 0
IsSteady {B} one = (x : Transaction) (paid : ℕ) (key : List ℕ) (b : B) (found : List Looked) → Decides (λ ts. one (scope (retouched ts x) paid) key b found)

-- ---- and for all keys, one after the other

record DecidesAll {R : Type 0} (states : List Touch → Scope) (all : List Touch → List (List ℕ × Decision R)) : Type 0 where
  after : Transaction
  paid : ℕ
  decisions : List (List ℕ × Decision R)
  left : (ts : List Touch) → states ts ≡ scope (retouched ts after) paid
  is : (ts : List Touch) → all ts ≡ decisions

module _ {B R : Type 0} (one : Scope → List ℕ → B → List Looked → Scope × Decision R) (width : ℕ) (steady : IsSteady one) where
  decides_all : (items : List (List ℕ × Decision B)) (x : Transaction) (paid : ℕ) (found : List Looked)
      → DecidesAll (λ ts. finished_state one width (scope (retouched ts x) paid) items found) (λ ts. finished one width (scope (retouched ts x) paid) items found)
  decides_all [] x paid found = record { after = x; paid = paid; decisions = []; left = λ ts. refl; is = λ ts. refl }
  decides_all ((k, Granted b) ∷ xs) x paid found =
      let s = steady x paid k b (take width found) in
      let r = decides_all xs s.after s.paid (drop width found) in
      record {
        after = r.after;
        paid = r.paid;
        decisions = (k, s.decision) ∷ r.decisions;
        left = λ ts. ap (λ (y : Scope × Decision R). finished_state one width y.0 xs (drop width found)) (s.is ts) ∙ r.left ts;
        is = λ ts. ap (λ (y : Scope × Decision R). (k, y.1) ∷ finished one width y.0 xs (drop width found)) (s.is ts) ∙ ap (λ (l : List (List ℕ × Decision R)). (k, s.decision) ∷ l) (r.is ts);
      }
  decides_all ((k, Refused c) ∷ xs) x paid found =
      let r = decides_all xs x paid (drop 0 found) in
      record {
        after = r.after;
        paid = r.paid;
        decisions = (k, Refused c) ∷ r.decisions;
        left = r.left;
        is = λ ts. ap (λ (l : List (List ℕ × Decision R)). (k, Refused c) ∷ l) (r.is ts);
      }

-- whatever was touched, a reply is the same, and leaves the transaction the same except for that
pub record Answers {M : Type 0} (answer : List Touch → Answered M) : Type 0 where
  pub after : Transaction
  pub sendings : List (Sending M)
  pub is : (ts : List Touch) → answer ts ≡ record { stage = Some (retouched ts after); sendings = sendings }

module _ {B R M : Type 0} (one : Scope → List ℕ → B → List Looked → Scope × Decision R) (width : ℕ) (response : List (List ℕ × R) → M) (steady : IsSteady one) where
  scoped : (x : Transaction) (items : List (List ℕ × Decision B)) (found : List Looked) → Answers (λ ts. scoped_reply one width response (Some (retouched ts x)) items found)
  scoped x items found =
      let r = decides_all one width steady items x 0 found in
      record {
        after = r.after;
        sendings = request_reply response r.decisions;
        is = λ ts. λ j. record { stage = (r.left ts j).stage; sendings = request_reply response (r.is ts j) };
      }

says : {M : Type 0} (x : Transaction) (sendings : List (Sending M)) → Answers (λ ts. record { stage = Some (retouched ts x); sendings = sendings })
says x sendings = record { after = x; sendings = sendings; is = λ ts. refl }

-- ---- payload

-- so much is counted then
abbrev counting : Bool → ℕ → ℕ → ℕ
counting true paid size = paid + size
counting false paid size = paid

paying-is : (x : Transaction) (paid size : ℕ) (b : Bool) → (if b then scope x (paid + size) else scope x paid) ≡ scope x (counting b paid size)
paying-is x paid size true = refl
paying-is x paid size false = refl

pays_then : {R : Type 0} (x : Transaction) (paid size : ℕ) (d : Decision R) → Decides (λ ts. (paying (scope (retouched ts x) paid) size, d))
pays_then x paid size d = record {
  after = x;
  paid = counting (pays (scope x paid) size) paid size;
  decision = d;
  is = λ ts. ap (λ (s : Scope). (s, d)) (paying-is (retouched ts x) paid size (pays (scope x paid) size));
}

leaves : {R : Type 0} (x : Transaction) (paid : ℕ) (d : Decision R) → Decides (λ ts. (scope (retouched ts x) paid, d))
leaves x paid d = record { after = x; paid = paid; decision = d; is = λ ts. refl }

-- ---- a further operation

left-same : (ts : List Touch) (x : Transaction) (o : Op) (why : Option StageError) → left_by why (retouched ts x) o ≡ retouched ts (left_by why x o)
left-same ts x o None = refl
left-same ts x o (Some e) = refl

staging-is : (ts : List Touch) (x : Transaction) (paid : ℕ) (o : Op) → staging (scope (retouched ts x) paid) o ≡ scope (retouched ts (put_left x o)) paid
staging-is ts x paid o = ap (λ (y : Transaction). scope y paid) (left-same ts x o (put_refusal x o))

-- a key's operation, if no look was refused and what it needs exists
putting_then : {R : Type 0} (x : Transaction) (paid : ℕ) (o : Op) (d : Decision R) (why : Option ErrorCode) (standing : Bool) → Decides (λ ts. (putting_by why standing (scope (retouched ts x) paid) o, d))
putting_then x paid o d (Some code) standing = leaves x paid d
putting_then x paid o d None false = leaves x paid d
putting_then x paid o d None true = record { after = put_left x o; paid = paid; decision = d; is = λ ts. ap (λ (s : Scope). (s, d)) (staging-is ts x paid o) }

-- ---- objects

object-same : (ts : List Touch) (x : Transaction) (u : StoreUri) (l : Option Looked) → objects.object_seen (Some (retouched ts x)) u l ≡ objects.object_seen (Some x) u l
object-same ts x u None = refl
object-same ts x u (Some (look.Object r)) = refl
object-same ts x u (Some look.Missing) = refl
object-same ts x u (Some (look.Refused code)) = refl
object-same ts x u (Some _) = refl

get_counted : (f : Format) (x : Transaction) (paid : ℕ) (d : Decision ObjectRecord) → Decides (λ ts. objects.get_counted f (scope (retouched ts x) paid) d)
get_counted f x paid (Refused code) = leaves x paid (Refused code)
get_counted f x paid (Granted r) = pays_then x paid (length r.payload) (objects.get_given f (pays (scope x paid) (length r.payload)) r)

-- what is decided about something seen, which is the same whatever was touched
seen_then : {X R : Type 0} (seen : List Touch → Decision X) (step : List Touch → Decision X → Scope × Decision R) (d : Decision X) → ((ts : List Touch) → seen ts ≡ d) → Decides (λ ts. step ts d) → Decides (λ ts. step ts (seen ts))
seen_then seen step d same r = record { after = r.after; paid = r.paid; decision = r.decision; is = λ ts. ap (step ts) (same ts) ∙ r.is ts }

object_got : (f : Format) → IsSteady (objects.get_one f)
object_got f x paid key u found =
    seen_then (λ ts. objects.object_seen (Some (retouched ts x)) u (slice_get found 0)) (λ ts d. objects.get_counted f (scope (retouched ts x) paid) d) (objects.object_seen (Some x) u (slice_get found 0))
    (λ ts. object-same ts x u (slice_get found 0)) (get_counted f x paid (objects.object_seen (Some x) u (slice_get found 0)))

object_put : (at : ℤ) → IsSteady (objects.staged_put at)
object_put at x paid key r found =
    let o = objects.set_object at r in
    putting_then x paid o (granted_unless (found_refusal (Some x) (Space r.uri.space) o found) objects.none_contained) (refused_look found) (stands (Some x) (Space r.uri.space) (is_first_seen found))

object_gone : (at : ℤ) → IsSteady (objects.staged_delete at)
object_gone at x paid key u found =
    let o = objects.remove_object at u in
    putting_then x paid o (granted_unless (found_refusal (Some x) (Object u) o found) (objects.removed u)) (refused_look found) (stands (Some x) (Object u) (is_first_seen found))

objects_seen : (x : Transaction) (p : ObjectPending) (found : List Looked) → Answers (λ ts. objects.looks_reply (Some (retouched ts x)) p found)
objects_seen x (keeps_object.Get f items) found = scoped (objects.get_one f) 1 objects.get_response (object_got f) x items found
objects_seen x (keeps_object.StagedPut at items) found = scoped (objects.staged_put at) 2 objects.put_response (object_put at) x items found
objects_seen x (keeps_object.StagedDelete at items) found = scoped (objects.staged_delete at) 1 objects.delete_response (object_gone at) x items found
objects_seen x (keeps_object.Put items) found = says x []
objects_seen x (keeps_object.Delete items) found = says x []

-- the answer to a request of objects
pub objects_answered : (x : Transaction) (p : ObjectPending) (found : List Looked) → Answers (λ ts. objects.object_reply (Some (retouched ts x)) p (reply.Looked found))
objects_answered x p found = objects_seen x p found

-- ---- arrays

array-same : (ts : List Touch) (x : Transaction) (k : ArrayKey) (l : Option Looked) → reading.array_seen (Some (retouched ts x)) k l ≡ reading.array_seen (Some x) k l
array-same ts x k None = refl
array-same ts x k (Some (look.Array r)) = refl
array-same ts x k (Some look.Missing) = refl
array-same ts x k (Some (look.Refused code)) = refl
array-same ts x k (Some _) = refl

counted : {R : Type 0} (make : ArrayRecord → Decision R) (x : Transaction) (paid : ℕ) (d : Decision ArrayRecord) → Decides (λ ts. reading.counted make (scope (retouched ts x) paid) d)
counted make x paid (Refused code) = leaves x paid (Refused code)
counted make x paid (Granted r) = pays_then x paid (size_of r.values) (reading.if_counted (pays (scope x paid) (size_of r.values)) (make r))

array_then : {R : Type 0} (x : Transaction) (k : ArrayKey) (l : Option Looked) (step : List Touch → Decision ArrayRecord → Scope × Decision R) → ((d : Decision ArrayRecord) → Decides (λ ts. step ts d))
    → Decides (λ ts. step ts (reading.array_seen (Some (retouched ts x)) k l))
array_then x k l step all = seen_then (λ ts. reading.array_seen (Some (retouched ts x)) k l) step (reading.array_seen (Some x) k l) (λ ts. array-same ts x k l) (all (reading.array_seen (Some x) k l))

array_got : (limit : ℕ) → IsSteady (reading.get_one limit)
array_got limit x paid key k found = array_then x k (slice_get found 0) (λ ts d. reading.got limit (scope (retouched ts x) paid) key d) (counted _ x paid)

array_shaped : (limit : ℕ) → IsSteady (reading.staged_shape limit)
array_shaped limit x paid key k found = array_then x k (slice_get found 0) (λ ts d. reading.described limit (scope (retouched ts x) paid) key d) (counted _ x paid)

cut_counted : (limit : ℕ) (key : List ℕ) (counts : List ℤ) (whole : AnyArray) (x : Transaction) (paid : ℕ) (d : Decision AnyArray) → Decides (λ ts. reading.cut_counted limit (scope (retouched ts x) paid) key counts whole d)
cut_counted limit key counts whole x paid (Refused code) = leaves x paid (Refused code)
cut_counted limit key counts whole x paid (Granted values) = pays_then x paid (size_of whole) _

cut_seen : (limit : ℕ) (key : List ℕ) (g : Region) (x : Transaction) (paid : ℕ) (d : Decision ArrayRecord) → Decides (λ ts. reading.cut_seen limit (scope (retouched ts x) paid) key g d)
cut_seen limit key g x paid (Refused code) = leaves x paid (Refused code)
cut_seen limit key g x paid (Granted r) = cut_counted limit key g.counts r.values x paid (reading.cut_out g r)

array_cut : (limit : ℕ) → IsSteady (reading.staged_slice limit)
array_cut limit x paid key g found = array_then x g.key (slice_get found 0) (λ ts d. reading.cut_seen limit (scope (retouched ts x) paid) key g d) (cut_seen limit key g x paid)

slice_got : (limit : ℕ) → IsSteady (reading.slice_one limit)
slice_got limit x paid key counts found = leaves x paid _

shape_got : (limit : ℕ) → IsSteady (reading.shape_one limit)
shape_got limit x paid key kept found = leaves x paid _

array_put : (at : ℤ) → IsSteady (changing.staged_put at)
array_put at x paid key a found =
    let o = changing.set_array at a in
    putting_then x paid o (granted_unless (found_refusal (Some x) (Object a.key.uri) o found) []) (refused_look found) (stands (Some x) (Object a.key.uri) (is_first_seen found))

patch_counted : (at : ℤ) (x : Transaction) (paid : ℕ) (a : ArrayPatch) (b : Bool) → Decides (λ ts. changing.patch_counted at (scope (retouched ts x) paid) a b)
patch_counted at x paid a false = leaves x paid (Refused LimitExceeded)
patch_counted at x paid a true =
    let o = changing.patch_array at a in
    let d : Decision (List ℕ) = granted_unless (stage_refusal (Some x) o) [] in
    record { after = put_left x o; paid = paid; decision = d; is = λ ts. ap (λ (s : Scope). let y : Scope × Decision (List ℕ) = (s, d) in y) (staging-is ts x paid o) }

patch_unless : (at : ℤ) (x : Transaction) (paid : ℕ) (a : ArrayPatch) (whole : AnyArray) (why : Option ErrorCode) → Decides (λ ts. changing.patch_unless at (scope (retouched ts x) paid) a whole why)
patch_unless at x paid a whole (Some code) = leaves x paid (Refused code)
patch_unless at x paid a whole None =
    let b = pays (scope x paid) (size_of whole) in
    let n = counting b paid (size_of whole) in
    let r = patch_counted at x n a b in
    record { after = r.after; paid = r.paid; decision = r.decision; is = λ ts. ap (λ (s : Scope). changing.patch_counted at s a b) (paying-is (retouched ts x) paid (size_of whole) b) ∙ r.is ts }

patch_seen : (at : ℤ) (a : ArrayPatch) (x : Transaction) (paid : ℕ) (d : Decision ArrayRecord) → Decides (λ ts. changing.patch_seen at (scope (retouched ts x) paid) a d)
patch_seen at a x paid (Refused code) = leaves x paid (Refused code)
patch_seen at a x paid (Granted r) = patch_unless at x paid a r.values (changing.patch_fault r a)

array_patched : (at : ℤ) → IsSteady (changing.staged_patch at)
array_patched at x paid key a found = array_then x a.key (slice_get found 0) (λ ts d. changing.patch_seen at (scope (retouched ts x) paid) a d) (patch_seen at a x paid)

-- the answer to a request of arrays
pub arrays_answered : (limit : ℕ) (x : Transaction) (p : ArrayPending) (found : List Looked) → Answers (λ ts. arrays.array_reply limit (Some (retouched ts x)) p (reply.Looked found))
arrays_answered limit x (keeps_array.Get items) found = scoped (reading.get_one limit) 1 reading.arrays_response (array_got limit) x items found
arrays_answered limit x (keeps_array.Slice items) found = scoped (reading.slice_one limit) 1 reading.slices_response (slice_got limit) x items found
arrays_answered limit x (keeps_array.StagedSlice items) found = scoped (reading.staged_slice limit) 1 reading.slices_response (array_cut limit) x items found
arrays_answered limit x (keeps_array.Shape items) found = scoped (reading.shape_one limit) 1 reading.metadata_response (shape_got limit) x items found
arrays_answered limit x (keeps_array.StagedShape items) found = scoped (reading.staged_shape limit) 1 reading.metadata_response (array_shaped limit) x items found
arrays_answered limit x (keeps_array.StagedPut what at items) found = scoped (changing.staged_put at) 2 (changing.change_response what) (array_put at) x items found
arrays_answered limit x (keeps_array.StagedPatch at items) found = scoped (changing.staged_patch at) 1 (changing.change_response change.Patch) (array_patched at) x items found
arrays_answered limit x (keeps_array.Change what items) found = says x []
