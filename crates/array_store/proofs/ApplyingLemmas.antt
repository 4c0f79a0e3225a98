-- A put, as an operation on each key.
use Rattle.std.proofs.Common.{Bool, true, false, cond, ◌≡◌, Option, Some, None, Result, Ok, Err, refl, sym, ap, ◌∙◌}
use Rattle.std.specs.Prelude.{OnOk, OnErr, IsOk}
use Rattle.std.proofs.lemmas.Bool.{false≢true}
use Rattle.array_store.specs.declared.error.ArrayError.{ArrayError}
use Rattle.array_store.specs.declared.key.ArrayKey.{ArrayKey}
use Rattle.array_store.specs.declared.record.ArrayRecord.{ArrayRecord}
use Rattle.array_store.specs.Refusals.{Refuses}
use Rattle.array_store.specs.Table.{Arrays, Sets, array_in, array_among, same_key, put_array}
use Rattle.array_store.specs.Operations.{put_unless}
use Rattle.array_store.proofs.KeyLemmas.{same_key-is}

-- a put at each key, by whether the record was refused
put_at : (old : Arrays) (key q : ArrayKey) (r : ArrayRecord) (b : Bool) → same_key q key ≡ b
    → cond b (Some (put_array (array_in old key) r)) (array_in old q) ≡ cond b (Some (put_array (array_in old q) r)) (array_in old q)
put_at old key q r true h = ap (λ k. Some (put_array (array_in old k) r)) (sym (same_key-is q key h))
put_at old key q r false h = refl

-- if nothing was refused, a key has the record as it was put; if it was, nothing changed
pub put_done : {X : Type 0} (result : Result X ArrayError) (refusal : Option ArrayError) (old new : Arrays) (key : ArrayKey) (r : ArrayRecord)
    → Refuses result refusal → OnOk result (Sets old new key (put_array (array_in old key) r)) → OnErr result (new.arrays ≡ old.arrays) → (refusal ≡ None → IsOk result)
    → (q : ArrayKey) → array_in new q ≡ cond (same_key q key) (put_unless refusal (array_in old q) r) (array_in old q)
put_done (Ok x) None old new key r done ok err succeeds q = ok q ∙ put_at old key q r (same_key q key) refl
put_done (Ok x) (Some e) old new key r done ok err succeeds q = absurd cc
put_done (Err e) None old new key r done ok err succeeds q = absurd (false≢true (succeeds refl))
put_done (Err e) (Some f) old new key r done ok err succeeds q = ap (λ es. array_among es q) err ∙ unchanged (same_key q key) (array_in old q)
  where
    unchanged : (b : Bool) (before : Option ArrayRecord) → before ≡ cond b before before
    unchanged true before = refl
    unchanged false before = refl
