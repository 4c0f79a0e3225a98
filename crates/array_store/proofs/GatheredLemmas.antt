-- Operations gathered from their end: what goes, and what is left to be done once that is gone.
use Rattle.std.proofs.Common.{ℕ, ℤ, ◌-◌, ◌<◌, Bool, true, false, cond, ◌||◌, List, [], ◌∷◌, ◌++◌, length, ◌≡◌, Option, None, Result, Ok, Err, refl, sym, ap, ◌∙◌, fold, arith, append_assoc, length-append}
use Rattle.std.specs.Prelude.{OnOk, IsOk}
use Rattle.std.specs.Option.{option_map}
use Rattle.std.proofs.lemmas.Bool.{false≢true, true≢false}
use Rattle.std.proofs.lemmas.List.Sums.{fold-append}
use Rattle.etp_values.proofs.ListLemmas.{end_of}
use Rattle.etp_values.specs.declared.data.AnyArray.{AnyArray}
use Rattle.array_store.specs.declared.error.ArrayError.{ArrayError}
use Rattle.array_store.specs.declared.key.ArrayKey.{ArrayKey}
use Rattle.array_store.specs.declared.op.ArrayOp.{ArrayOp}
use Rattle.array_store.specs.declared.op.ArrayOp.TheVariants.{SetArray, PatchArray}
use Rattle.array_store.specs.declared.record.ArrayRecord.{ArrayRecord}
use Rattle.array_store.specs.Refusals.{record_refusal}
use Rattle.array_store.specs.Table.{same_key, patched_in_place}
use Rattle.array_store.specs.Operations.{array_after, put_unless}
use Rattle.array_store.specs.Going.{Going, goes, Turns, Gathering}
use Rattle.array_store.proofs.KeyLemmas.{same_key-is}

-- ---- one more removal

pub took-too : (too out rest : Bool) → (cond too true out || rest) ≡ (too || (out || rest))
took-too true out rest = refl
took-too false out rest = refl

pub of-done : {X E : Type 0} {P : Type 0} (r : Result X E) → IsOk r → OnOk r P → P
of-done (Ok x) is h = h
of-done (Err e) is h = absurd (false≢true is)

-- ---- one operation

-- a set whose array is removed later changes nothing
set_gone : (here out : Bool) (refusal : Option ArrayError) (r : ArrayRecord) (was : Option ArrayRecord) → (here ≡ true → out ≡ true)
    → cond out None was ≡ cond out None (cond here (put_unless refusal was r) was)
set_gone true true refusal r was gone = refl
set_gone true false refusal r was gone = absurd (false≢true (gone refl))
set_gone false true refusal r was gone = refl
set_gone false false refusal r was gone = refl

-- one whose array stays can be done once everything removed is gone
set_left : (here out : Bool) (refusal : Option ArrayError) (r : ArrayRecord) (was : Option ArrayRecord) → (here ≡ true → out ≡ false)
    → cond here (put_unless refusal (cond out None was) r) (cond out None was) ≡ cond out None (cond here (put_unless refusal was r) was)
set_left true true refusal r was stays = absurd (true≢false (stays refl))
set_left true false refusal r was stays = refl
set_left false true refusal r was stays = refl
set_left false false refusal r was stays = refl

goes_alike : (g : Going) (q key : ArrayKey) (b : Bool) → goes g key ≡ b → same_key q key ≡ true → goes g q ≡ b
goes_alike g q key b h same = ap (goes g) (same_key-is q key same) ∙ h

pub set-gone : (g : Going) (key : ArrayKey) (r : ArrayRecord) (items : List ArrayOp) → goes g key ≡ true → Turns g g (SetArray key r) items items
set-gone g key r items gone = record {
  put = [];
  items = refl;
  turns = λ q was. set_gone (same_key q key) (goes g q) (record_refusal r) r was (goes_alike g q key true gone);
}

pub set-left : (g : Going) (key : ArrayKey) (r : ArrayRecord) (items after : List ArrayOp) → goes g key ≡ false → after ≡ SetArray key r ∷ items → Turns g g (SetArray key r) items after
set-left g key r items after stays pushed = record {
  put = SetArray key r ∷ [];
  items = pushed;
  turns = λ q was. set_left (same_key q key) (goes g q) (record_refusal r) r was (goes_alike g q key false stays);
}

-- the same for a patch
patch_gone : (here out : Bool) (patch : ArrayRecord → ArrayRecord) (was : Option ArrayRecord) → (here ≡ true → out ≡ true)
    → cond out None was ≡ cond out None (cond here (option_map patch was) was)
patch_gone true true patch was gone = refl
patch_gone true false patch was gone = absurd (false≢true (gone refl))
patch_gone false out patch was gone = refl

patch_left : (here out : Bool) (patch : ArrayRecord → ArrayRecord) (was : Option ArrayRecord)
    → cond here (option_map patch (cond out None was)) (cond out None was) ≡ cond out None (cond here (option_map patch was) was)
patch_left true true patch was = refl
patch_left true false patch was = refl
patch_left false out patch was = refl

pub patch-gone : (g : Going) (key : ArrayKey) (at : ℤ) (ss cs : List ℤ) (values : AnyArray) (items : List ArrayOp) → goes g key ≡ true → Turns g g (PatchArray key at ss cs values) items items
patch-gone g key at ss cs values items gone = record {
  put = [];
  items = refl;
  turns = λ q was. patch_gone (same_key q key) (goes g q) (patched_in_place at ss cs values) was (goes_alike g q key true gone);
}

pub patch-left : (g : Going) (key : ArrayKey) (at : ℤ) (ss cs : List ℤ) (values : AnyArray) (items after : List ArrayOp) → after ≡ PatchArray key at ss cs values ∷ items
    → Turns g g (PatchArray key at ss cs values) items after
patch-left g key at ss cs values items after pushed = record {
  put = PatchArray key at ss cs values ∷ [];
  items = pushed;
  turns = λ q was. patch_left (same_key q key) (goes g q) (patched_in_place at ss cs values) was;
}

-- ---- one more operation

pub turned : (old new : Going) (o : ArrayOp) (items rest after : List ArrayOp) (n : ℕ) (ops : List ArrayOp) → 0 < n → items ≡ rest ++ o ∷ []
    → Turns old new o rest after → Gathering old items n ops → Gathering new after (n - 1) ops
turned old new o items rest after n ops some popped turns so_far =
    let long : 0 < length so_far.front = omega (arith, so_far.count) in
    let ends = end_of so_far.left so_far.front rest o long (sym so_far.split ∙ popped) in
    let step = λ (key : ArrayKey) (before : Option ArrayRecord). fold-append (array_after key) before ends.shorter (o ∷ []) in
    record {
      left = turns.put ++ so_far.left;
      front = ends.shorter;
      split = turns.items ∙ ap (λ l. turns.put ++ l) ends.before ∙ sym (append_assoc turns.put so_far.left ends.shorter);
      count = omega (arith, so_far.count, ap length ends.split, length-append ends.shorter (o ∷ []));
      gathers = λ key before.
          fold-append (array_after key) (cond (goes new key) None (fold (array_after key) before ends.shorter)) turns.put so_far.left
          ∙ ap (λ b. fold (array_after key) b so_far.left) (turns.turns key (fold (array_after key) before ends.shorter))
          ∙ ap (λ b. fold (array_after key) (cond (goes old key) None b) so_far.left) (sym (step key before))
          ∙ ap (λ l. fold (array_after key) (cond (goes old key) None (fold (array_after key) before l)) so_far.left) (sym ends.split)
          ∙ so_far.gathers key before;
    }
