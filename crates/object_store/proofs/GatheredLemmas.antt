-- Operations gathered from their end: what goes, and what is left to be done once that is gone.
use Rattle.std.proofs.Common.{ℕ, ◌-◌, ◌<◌, Bool, true, false, cond, ◌||◌, List, [], ◌∷◌, ◌++◌, length, ◌≡◌, Option, Some, None, refl, sym, ap, ◌∙◌, fold, arith, append_assoc, length-append}
use Rattle.std.specs.Cmp.Lexicographic.{nat_list_eq_equiv}
use Rattle.std.specs.Str.{bytes_eq}
use Rattle.std.proofs.lemmas.Bool.{false≢true, true≢false}
use Rattle.std.proofs.lemmas.List.Sums.{fold-append}
use Rattle.std.proofs.lemmas.Slice.Eq.{bytes_eq-Decides}
use Rattle.etp_values.proofs.ListLemmas.{end_of}
use Rattle.etp_values.specs.declared.uri.StoreUri.{StoreUri}
use Rattle.etp_values.specs.SameUri.{same_uri, same_uri-is}
use Rattle.object_store.specs.declared.op.ObjectOp.{ObjectOp}
use Rattle.object_store.specs.declared.op.ObjectOp.TheVariants.{SetSpace, DropSpace, SetObject, DropObject}
use Rattle.object_store.specs.declared.records.SpaceRecord.{SpaceRecord}
use Rattle.object_store.specs.declared.records.ObjectRecord.{ObjectRecord}
use Rattle.object_store.specs.Changes.{space_made, object_made, space_after, object_after}
use Rattle.object_store.specs.Going.{Going, goes, TakesToo, Turns, Gathering}

-- ---- one operation

module _ {R : Type 0} where
  -- a set of what is dropped later changes nothing
  set_gone : (here out : Bool) (put was : Option R) → (here ≡ true → out ≡ true) → cond out None was ≡ cond out None (cond here put was)
  set_gone true true put was gone = refl
  set_gone true false put was gone = absurd (false≢true (gone refl))
  set_gone false true put was gone = refl
  set_gone false false put was gone = refl

  -- a set of what stays can be done once all that goes is gone
  set_left : (here out : Bool) (put : Option R → R) (was : Option R) → (here ≡ true → out ≡ false)
      → cond here (Some (put (cond out None was))) (cond out None was) ≡ cond out None (cond here (Some (put was)) was)
  set_left true true put was stays = absurd (true≢false (stays refl))
  set_left true false put was stays = refl
  set_left false true put was stays = refl
  set_left false false put was stays = refl

  -- so can a removal
  drop_left : (here out : Bool) (was : Option R) → cond here None (cond out None was) ≡ cond out None (cond here None was)
  drop_left true true was = refl
  drop_left true false was = refl
  drop_left false true was = refl
  drop_left false false was = refl

  -- and what a dropped dataspace takes out may be taken out with the others
  drop_gone : (too here out new : Bool) (was : Option R) → too ≡ here → new ≡ (too || out) → cond new None was ≡ cond out None (cond here None was)
  drop_gone too here out new was same takes = ap (λ b. cond b None was) (takes ∙ ap (λ b. b || out) same) ∙ by here out
    where
      by : (here out : Bool) → cond (here || out) None was ≡ cond out None (cond here None was)
      by true true = refl
      by true false = refl
      by false out = refl

path_alike : (g : Going) (q path : List ℕ) (b : Bool) → goes g path ≡ b → bytes_eq q path ≡ true → goes g q ≡ b
path_alike g q path b h same = ap (goes g) ((bytes_eq-Decides q path).0 same) ∙ h

uri_alike : (g : Going) (q uri : StoreUri) (b : Bool) → goes g uri.space ≡ b → same_uri q uri ≡ true → goes g q.space ≡ b
uri_alike g q uri b h same = ap (λ (u : StoreUri). goes g u.space) (same_uri-is q uri same) ∙ h

pub space-gone : (g : Going) (r : SpaceRecord) (items : List ObjectOp) → goes g r.path ≡ true → Turns g g (SetSpace r) items items
space-gone g r items gone = record {
  put = [];
  items = refl;
  spaces = λ q was. set_gone (bytes_eq q r.path) (goes g q) (Some (space_made was r)) was (path_alike g q r.path true gone);
  objects = λ q was. refl;
}

pub space-left : (g : Going) (r : SpaceRecord) (items after : List ObjectOp) → goes g r.path ≡ false → after ≡ SetSpace r ∷ items → Turns g g (SetSpace r) items after
space-left g r items after stays pushed = record {
  put = SetSpace r ∷ [];
  items = pushed;
  spaces = λ q was. set_left (bytes_eq q r.path) (goes g q) (λ before. space_made before r) was (path_alike g q r.path false stays);
  objects = λ q was. refl;
}

pub object-gone : (g : Going) (r : ObjectRecord) (items : List ObjectOp) → goes g r.uri.space ≡ true → Turns g g (SetObject r) items items
object-gone g r items gone = record {
  put = [];
  items = refl;
  spaces = λ q was. refl;
  objects = λ q was. set_gone (same_uri q r.uri) (goes g q.space) (Some (object_made was r)) was (uri_alike g q r.uri true gone);
}

pub object-left : (g : Going) (r : ObjectRecord) (items after : List ObjectOp) → goes g r.uri.space ≡ false → after ≡ SetObject r ∷ items → Turns g g (SetObject r) items after
object-left g r items after stays pushed = record {
  put = SetObject r ∷ [];
  items = pushed;
  spaces = λ q was. refl;
  objects = λ q was. set_left (same_uri q r.uri) (goes g q.space) (λ before. object_made before r) was (uri_alike g q r.uri false stays);
}

pub removal-left : (g : Going) (uri : StoreUri) (items after : List ObjectOp) → after ≡ DropObject uri ∷ items → Turns g g (DropObject uri) items after
removal-left g uri items after pushed = record {
  put = DropObject uri ∷ [];
  items = pushed;
  spaces = λ q was. refl;
  objects = λ q was. drop_left (same_uri q uri) (goes g q.space) was;
}

pub drop-gone : (old new : Going) (path : List ℕ) (items : List ObjectOp) → TakesToo old new path → Turns old new (DropSpace path) items items
drop-gone old new path items takes = record {
  put = [];
  items = refl;
  spaces = λ q was. drop_gone (bytes_eq path q) (bytes_eq q path) (goes old q) (goes new q) was (nat_list_eq_equiv.symm path q) (takes q);
  objects = λ q was. drop_gone (bytes_eq path q.space) (bytes_eq q.space path) (goes old q.space) (goes new q.space) was (nat_list_eq_equiv.symm path q.space) (takes q.space);
}

-- ---- one more operation, at one key: by whether it was dropped before, and whether it is dropped now

module _ {R : Type 0} (step : Option R → ObjectOp → Option R) (old new : Bool) (o : ObjectOp) (put left front shorter ops : List ObjectOp) where
  turned-at : front ≡ shorter ++ o ∷ []
      → ((was : Option R) → fold step (cond new None was) put ≡ cond old None (step was o))
      → ((before : Option R) → fold step (cond old None (fold step before front)) left ≡ fold step before ops)
      → (before : Option R) → fold step (cond new None (fold step before shorter)) (put ++ left) ≡ fold step before ops
  turned-at split turns so_far before =
      fold-append step (cond new None (fold step before shorter)) put left
      ∙ ap (λ b. fold step b left) (turns (fold step before shorter))
      ∙ ap (λ b. fold step (cond old None b) left) (sym (fold-append step before shorter (o ∷ [])))
      ∙ ap (λ l. fold step (cond old None (fold step before l)) left) (sym split)
      ∙ so_far before

pub turned : (old new : Going) (o : ObjectOp) (items rest after : List ObjectOp) (n : ℕ) (ops : List ObjectOp) → 0 < n → items ≡ rest ++ o ∷ []
    → Turns old new o rest after → Gathering old items n ops → Gathering new after (n - 1) ops
turned old new o items rest after n ops some popped turns so_far =
    let long : 0 < length so_far.front = omega (arith, so_far.count) in
    let ends = end_of so_far.left so_far.front rest o long (sym so_far.split ∙ popped) in
    record {
      left = turns.put ++ so_far.left;
      front = ends.shorter;
      split = turns.items ∙ ap (λ l. turns.put ++ l) ends.before ∙ sym (append_assoc turns.put so_far.left ends.shorter);
      count = omega (arith, so_far.count, ap length ends.split, length-append ends.shorter (o ∷ []));
      spaces = λ path. turned-at (space_after path) (goes old path) (goes new path) o turns.put so_far.left so_far.front ends.shorter ops ends.split (turns.spaces path) (so_far.spaces path);
      objects = λ uri. turned-at (object_after uri) (goes old uri.space) (goes new uri.space) o turns.put so_far.left so_far.front ends.shorter ops ends.split (turns.objects uri) (so_far.objects uri);
    }

-- ---- the first

pub gathering-first : (g : Going) (items ops : List ObjectOp) (n : ℕ) → ((path : List ℕ) → goes g path ≡ false) → items ≡ ops → length ops ≡ n → Gathering g items n ops
gathering-first g items ops n none same long = record {
  left = [];
  front = ops;
  split = same;
  count = long;
  spaces = λ path before. ap (λ b. cond b None (fold (space_after path) before ops)) (none path);
  objects = λ uri before. ap (λ b. cond b None (fold (object_after uri) before ops)) (none uri.space);
}
