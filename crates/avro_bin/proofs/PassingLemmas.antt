-- Reading on without a value, as a loop does; for the crates above too.
use Rattle.std.proofs.Common.{◌≡◌, ℕ, suc, ◌-◌, ◌+◌, ◌≤◌, ◌<◌, true, false, cond, List, map, drop, Result, Ok, Err, refl, sym, ap, ◌∙◌, length, get_or}
use Rattle.std.proofs.lemmas.List.{drop_all, drop_more}
use Rattle.std.specs.Ordering.{nat_cmp}
use Rattle.std.specs.Cmp.Lexicographic.{slice_cmp}
use Rattle.std.specs.BTreeMap.{insert_entry}
use Rattle.avro_bin.specs.declared.fault.Why.{Why}
use Rattle.avro_bin.specs.declared.fault.Why.TheVariants as why
use Rattle.avro_bin.specs.declared.fault.Fault.{Fault}
use Rattle.avro_bin.specs.declared.fault.Fault.TheVariants as fault
use Rattle.avro_bin.specs.declared.schema.Node.{Node}
use Rattle.avro_bin.specs.declared.schema.Node.TheVariants as n
use Rattle.avro_bin.specs.Schema.{Schema, SUnion, schema, schemas, node_schema, IsTable}
use Rattle.avro_bin.specs.Reading.{Read, Got, ◌>>=◌, Fails, Gives, has, value_at, branch_at, text_at, place_at, count}
use Rattle.avro_bin.specs.Along.{along, put_at, pass_at, mark_at, pass_fields_at}
use Rattle.avro_bin.proofs.GroupLemmas.{ok_pair}
use Rattle.avro_bin.proofs.SchemaLemmas.{at_node}
use Rattle.avro_bin.proofs.StepLemmas.{Fails-then, Fails-same, count_is, branch_is, place_below}
use Rattle.avro_bin.proofs.AlongLemmas.{pass_union}

pub Fails-along : {A B : Type 0} (e : Fault) (f : A → B) (r : Read A) → Fails e r → Fails e (along f r)
Fails-along fault.Memory f r h = tt
Fails-along (fault.At w left) f r h = rw h refl

again : {A B C : Type 0} (e : Fault) (f : A → B) (g : A → C) (r : Read A) → Fails e (along f r) → Fails e (along g r)
again fault.Memory f g r h = tt
again (fault.At w left) f g (Ok x) h = absurd cc
again (fault.At w left) f g (Err e) h = cc

-- what fails when nothing is kept also fails when the value is marked
pub Fails-again : (value : ℕ → List ℕ → Read Got) (n : ℕ) (bytes : List ℕ) (e : Fault) → Fails e (pass_at value n bytes) → Fails e (mark_at value n bytes)
unfolding pass_at mark_at
Fails-again value n bytes e h = again e (λ x. x.1) _ (value n bytes) h

marked : (r : Read Got) (left : ℕ) (rest : List ℕ) → along (λ x. x.1) r ≡ Ok (left, rest) → along {B = Unit {0} × ℕ} (λ x. (tt, x.1)) r ≡ Ok ((tt, left), rest)
marked (Ok x) left rest h = let p = ok_pair {E = Why × ℕ} x.0.1 left x.1 rest h in cc
marked (Err e) left rest h = absurd cc

pub mark_is : (value : ℕ → List ℕ → Read Got) (n : ℕ) (bytes : List ℕ) (left : ℕ) (rest : List ℕ) → pass_at value n bytes ≡ Ok (left, rest) → mark_at value n bytes ≡ Ok ((tt, left), rest)
unfolding pass_at mark_at
mark_is value n bytes left rest h = marked (value n bytes) left rest h

pub pass_zero : (s : Schema) (bytes : List ℕ) → pass_at (value_at s) 0 bytes ≡ Err (why.Limit, length bytes)
unfolding pass_at value_at
pass_zero s bytes = refl

pub pass_node : (nodes : List Node) → IsTable nodes → (id count : ℕ) (bytes : List ℕ) (node : Node) → id < length nodes → get_or nodes id n.Null ≡ node → (count ≡ 0 → ⊥) → pass_at (value_at (schema nodes id)) count bytes ≡ pass_at (value_at (node_schema (schema nodes) node)) (suc (count - 1)) bytes
unfolding pass_at
pass_node nodes t id count bytes node there is some = ap (along (λ x. x.1)) (at_node nodes t id count bytes node there is some)

pub union_fails : (f : ℕ → Schema) (ps : List ℕ) (n : ℕ) (bytes : List ℕ) (e : Fault) → Fails e (place_at (length ps) bytes) → Fails e (pass_at (value_at (SUnion (schemas (map f ps)))) (suc n) bytes)
union_fails f ps n bytes e h =
    Fails-same e _ _ (Fails-then e (place_at (count (schemas (map f ps))) bytes) (λ b. pass_at (branch_at (schemas (map f ps)) b.0) n b.1) (rw count_is h)) (sym (pass_union (schemas (map f ps)) n bytes))

gives_same : {X A : Type 0} (view : X → A × List ℕ) (result : Result X Fault) (r s : Read A) → Gives view result r → r ≡ s → Gives view result s
gives_same view (Ok x) r s h same = sym same ∙ h
gives_same view (Err e) r s h same = Fails-same e r s h same

branch_same : (f : ℕ → Schema) (ps : List ℕ) (n b : ℕ) (after : List ℕ) → b < length ps → pass_at (value_at (f (get_or ps b 0))) n after ≡ pass_at (branch_at (schemas (map f ps)) b) n after
unfolding pass_at
branch_same f ps n b after lt = ap (along (λ x. x.1)) (sym (branch_is f ps b n after lt))

pub union_goes : {X : Type 0} (f : ℕ → Schema) (ps : List ℕ) (n : ℕ) (bytes : List ℕ) (b : ℕ) (after : List ℕ) (view : X → ℕ × List ℕ) (result : Result X Fault) → place_at (length ps) bytes ≡ Ok (b, after)
    → Gives view result (pass_at (value_at (f (get_or ps b 0))) n after) → Gives view result (pass_at (value_at (SUnion (schemas (map f ps)))) (suc n) bytes)
union_goes f ps n bytes b after view result h g =
    let lt : b < length ps = place_below (length ps) bytes b after h in
    let same : pass_at (value_at (SUnion (schemas (map f ps)))) (suc n) bytes ≡ pass_at (branch_at (schemas (map f ps)) b) n after =
    pass_union (schemas (map f ps)) n bytes ∙ rw (count_is, h) refl in
    gives_same view result _ _ g (branch_same f ps n b after lt ∙ sym same)

split : (f : ℕ → Schema) (ps : List ℕ) (i : ℕ) (n : ℕ) (bytes : List ℕ) (total : Read ℕ) → i < length ps → pass_fields_at (schemas (map f (drop i ps))) n bytes ≡ total
    → (pass_at (value_at (f (get_or ps i 0))) n bytes >>= λ x. pass_fields_at (schemas (map f (drop (i + 1) ps))) x.0 x.1) ≡ total
unfolding pass_fields_at
split f ps i n bytes total lt so_far = ap (λ (qs : List ℕ). pass_fields_at (schemas (map f qs)) n bytes) (sym (drop_more ps i 0 lt)) ∙ so_far

pub pass_next : (f : ℕ → Schema) (ps : List ℕ) (i : ℕ) (n : ℕ) (bytes : List ℕ) (x : ℕ × List ℕ) (total : Read ℕ) → i < length ps → pass_at (value_at (f (get_or ps i 0))) n bytes ≡ Ok x
    → pass_fields_at (schemas (map f (drop i ps))) n bytes ≡ total → pass_fields_at (schemas (map f (drop (i + 1) ps))) x.0 x.1 ≡ total
pass_next f ps i n bytes x total lt h so_far =
    let one : (pass_at (value_at (f (get_or ps i 0))) n bytes >>= λ x. pass_fields_at (schemas (map f (drop (i + 1) ps))) x.0 x.1) ≡ pass_fields_at (schemas (map f (drop (i + 1) ps))) x.0 x.1 = rw h refl in
    sym one ∙ split f ps i n bytes total lt so_far

pub pass_fail : (e : Fault) (f : ℕ → Schema) (ps : List ℕ) (i : ℕ) (n : ℕ) (bytes : List ℕ) (total : Read ℕ) → i < length ps → Fails e (pass_at (value_at (f (get_or ps i 0))) n bytes)
    → pass_fields_at (schemas (map f (drop i ps))) n bytes ≡ total → Fails e total
pass_fail e f ps i n bytes total lt h so_far =
    Fails-same e _ total (Fails-then e (pass_at (value_at (f (get_or ps i 0))) n bytes) (λ x. pass_fields_at (schemas (map f (drop (i + 1) ps))) x.0 x.1) h) (split f ps i n bytes total lt so_far)

pub pass_end : (f : ℕ → Schema) (ps : List ℕ) (i : ℕ) (n : ℕ) (bytes : List ℕ) (total : Read ℕ) → length ps ≤ i → pass_fields_at (schemas (map f (drop i ps))) n bytes ≡ total → total ≡ Ok (n, bytes)
unfolding pass_fields_at
pass_end f ps i n bytes total le so_far = sym so_far ∙ ap (λ (qs : List ℕ). pass_fields_at (schemas (map f qs)) n bytes) (drop_all i ps le)

-- ---- entries. For the crates above too.

module _ {A : Type 0} (value : ℕ → List ℕ → Read (A × ℕ)) (es : List (List ℕ × A)) (n : ℕ) (bytes : List ℕ) where
  pub put_no_key : (e : Fault) → Fails e (text_at bytes) → Fails e (put_at value (es, n) bytes)
  unfolding put_at
  put_no_key e h = Fails-then e (text_at bytes) (λ k. cond (has k.0 es) (Err (why.DoubleKey, length bytes)) (along (λ x. (insert_entry (slice_cmp nat_cmp) es k.0 x.0, x.1)) (value n k.1))) h

  pub put_double : (k after : List ℕ) → text_at bytes ≡ Ok (k, after) → has k es ≡ true → put_at value (es, n) bytes ≡ Err (why.DoubleKey, length bytes)
  unfolding put_at
  put_double k after h d = rw (h, d) refl

  pub put_fails : (e : Fault) (k after : List ℕ) → text_at bytes ≡ Ok (k, after) → has k es ≡ false → Fails e (value n after) → Fails e (put_at value (es, n) bytes)
  unfolding put_at
  put_fails e k after h d f =
      let one : put_at value (es, n) bytes ≡ along (λ x. (insert_entry (slice_cmp nat_cmp) es k x.0, x.1)) (value n after) = rw (h, d) refl in
      Fails-same e _ _ (Fails-along e (λ x. (insert_entry (slice_cmp nat_cmp) es k x.0, x.1)) (value n after) f) (sym one)

  pub put_is : (k after : List ℕ) (x : (A × ℕ) × List ℕ) → text_at bytes ≡ Ok (k, after) → has k es ≡ false → value n after ≡ Ok x → put_at value (es, n) bytes ≡ Ok ((insert_entry (slice_cmp nat_cmp) es k x.0.0, x.0.1), x.1)
  unfolding put_at
  put_is k after x h d f = rw (h, d, f) refl
