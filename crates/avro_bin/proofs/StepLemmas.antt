-- Reading on, as a loop does; for the crates above too.
use Rattle.std.proofs.Common.{◌≡◌, ℕ, zero, suc, ◌-◌, ◌+◌, ◌≤◌, ◌<◌, true, false, List, [], ◌∷◌, ◌++◌, map, drop, Ok, Err, refl, sym, ap, ◌∙◌, arith, length, ℤ, pos, negsuc, FitsSigned, w64, of_z, get_or, add-one, drop-cons, ltb, cond, inl, inr}
use Rattle.std.proofs.lemmas.List.{drop_all}
use Rattle.std.specs.List.{AllByRecursion}
use Rattle.std.proofs.lemmas.Bool.{ltb-true}
use Rattle.std.specs.Ordering.{nat_cmp, is_eq, match_ordering}
use Rattle.std.specs.Cmp.Lexicographic.{slice_cmp}
use Rattle.std.specs.Map.{lookup}
use Rattle.std.specs.BTreeMap.{is_at, insert_entry}
use Rattle.avro_bin.specs.declared.fault.Why.{Why}
use Rattle.avro_bin.specs.declared.fault.Why.TheVariants as why
use Rattle.avro_bin.specs.declared.fault.Fault.{Fault}
use Rattle.avro_bin.specs.declared.fault.Fault.TheVariants as fault
use Rattle.avro_bin.specs.Schema.{Schema, schemas}
use Rattle.avro_bin.specs.Value.{Value, Values}
use Rattle.avro_bin.specs.View.{value_of, entry_of}
use Rattle.avro_bin.specs.declared.tree.Tree.{Tree}
use Rattle.avro_bin.proofs.AlongLemmas.{found_same, map_chosen}
use Rattle.avro_bin.proofs.GroupLemmas.{chosen, done, ok_pair}
use Rattle.avro_bin.specs.Reading.{Read, Got, Row, Names, ◌>>=◌, Fails, listed, mapped, in_branch, element_at, has, under, entry_at, value_at, fields_at, items_at, blocks_at, after_count, block_at, number_at, text_at, place_at, below, places, branch_at, count}

pub Fails-then : {A B : Type 0} (e : Fault) (r : Read A) (k : A × List ℕ → Read B) → Fails e r → Fails e (r >>= k)
Fails-then fault.Memory r k h = tt
Fails-then (fault.At w left) r k h = rw h refl

pub Fails-same : {A : Type 0} (e : Fault) (r s : Read A) → Fails e r → r ≡ s → Fails e s
Fails-same fault.Memory r s h same = tt
Fails-same (fault.At w left) r s h same = sym same ∙ h

pub Fails-listed : (e : Fault) (v : Values → Value) (r : Read Row) → Fails e r → Fails e (listed v r)
Fails-listed fault.Memory v r h = tt
Fails-listed (fault.At w left) v r h = rw h refl

pub Fails-mapped : (e : Fault) (r : Read Names) → Fails e r → Fails e (mapped r)
Fails-mapped fault.Memory r h = tt
Fails-mapped (fault.At w left) r h = rw h refl

pub Fails-in_branch : (e : Fault) (b : ℕ) (r : Read Got) → Fails e r → Fails e (in_branch b r)
Fails-in_branch fault.Memory b r h = tt
Fails-in_branch (fault.At w left) b r h = rw h refl

pub Fails-element : (e : Fault) (value : ℕ → List ℕ → Read Got) (s : Row) (bytes : List ℕ) → Fails e (value s.1 bytes) → Fails e (element_at value s bytes)
unfolding element_at
Fails-element fault.Memory value s bytes h = tt
Fails-element (fault.At w left) value s bytes h = rw h refl

pub element_is : (value : ℕ → List ℕ → Read Got) (vs : List Value) (n : ℕ) (bytes : List ℕ) (x : Got × List ℕ) → value n bytes ≡ Ok x → element_at value (vs, n) bytes ≡ Ok ((vs ++ x.0.0 ∷ [], x.0.1), x.1)
unfolding element_at
element_is value vs n bytes x h = rw h refl

module _ {S : Type 0} (item : S → List ℕ → Read S) where
  pub items_next : (count i : ℕ) (s : S) (bytes : List ℕ) (x : S × List ℕ) (total : Read S) → i < count → item s bytes ≡ Ok x → items_at item (count - i) s bytes ≡ total → items_at item (count - (i + 1)) x.0 x.1 ≡ total
  unfolding items_at
  items_next count i s bytes x total lt h so_far =
      let k : count - i ≡ suc (count - (i + 1)) = omega arith in
      let one : items_at item (count - i) s bytes ≡ items_at item (count - (i + 1)) x.0 x.1 = rw (k, h) refl in
      sym one ∙ so_far

  pub items_fail : (e : Fault) (count i : ℕ) (s : S) (bytes : List ℕ) (total : Read S) → i < count → Fails e (item s bytes) → items_at item (count - i) s bytes ≡ total → Fails e total
  unfolding items_at
  items_fail e count i s bytes total lt h so_far =
      let k : count - i ≡ suc (count - (i + 1)) = omega arith in
      let one : items_at item (count - i) s bytes ≡ (item s bytes >>= λ x. items_at item (count - (i + 1)) x.0 x.1) = ap (λ (j : ℕ). items_at item j s bytes) k in
      Fails-same e _ total (Fails-then e (item s bytes) (λ x. items_at item (count - (i + 1)) x.0 x.1) h) (sym one ∙ so_far)

  pub items_done : (count i : ℕ) (s : S) (bytes : List ℕ) (total : Read S) → count ≤ i → items_at item (count - i) s bytes ≡ total → total ≡ Ok (s, bytes)
  unfolding items_at
  items_done count i s bytes total le so_far =
      let k : count - i ≡ 0 = omega arith in
      sym so_far ∙ ap (λ (j : ℕ). items_at item j s bytes) k

  pub blocks_ends : (e : Fault) (len i : ℕ) (s : S) (bytes : List ℕ) (total : Read S) → i < len + 1 → Fails e (number_at bytes) → blocks_at item (suc len - i) s bytes ≡ total → Fails e total
  unfolding blocks_at
  blocks_ends e len i s bytes total lt h so_far =
      let k : suc len - i ≡ suc (len - i) = omega arith in
      Fails-same e _ total (Fails-then e (number_at bytes) (λ count. after_count item (blocks_at item (len - i)) s count.0 count.1) h) (sym (ap (λ (j : ℕ). blocks_at item j s bytes) k) ∙ so_far)

  pub blocks_stop : (len i : ℕ) (s : S) (bytes : List ℕ) (z : ℤ) (after : List ℕ) (total : Read S) → i < len + 1 → number_at bytes ≡ Ok (z, after) → z ≡ pos 0 → blocks_at item (suc len - i) s bytes ≡ total → total ≡ Ok (s, after)
  unfolding blocks_at
  blocks_stop len i s bytes z after total lt h zero_is so_far =
      let k : suc len - i ≡ suc (len - i) = omega arith in
      let one : blocks_at item (suc len - i) s bytes ≡ Ok (s, after) = rw (k, h, zero_is) refl in
      sym so_far ∙ one

  pub blocks_none : (len i : ℕ) (s : S) (bytes : List ℕ) (total : Read S) → len + 1 ≤ i → blocks_at item (suc len - i) s bytes ≡ total → total ≡ Err (why.Limit, length bytes)
  unfolding blocks_at
  blocks_none len i s bytes total le so_far =
      let k : suc len - i ≡ 0 = omega arith in
      sym so_far ∙ ap (λ (j : ℕ). blocks_at item j s bytes) k

  after_some : (m : S → List ℕ → Read S) (s : S) (z : ℤ) (bytes : List ℕ) → (of_z w64 z ≡ 0 → ⊥) → after_count item m s z bytes ≡ (block_at item s z bytes >>= λ block. m block.0 block.1)
  after_some m s (pos zero) bytes h = absurd (h refl)
  after_some m s (pos (suc k)) bytes h = refl
  after_some m s (negsuc k) bytes h = refl

  pub blocks_fail : (e : Fault) (len i : ℕ) (s : S) (bytes : List ℕ) (z : ℤ) (after : List ℕ) (total : Read S) → i < len + 1 → number_at bytes ≡ Ok (z, after) → (of_z w64 z ≡ 0 → ⊥) → Fails e (block_at item s z after) → blocks_at item (suc len - i) s bytes ≡ total → Fails e total
  unfolding blocks_at
  blocks_fail e len i s bytes z after total lt h some f so_far =
      let k : suc len - i ≡ suc (len - i) = omega arith in
      let one : blocks_at item (suc len - i) s bytes ≡ (block_at item s z after >>= λ block. blocks_at item (len - i) block.0 block.1) = rw (k, h) (after_some (blocks_at item (len - i)) s z after some) in
      Fails-same e _ total (Fails-then e (block_at item s z after) (λ block. blocks_at item (len - i) block.0 block.1) f) (sym one ∙ so_far)

  pub blocks_more : (len i : ℕ) (s : S) (bytes : List ℕ) (z : ℤ) (after : List ℕ) (x : S × List ℕ) (total : Read S) → i < len + 1 → number_at bytes ≡ Ok (z, after) → (of_z w64 z ≡ 0 → ⊥) → block_at item s z after ≡ Ok x → blocks_at item (suc len - i) s bytes ≡ total → blocks_at item (suc len - (i + 1)) x.0 x.1 ≡ total
  unfolding blocks_at
  blocks_more len i s bytes z after x total lt h some f so_far =
      let k : suc len - i ≡ suc (suc len - (i + 1)) = omega arith in
      let j : ℕ = suc len - (i + 1) in
      let one : blocks_at item (suc len - i) s bytes ≡ blocks_at item j x.0 x.1 = rw (k, h) (after_some (blocks_at item j) s z after some ∙ rw f refl) in
      sym one ∙ so_far

pub is_zero : (z : ℤ) → FitsSigned w64 z → of_z w64 z ≡ 0 → z ≡ pos 0
is_zero (pos k) f e = ap pos e
is_zero (negsuc k) f e = absurd (omega (arith, f.sfits, e))

pub count_is : (f : ℕ → Schema) (ps : List ℕ) → count (schemas (map f ps)) ≡ length ps
count_is f [] = refl
count_is f (p ∷ ps) = ap suc (count_is f ps)

pub branch_is : (f : ℕ → Schema) (ps : List ℕ) (b n : ℕ) (bytes : List ℕ) → b < length ps → branch_at (schemas (map f ps)) b n bytes ≡ value_at (f (get_or ps b 0)) n bytes
unfolding value_at
branch_is f [] b n bytes lt = absurd (omega arith)
branch_is f (p ∷ ps) zero n bytes lt = refl
branch_is f (p ∷ ps) (suc b) n bytes lt = branch_is f ps b n bytes (omega arith)

pub all_at : (P : ℕ → Type 0) (ps : List ℕ) (b : ℕ) → AllByRecursion P ps → b < length ps → P (get_or ps b 0)
all_at P [] b all lt = absurd (omega arith)
all_at P (p ∷ ps) zero all lt = all.0
all_at P (p ∷ ps) (suc b) all lt = all_at P ps b all.1 (omega arith)

-- the value of a step that did not fail
pub bind_ok : {A B : Type 0} (r : Read A) (f : A × List ℕ → Read B) (y : B × List ℕ) → (r >>= f) ≡ Ok y → (x : A × List ℕ) × (r ≡ Ok x) × (f x ≡ Ok y)
bind_ok (Ok x) f y e = (x, refl, e)
bind_ok (Err d) f y e = absurd cc

pub below_ok : (left k : ℕ) (z : ℤ) (bytes : List ℕ) (b : ℕ) (rest : List ℕ) → below left k z bytes ≡ Ok (b, rest) → b < k
below_ok left k (negsuc z) bytes b rest e = absurd cc
below_ok left k (pos z) bytes b rest e =
    elim (chosen (ltb z k) (Ok (z, bytes)) (Err (why.Branch, left)) (Ok (b, rest)) e) [
      | inl h ↦ let lt : z < k = ltb-true _ _ h.0 in let p = ok_pair {E = Why × ℕ} z b bytes rest h.1 in omega arith
      | inr h ↦ absurd (let bad : Err (why.Branch, left) ≡ done (b, rest) = h.1 in cc)
    ]

pub place_below : (k : ℕ) (bytes : List ℕ) (b : ℕ) (rest : List ℕ) → place_at k bytes ≡ Ok (b, rest) → b < k
unfolding place_at
place_below k bytes b rest e =
    let x = bind_ok (number_at bytes) (λ x. below (length bytes) (places k) x.0 x.1) (b, rest) e in
    let lt : b < places k = below_ok (length bytes) (places k) x.0.0 x.0.1 b rest x.2 in
    omega (arith, lt)

fields_split : (f : ℕ → Schema) (ps : List ℕ) (i : ℕ) (s : Row) (bytes : List ℕ) (total : Read Row) → i < length ps → fields_at (schemas (map f (drop i ps))) s bytes ≡ total
    → (element_at (value_at (f (get_or ps i 0))) s bytes >>= λ x. fields_at (schemas (map f (drop (i + 1) ps))) x.0 x.1) ≡ total
unfolding value_at
fields_split f ps i s bytes total lt so_far =
    let e : drop i ps ≡ get_or ps i 0 ∷ drop (i + 1) ps = rw (add-one, drop-cons ps i 0 lt) refl in
    ap (λ (qs : List ℕ). fields_at (schemas (map f qs)) s bytes) (sym e) ∙ so_far

pub fields_next : (f : ℕ → Schema) (ps : List ℕ) (i : ℕ) (s : Row) (bytes : List ℕ) (x : Row × List ℕ) (total : Read Row) → i < length ps → element_at (value_at (f (get_or ps i 0))) s bytes ≡ Ok x
    → fields_at (schemas (map f (drop i ps))) s bytes ≡ total → fields_at (schemas (map f (drop (i + 1) ps))) x.0 x.1 ≡ total
fields_next f ps i s bytes x total lt h so_far =
    let one : (element_at (value_at (f (get_or ps i 0))) s bytes >>= λ x. fields_at (schemas (map f (drop (i + 1) ps))) x.0 x.1) ≡ fields_at (schemas (map f (drop (i + 1) ps))) x.0 x.1 = rw h refl in
    sym one ∙ fields_split f ps i s bytes total lt so_far

pub fields_fail : (e : Fault) (f : ℕ → Schema) (ps : List ℕ) (i : ℕ) (s : Row) (bytes : List ℕ) (total : Read Row) → i < length ps → Fails e (element_at (value_at (f (get_or ps i 0))) s bytes)
    → fields_at (schemas (map f (drop i ps))) s bytes ≡ total → Fails e total
fields_fail e f ps i s bytes total lt h so_far =
    Fails-same e _ total (Fails-then e (element_at (value_at (f (get_or ps i 0))) s bytes) (λ x. fields_at (schemas (map f (drop (i + 1) ps))) x.0 x.1) h) (fields_split f ps i s bytes total lt so_far)

pub fields_end : (f : ℕ → Schema) (ps : List ℕ) (i : ℕ) (s : Row) (bytes : List ℕ) (total : Read Row) → length ps ≤ i → fields_at (schemas (map f (drop i ps))) s bytes ≡ total → total ≡ Ok (s, bytes)
unfolding value_at
fields_end f ps i s bytes total le so_far =
    let e : drop i ps ≡ [] = drop_all i ps le in
    sym so_far ∙ ap (λ (qs : List ℕ). fields_at (schemas (map f qs)) s bytes) e

-- ---- maps

pub has_map : (k : List ℕ) (es : List (List ℕ × Tree)) → has k (map entry_of es) ≡ has k es
has_map k [] = refl
has_map k (e ∷ es) = found_same (is_eq (slice_cmp nat_cmp k e.0)) (value_of e.1) e.1 (lookup (is_at (slice_cmp nat_cmp k)) (map entry_of es)) (lookup (is_at (slice_cmp nat_cmp k)) es) (has_map k es)

pub insert_map : (k : List ℕ) (t : Tree) (es : List (List ℕ × Tree)) → map entry_of (insert_entry (slice_cmp nat_cmp) es k t) ≡ insert_entry (slice_cmp nat_cmp) (map entry_of es) k (value_of t)
insert_map k t [] = refl
insert_map k t (e ∷ es) =
    map_chosen entry_of (slice_cmp nat_cmp k e.0) ((k, t) ∷ e ∷ es) ((e.0, t) ∷ es) (e ∷ insert_entry (slice_cmp nat_cmp) es k t)
    ∙ ap (λ (r : List (List ℕ × Value)). match_ordering (slice_cmp nat_cmp k e.0) ((k, value_of t) ∷ entry_of e ∷ map entry_of es) ((e.0, value_of t) ∷ map entry_of es) (entry_of e ∷ r)) (insert_map k t es)

pub Fails-under : (e : Fault) (k : List ℕ) (es : List (List ℕ × Value)) (r : Read Got) → Fails e r → Fails e (under k es r)
Fails-under fault.Memory k es r h = tt
Fails-under (fault.At w left) k es r h = rw h refl

module _ (value : ℕ → List ℕ → Read Got) (es : List (List ℕ × Value)) (n : ℕ) (bytes : List ℕ) where
  pub entry_no_key : (e : Fault) → Fails e (text_at bytes) → Fails e (entry_at value (es, n) bytes)
  unfolding entry_at
  entry_no_key e h = Fails-then e (text_at bytes) (λ k. cond (has k.0 es) (Err (why.DoubleKey, length bytes)) (under k.0 es (value n k.1))) h

  pub entry_double : (k after : List ℕ) → text_at bytes ≡ Ok (k, after) → has k es ≡ true → entry_at value (es, n) bytes ≡ Err (why.DoubleKey, length bytes)
  unfolding entry_at
  entry_double k after h d = rw (h, d) refl

  pub entry_fails : (e : Fault) (k after : List ℕ) → text_at bytes ≡ Ok (k, after) → has k es ≡ false → Fails e (value n after) → Fails e (entry_at value (es, n) bytes)
  unfolding entry_at
  entry_fails e k after h d f =
      let one : entry_at value (es, n) bytes ≡ under k es (value n after) = rw (h, d) refl in
      Fails-same e _ _ (Fails-under e k es (value n after) f) (sym one)

  pub entry_is : (k after : List ℕ) (x : Got × List ℕ) → text_at bytes ≡ Ok (k, after) → has k es ≡ false → value n after ≡ Ok x → entry_at value (es, n) bytes ≡ Ok ((insert_entry (slice_cmp nat_cmp) es k x.0.0, x.0.1), x.1)
  unfolding entry_at
  entry_is k after x h d f = rw (h, d, f) refl
