-- Reading is seen item by item. For the crates above too.
use Rattle.std.proofs.Common.{◌≡◌, ℕ, ℤ, pos, negsuc, zero, suc, ◌+◌, ◌==◌, Bool, true, false, cond, List, [], ◌∷◌, ◌++◌, map, length, Ok, Err, Option, Some, refl, sym, ap, ◌∙◌, append_assoc}
use Rattle.std.proofs.lemmas.List.{map_push, append-nil}
use Rattle.std.specs.Prelude.{is_some}
use Rattle.std.specs.Ordering.{nat_cmp, is_eq, match_ordering}
use Rattle.std.specs.declared.cmp.Ordering.{Ordering}
use Rattle.std.specs.declared.cmp.Ordering.TheVariants.{Less, Equal, Greater}
use Rattle.std.specs.Cmp.Lexicographic.{slice_cmp}
use Rattle.std.specs.Map.{lookup}
use Rattle.std.specs.BTreeMap.{is_at, insert_entry}
use Rattle.etp_values.specs.Entries.{on_value}
use Rattle.avro_bin.specs.declared.fault.Why.TheVariants as why
use Rattle.avro_bin.specs.Value.{Value, Values, VArray, VMap, VUnion, VFields, row, entries}
use Rattle.avro_bin.specs.Schema.{Schema, Schemas, SArray, SMap, SUnion, SFields, none, more}
use Rattle.avro_bin.specs.Reading.{Read, Got, Row, Names, ◌>>=◌, listed, mapped, in_branch, element_at, has, entry_at, value_at, fields_at, items_at, blocks_at, after_count, block_at, number_at, text_at, place_at, branch_at, count, sized, under, pushed}
use Rattle.avro_bin.specs.Along.{along, seen, push_at, put_at, pass_at, mark_at, pass_fields_at}

pub along_twice : {A B C : Type 0} (g : B → C) (f : A → B) (r : Read A) → along g (along f r) ≡ along (λ x. g (f x)) r
along_twice g f (Ok x) = refl
along_twice g f (Err e) = refl

-- after what is seen
pub along_then : {A B C D : Type 0} (f : A → B) (g : C → D) (r : Read A) (h : A × List ℕ → Read C) (k : B × List ℕ → Read D) → ((x : A × List ℕ) → k (f x.0, x.1) ≡ along g (h x)) → (along f r >>= k) ≡ along g (r >>= h)
along_then f g (Ok x) h k same = same x
along_then f g (Err e) h k same = refl

-- after what both read
pub then_along : {A C D : Type 0} (g : C → D) (r : Read A) (h : A × List ℕ → Read C) (k : A × List ℕ → Read D) → ((x : A × List ℕ) → k x ≡ along g (h x)) → (r >>= k) ≡ along g (r >>= h)
then_along g (Ok x) h k same = same x
then_along g (Err e) h k same = refl

pub cond_along : {A B : Type 0} (f : A → B) (b : Bool) (x y : Read A) → cond b (along f x) (along f y) ≡ along f (cond b x y)
cond_along f true x y = refl
cond_along f false x y = refl

sized_along : {S T : Type 0} (f : S → T) (left : ℕ) (z : ℤ) (before : ℕ) (r : Read S) → sized left z before (along f r) ≡ along f (sized left z before r)
sized_along f left (pos size) before (Ok x) = cond_along f (length x.1 + size == before) (Ok x) (Err (why.BlockSize, left))
sized_along f left (pos size) before (Err e) = refl
sized_along f left (negsuc n) before r = refl

module _ {S T : Type 0} (f : S → T) (item : S → List ℕ → Read S) (other : T → List ℕ → Read T) (step : (s : S) (bytes : List ℕ) → other (f s) bytes ≡ along f (item s bytes)) where
  pub items_along : (k : ℕ) (s : S) (bytes : List ℕ) → items_at other k (f s) bytes ≡ along f (items_at item k s bytes)
  unfolding items_at
  items_along zero s bytes = refl
  items_along (suc k) s bytes =
      ap (λ (r : Read T). r >>= λ x. items_at other k x.0 x.1) (step s bytes)
      ∙ along_then f f (item s bytes) (λ x. items_at item k x.0 x.1) (λ x. items_at other k x.0 x.1) (λ x. items_along k x.0 x.1)

  pub block_along : (s : S) (z : ℤ) (bytes : List ℕ) → block_at other (f s) z bytes ≡ along f (block_at item s z bytes)
  block_along s (pos k) bytes = items_along k s bytes
  block_along s (negsuc k) bytes =
      then_along f (number_at bytes) (λ size. sized (length bytes) size.0 (length size.1) (items_at item (suc k) s size.1)) (λ size. sized (length bytes) size.0 (length size.1) (items_at other (suc k) (f s) size.1))
      (λ size. ap (sized (length bytes) size.0 (length size.1)) (items_along (suc k) s size.1) ∙ sized_along f (length bytes) size.0 (length size.1) (items_at item (suc k) s size.1))

  after_along : (m : S → List ℕ → Read S) (n : T → List ℕ → Read T) → ((s : S) (bytes : List ℕ) → n (f s) bytes ≡ along f (m s bytes)) → (s : S) (z : ℤ) (bytes : List ℕ) → after_count other n (f s) z bytes ≡ along f (after_count item m s z bytes)
  after_along m n same s (pos zero) bytes = refl
  after_along m n same s (pos (suc k)) bytes =
      ap (λ (r : Read T). r >>= λ x. n x.0 x.1) (block_along s (pos (suc k)) bytes) ∙ along_then f f (block_at item s (pos (suc k)) bytes) (λ x. m x.0 x.1) (λ x. n x.0 x.1) (λ x. same x.0 x.1)
  after_along m n same s (negsuc k) bytes =
      ap (λ (r : Read T). r >>= λ x. n x.0 x.1) (block_along s (negsuc k) bytes) ∙ along_then f f (block_at item s (negsuc k) bytes) (λ x. m x.0 x.1) (λ x. n x.0 x.1) (λ x. same x.0 x.1)

  pub blocks_along : (k : ℕ) (s : S) (bytes : List ℕ) → blocks_at other k (f s) bytes ≡ along f (blocks_at item k s bytes)
  unfolding blocks_at
  blocks_along zero s bytes = refl
  blocks_along (suc k) s bytes =
      then_along f (number_at bytes) (λ count. after_count item (blocks_at item k) s count.0 count.1) (λ count. after_count other (blocks_at other k) (f s) count.0 count.1)
      (λ count. after_along (blocks_at item k) (blocks_at other k) (blocks_along k) s count.0 count.1)

-- ---- items

pub listed_is : (v : Values → Value) (r : Read Row) → listed v r ≡ along (λ s. (v (row s.0), s.1)) r
listed_is v (Ok x) = refl
listed_is v (Err e) = refl

pub mapped_is : (r : Read Names) → mapped r ≡ along (λ s. (VMap (entries s.0), s.1)) r
mapped_is (Ok x) = refl
mapped_is (Err e) = refl

pub in_branch_is : (b : ℕ) (r : Read Got) → in_branch b r ≡ along (λ x. (VUnion b x.0, x.1)) r
in_branch_is b (Ok x) = refl
in_branch_is b (Err e) = refl

-- values seen through f, item by item
pub push_along : {A : Type 0} (f : Value → A) (value : ℕ → List ℕ → Read Got) (other : ℕ → List ℕ → Read (A × ℕ)) → ((n : ℕ) (bytes : List ℕ) → other n bytes ≡ along (seen f) (value n bytes))
    → (s : Row) (bytes : List ℕ) → push_at other (seen (map f) s) bytes ≡ along (seen (map f)) (element_at value s bytes)
unfolding push_at element_at
push_along f value other same s bytes = ap (along (λ x. (map f s.0 ++ x.0 ∷ [], x.1))) (same s.1 bytes) ∙ tail (value s.1 bytes)
  where
    tail : (r : Read Got) → along (λ x. (map f s.0 ++ x.0 ∷ [], x.1)) (along (seen f) r) ≡ along (seen (map f)) (pushed s.0 r)
    tail (Ok x) = ap (λ vs. Ok ((vs, x.0.1), x.1)) (sym (map_push f s.0 x.0.0))
    tail (Err e) = refl

pub found_same : {X Y : Type 0} (b : Bool) (v : X) (w : Y) (r : Option X) (q : Option Y) → is_some r ≡ is_some q → is_some (cond b (Some v) r) ≡ is_some (cond b (Some w) q)
found_same true v w r q h = refl
found_same false v w r q h = h

pub has_along : {X Y : Type 0} (f : X → Y) (k : List ℕ) (es : List (List ℕ × X)) → has k (map (on_value f) es) ≡ has k es
has_along f k [] = refl
has_along f k (e ∷ es) = found_same (is_eq (slice_cmp nat_cmp k e.0)) (f e.1) e.1 (lookup (is_at (slice_cmp nat_cmp k)) (map (on_value f) es)) (lookup (is_at (slice_cmp nat_cmp k)) es) (has_along f k es)

pub map_chosen : {X Y : Type 0} (f : X → Y) (o : Ordering) (a b c : List X) → map f (match_ordering o a b c) ≡ match_ordering o (map f a) (map f b) (map f c)
map_chosen f Less a b c = refl
map_chosen f Equal a b c = refl
map_chosen f Greater a b c = refl

pub insert_along : {X Y : Type 0} (f : X → Y) (k : List ℕ) (x : X) (es : List (List ℕ × X)) → map (on_value f) (insert_entry (slice_cmp nat_cmp) es k x) ≡ insert_entry (slice_cmp nat_cmp) (map (on_value f) es) k (f x)
insert_along f k x [] = refl
insert_along {X} {Y} f k x (e ∷ es) =
    map_chosen (on_value f) (slice_cmp nat_cmp k e.0) ((k, x) ∷ e ∷ es) ((e.0, x) ∷ es) (e ∷ insert_entry (slice_cmp nat_cmp) es k x)
    ∙ ap (λ (r : List (List ℕ × Y)). match_ordering (slice_cmp nat_cmp k e.0) ((k, f x) ∷ on_value f e ∷ map (on_value f) es) ((e.0, f x) ∷ map (on_value f) es) (on_value f e ∷ r)) (insert_along f k x es)

under_along : {A : Type 0} (f : Value → A) (k : List ℕ) (es : List (List ℕ × Value)) (r : Read Got) → along (λ x. (insert_entry (slice_cmp nat_cmp) (map (on_value f) es) k x.0, x.1)) (along (seen f) r) ≡ along (seen (map (on_value f))) (under k es r)
under_along {A} f k es (Ok x) = ap (λ (fs : List (List ℕ × A)). Ok ((fs, x.0.1), x.1)) (sym (insert_along f k x.0.0 es))
under_along f k es (Err e) = refl

-- entries seen through f, one by one
pub put_along : {A : Type 0} (f : Value → A) (value : ℕ → List ℕ → Read Got) (other : ℕ → List ℕ → Read (A × ℕ)) → ((n : ℕ) (bytes : List ℕ) → other n bytes ≡ along (seen f) (value n bytes))
    → (s : Names) (bytes : List ℕ) → put_at other (seen (map (on_value f)) s) bytes ≡ along (seen (map (on_value f))) (entry_at value s bytes)
unfolding put_at entry_at
put_along {A} f value other same s bytes =
    then_along (seen (map (on_value f))) (text_at bytes)
    (λ k. cond (has k.0 s.0) (Err (why.DoubleKey, length bytes)) (under k.0 s.0 (value s.1 k.1)))
    (λ k. cond (has k.0 (map (on_value f) s.0)) (Err (why.DoubleKey, length bytes)) (along (λ x. (insert_entry (slice_cmp nat_cmp) (map (on_value f) s.0) k.0 x.0, x.1)) (other s.1 k.1)))
    (λ k.
    let refused : Read (List (List ℕ × A) × ℕ) = Err (why.DoubleKey, length bytes) in
    ap (λ (b : Bool). cond b refused (along (λ x. (insert_entry (slice_cmp nat_cmp) (map (on_value f) s.0) k.0 x.0, x.1)) (other s.1 k.1))) (has_along f k.0 s.0)
    ∙ ap (λ (r : Read (A × ℕ)). cond (has k.0 s.0) refused (along (λ x. (insert_entry (slice_cmp nat_cmp) (map (on_value f) s.0) k.0 x.0, x.1)) r)) (same s.1 k.1)
    ∙ ap (λ (r : Read (List (List ℕ × A) × ℕ)). cond (has k.0 s.0) refused r) (under_along f k.0 s.0 (value s.1 k.1))
    ∙ cond_along (seen (map (on_value f))) (has k.0 s.0) (Err (why.DoubleKey, length bytes)) (under k.0 s.0 (value s.1 k.1)))

-- ---- without a value

abbrev allowed : {A : Type 0} → A × ℕ → ℕ
allowed s = s.1

pass_along : (value : ℕ → List ℕ → Read Got) (s : Row) (bytes : List ℕ) → pass_at value s.1 bytes ≡ along allowed (element_at value s bytes)
unfolding pass_at element_at
pass_along value s bytes = tail (value s.1 bytes)
  where
    tail : (r : Read Got) → along (λ x. x.1) r ≡ along allowed (pushed s.0 r)
    tail (Ok x) = refl
    tail (Err e) = refl

pub pass_array : (s : Schema) (n : ℕ) (bytes : List ℕ) → pass_at (value_at (SArray s)) (suc n) bytes ≡ blocks_at (pass_at (value_at s)) (suc (length bytes)) n bytes
unfolding pass_at value_at
pass_array s n bytes =
    let r : Read Row = blocks_at (element_at (value_at s)) (suc (length bytes)) ([], n) bytes in
    ap (along (λ x. x.1)) (listed_is VArray r)
    ∙ along_twice (λ x. x.1) (λ s. (VArray (row s.0), s.1)) r
    ∙ sym (blocks_along allowed (element_at (value_at s)) (pass_at (value_at s)) (pass_along (value_at s)) (suc (length bytes)) ([], n) bytes)

pub pass_map : (s : Schema) (n : ℕ) (bytes : List ℕ) → pass_at (value_at (SMap s)) (suc n) bytes ≡ along (λ t. t.1) (blocks_at (put_at (mark_at (value_at s))) (suc (length bytes)) ([], n) bytes)
unfolding pass_at value_at mark_at
pass_map s n bytes =
    let r : Read Names = blocks_at (entry_at (value_at s)) (suc (length bytes)) ([], n) bytes in
    let f : Value → Unit {0} = λ v. tt in
    ap (along (λ x. x.1)) (mapped_is r)
    ∙ along_twice (λ x. x.1) (λ t. (VMap (entries t.0), t.1)) r
    ∙ sym (along_twice (λ t. t.1) (seen (map (on_value f))) r)
    ∙ ap (along (λ t. t.1)) (sym (blocks_along (seen (map (on_value f))) (entry_at (value_at s)) (put_at (mark_at (value_at s))) (put_along f (value_at s) (mark_at (value_at s)) (λ m b. refl)) (suc (length bytes)) ([], n) bytes))

pass_fields : (ss : Schemas) (s : Row) (bytes : List ℕ) → pass_fields_at ss s.1 bytes ≡ along allowed (fields_at ss s bytes)
unfolding pass_fields_at value_at
pass_fields none s bytes = refl
pass_fields (more c cs) s bytes =
    ap (λ (r : Read ℕ). r >>= λ x. pass_fields_at cs x.0 x.1) (pass_along (value_at c) s bytes)
    ∙ along_then allowed allowed (element_at (value_at c) s bytes) (λ x. fields_at cs x.0 x.1) (λ x. pass_fields_at cs x.0 x.1) (λ x. pass_fields cs x.0 x.1)

pub pass_record : (ss : Schemas) (n : ℕ) (bytes : List ℕ) → pass_at (value_at (SFields ss)) (suc n) bytes ≡ pass_fields_at ss n bytes
unfolding pass_at value_at
pass_record ss n bytes =
    let r : Read Row = fields_at ss ([], n) bytes in
    ap (along (λ x. x.1)) (listed_is VFields r) ∙ along_twice (λ x. x.1) (λ s. (VFields (row s.0), s.1)) r ∙ sym (pass_fields ss ([], n) bytes)

pub pass_union : (ss : Schemas) (n : ℕ) (bytes : List ℕ) → pass_at (value_at (SUnion ss)) (suc n) bytes ≡ (place_at (count ss) bytes >>= λ b. pass_at (branch_at ss b.0) n b.1)
unfolding pass_at value_at
pass_union ss n bytes =
    sym (then_along (λ x. x.1) (place_at (count ss) bytes) (λ b. in_branch b.0 (branch_at ss b.0 n b.1)) (λ b. along (λ x. x.1) (branch_at ss b.0 n b.1))
    (λ b. sym (ap (along (λ x. x.1)) (in_branch_is b.0 (branch_at ss b.0 n b.1)) ∙ along_twice (λ x. x.1) (λ x. (VUnion b.0 x.0, x.1)) (branch_at ss b.0 n b.1))))

-- ---- values of another type. For the crates above.

pub along_same : {A B : Type 0} (f g : A → B) (r : Read A) → ((x : A) → f x ≡ g x) → along f r ≡ along g r
along_same {A} {B} f g (Ok x) same = ap (λ (y : B). Ok (y, x.1)) (same x.0)
along_same f g (Err e) same = refl

abbrev pub Front : Schemas → Type 0
Front cs = (us : List Value) (n : ℕ) (bytes : List ℕ) → fields_at cs (us, n) bytes ≡ along (λ t. (us ++ t.0, t.1)) (fields_at cs ([], n) bytes)

front_more : (cs : Schemas) → Front cs → (us : List Value) (r : Read Got) → (pushed us r >>= λ x. fields_at cs x.0 x.1) ≡ along (λ t. (us ++ t.0, t.1)) (pushed [] r >>= λ x. fields_at cs x.0 x.1)
front_more cs front us (Err e) = refl
front_more cs front us (Ok x) =
    let q : Read Row = fields_at cs ([], x.0.1) x.1 in
    let one : List Value = x.0.0 ∷ [] in
    front (us ++ one) x.0.1 x.1
    ∙ along_same (λ t. ((us ++ one) ++ t.0, t.1)) (λ t. (us ++ (one ++ t.0), t.1)) q (λ t. ap (λ (vs : List Value). (vs, t.1)) (append_assoc us one t.0))
    ∙ sym (along_twice (λ t. (us ++ t.0, t.1)) (λ t. (one ++ t.0, t.1)) q)
    ∙ ap (along (λ t. (us ++ t.0, t.1))) (sym (front one x.0.1 x.1))

-- fields after others
pub fields_front : (ss : Schemas) → Front ss
unfolding value_at element_at
fields_front none us n bytes = ap (λ (vs : List Value). Ok ((vs, n), bytes)) (sym (append-nil us))
fields_front (more c cs) us n bytes = front_more cs (fields_front cs) us (value_at c n bytes)
