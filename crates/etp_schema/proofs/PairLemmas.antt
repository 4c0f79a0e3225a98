-- Names and values that are read as pairs, and put in order at the end, are what reading each into its place gives.
use Rattle.std.proofs.Common.{◌≡◌, ℕ, ℤ, zero, suc, pos, negsuc, ◌+◌, ◌==◌, Bool, true, false, cond, List, [], ◌∷◌, ◌++◌, length, Ok, Err, refl, sym, ap, subst, ◌∙◌}
use Rattle.std.specs.Ordering.{nat_cmp}
use Rattle.std.specs.Cmp.Lexicographic.{slice_cmp}
use Rattle.std.specs.List.Sorted.{IsPermutation}
use Rattle.std.specs.Map.{keys_of}
use Rattle.std.specs.BTreeMap.{insert_entry}
use Rattle.std.specs.Str.{bytes_eq}
use Rattle.std.proofs.lemmas.List.Sorted.{IsPermutation-refl, IsPermutation-trans, IsPermutation-sym, IsPermutation-cons, IsPermutation-to_front}
use Rattle.std.proofs.lemmas.Map.Keys.{IsDistinct-head, IsDistinct-tail}
use Rattle.avro_bin.specs.declared.fault.Fault.{Fault}
use Rattle.avro_bin.specs.declared.fault.Why.TheVariants as why
use Rattle.avro_bin.specs.Reading.{Read, ◌>>=◌, Fails, has, text_at, number_at, items_at, block_at, blocks_at, after_count, sized}
use Rattle.avro_bin.specs.Along.{along, push_at, put_at}
use Rattle.avro_bin.proofs.PassingLemmas.{Fails-along}
use Rattle.avro_bin.proofs.StepLemmas.{Fails-then, Fails-same}
use Rattle.etp_schema.specs.Reading.{pair_at}
use Rattle.etp_schema.proofs.ItemLemmas.{push_is, push_fails}
use Rattle.etp_schema.proofs.SortedLemmas.{Rise, Differ, none_rise, differ_if_rise, still_differ, not_found, insert_moves, insert_rises, one_order}

-- ---- one name and its value

module _ {A : Type 0} (value : ℕ → List ℕ → Read (A × ℕ)) (ps : List (List ℕ × A)) (n : ℕ) (bytes : List ℕ) where
  pub pair_no_name : (e : Fault) → Fails e (text_at bytes) → Fails e (push_at (pair_at value) (ps, n) bytes)
  unfolding pair_at
  pair_no_name e h = push_fails (pair_at value) ps n bytes e (Fails-then e (text_at bytes) (λ k. along (λ x. ((k.0, x.0), x.1)) (value n k.1)) h)

  pub pair_fails : (e : Fault) (k after : List ℕ) → text_at bytes ≡ Ok (k, after) → Fails e (value n after) → Fails e (push_at (pair_at value) (ps, n) bytes)
  unfolding pair_at
  pair_fails e k after h f =
      let one : pair_at value n bytes ≡ along (λ x. ((k, x.0), x.1)) (value n after) = rw h refl in
      push_fails (pair_at value) ps n bytes e (Fails-same e _ _ (Fails-along e (λ x. ((k, x.0), x.1)) (value n after) f) (sym one))

  pub pair_is : (k after : List ℕ) (x : (A × ℕ) × List ℕ) → text_at bytes ≡ Ok (k, after) → value n after ≡ Ok x → push_at (pair_at value) (ps, n) bytes ≡ Ok ((ps ++ (k, x.0.0) ∷ [], x.0.1), x.1)
  unfolding pair_at
  pair_is k after x h f =
      let one : pair_at value n bytes ≡ Ok (((k, x.0.0), x.0.1), x.1) = rw (h, f) refl in
      push_is (pair_at value) ps n bytes (((k, x.0.0), x.0.1), x.1) one

-- ---- two ways of reading on, of which the second refuses more

module _ {S T : Type 0} (Beside : S → T → Type 0) (Good : S → Type 0) where
  -- what was read onto s is good only if s is; and then the other way reads the same onto what is beside s
  abbrev Follows : S → Read S → (T → Read T) → Type 0
  Follows s (Ok x) other = Good x.0 → Good s × ((t : T) → Beside s t → (u : T) × Beside x.0 u × (other t ≡ Ok (u, x.1)))
  Follows s (Err e) other = Unit {0}

  -- one step after another
  follows_then : (s : S) (r : Read S) (other : T → Read T) (next : S × List ℕ → Read S) (after : T × List ℕ → Read T) → Follows s r other
      → ((x : S × List ℕ) → Follows x.0 (next x) (λ t. after (t, x.1))) → Follows s (r >>= next) (λ t. other t >>= after)
  follows_then s (Ok x) other next after one two = by (next x) (two x)
    where
      by : (r : Read S) → Follows x.0 r (λ t. after (t, x.1)) → Follows s r (λ t. other t >>= after)
      by (Ok y) both = λ good.
          let later = both good in
          let here = one later.0 in (
            here.0,
            λ t beside.
                let u = here.1 t beside in
                let w = later.1 u.0 u.1 in
                (w.0, w.1, ap (λ (r : Read T). r >>= after) u.2 ∙ w.2),
          )
      by (Err e) both = tt
  follows_then s (Err e) other next after one two = tt

  -- after what both ways read
  then_follows : {B : Type 0} (s : S) (r : Read B) (next : B × List ℕ → Read S) (after : T → B × List ℕ → Read T) → ((x : B × List ℕ) → Follows s (next x) (λ t. after t x))
      → Follows s (r >>= next) (λ t. r >>= after t)
  then_follows s (Ok x) next after two = two x
  then_follows s (Err e) next after two = tt

  -- a block that states its size
  sized_follows : (s : S) (left : ℕ) (z : ℤ) (before : ℕ) (r : Read S) (other : T → Read T) → Follows s r other → Follows s (sized left z before r) (λ t. sized left z before (other t))
  sized_follows s left (pos size) before (Ok x) other one = by (length x.1 + size == before) refl
    where
      by : (full : Bool) → (length x.1 + size == before) ≡ full → Follows s (cond full (Ok x) (Err (why.BlockSize, left))) (λ t. sized left (pos size) before (other t))
      by true e = λ good.
          let here = one good in (
            here.0,
            λ t beside.
                let u = here.1 t beside in
                (u.0, u.1, ap (sized left (pos size) before) u.2 ∙ ap (λ (full : Bool). cond full (Ok (u.0, x.1)) (Err (why.BlockSize, left))) e),
          )
      by false e = tt
  sized_follows s left (pos size) before (Err e) other one = tt
  sized_follows s left (negsuc n) before r other one = tt

  module _ (item : S → List ℕ → Read S) (put : T → List ℕ → Read T) (step : (s : S) (bytes : List ℕ) → Follows s (item s bytes) (λ t. put t bytes)) where
    items_follow : (k : ℕ) (s : S) (bytes : List ℕ) → Follows s (items_at item k s bytes) (λ t. items_at put k t bytes)
    unfolding items_at
    items_follow zero s bytes = λ good. (good, λ t beside. (t, beside, refl))
    items_follow (suc k) s bytes =
        follows_then s (item s bytes) (λ t. put t bytes) (λ x. items_at item k x.0 x.1) (λ x. items_at put k x.0 x.1) (step s bytes) (λ x. items_follow k x.0 x.1)

    block_follows : (s : S) (z : ℤ) (bytes : List ℕ) → Follows s (block_at item s z bytes) (λ t. block_at put t z bytes)
    block_follows s (pos k) bytes = items_follow k s bytes
    block_follows s (negsuc k) bytes =
        then_follows s (number_at bytes) (λ size. sized (length bytes) size.0 (length size.1) (items_at item (suc k) s size.1)) (λ t size. sized (length bytes) size.0 (length size.1) (items_at put (suc k) t size.1))
        (λ size. sized_follows s (length bytes) size.0 (length size.1) (items_at item (suc k) s size.1) (λ t. items_at put (suc k) t size.1) (items_follow (suc k) s size.1))

    after_follows : (m : S → List ℕ → Read S) (o : T → List ℕ → Read T) → ((s : S) (bytes : List ℕ) → Follows s (m s bytes) (λ t. o t bytes))
        → (s : S) (z : ℤ) (bytes : List ℕ) → Follows s (after_count item m s z bytes) (λ t. after_count put o t z bytes)
    after_follows m o same s (pos zero) bytes = λ good. (good, λ t beside. (t, beside, refl))
    after_follows m o same s (pos (suc k)) bytes =
        follows_then s (block_at item s (pos (suc k)) bytes) (λ t. block_at put t (pos (suc k)) bytes) (λ x. m x.0 x.1) (λ x. o x.0 x.1) (block_follows s (pos (suc k)) bytes) (λ x. same x.0 x.1)
    after_follows m o same s (negsuc k) bytes =
        follows_then s (block_at item s (negsuc k) bytes) (λ t. block_at put t (negsuc k) bytes) (λ x. m x.0 x.1) (λ x. o x.0 x.1) (block_follows s (negsuc k) bytes) (λ x. same x.0 x.1)

    blocks_follow : (k : ℕ) (s : S) (bytes : List ℕ) → Follows s (blocks_at item k s bytes) (λ t. blocks_at put k t bytes)
    unfolding blocks_at
    blocks_follow zero s bytes = tt
    blocks_follow (suc k) s bytes =
        then_follows s (number_at bytes) (λ count. after_count item (blocks_at item k) s count.0 count.1) (λ t count. after_count put (blocks_at put k) t count.0 count.1)
        (λ count. after_follows (blocks_at item k) (blocks_at put k) (blocks_follow k) s count.0 count.1)

-- ---- pairs, and entries in their places

-- the same pairs, in the order of their names, and as many nodes
abbrev Ordered : {A : Type 0} → List (List ℕ × A) × ℕ → List (List ℕ × A) × ℕ → Type 0
Ordered s t = IsPermutation s.0 t.0 × Rise t.0 × (s.1 ≡ t.1)

abbrev Apart : {A : Type 0} → List (List ℕ × A) × ℕ → Type 0
Apart s = Differ s.0

moved_front : {A : Type 0} (k : List ℕ) (v : A) (ps es : List (List ℕ × A)) → IsPermutation ps es → IsPermutation (ps ++ (k, v) ∷ []) ((k, v) ∷ es)
moved_front k v ps es moved = IsPermutation-trans _ _ _ (IsPermutation-to_front ps (k, v)) (IsPermutation-cons (k, v) ps es moved)

module _ {A : Type 0} (k : List ℕ) (v : A) (ps : List (List ℕ × A)) (apart : Differ (ps ++ (k, v) ∷ [])) where
  -- all but the last differ too
  front_apart : Differ ps
  front_apart = IsDistinct-tail bytes_eq k (keys_of ps) (still_differ (ps ++ (k, v) ∷ []) ((k, v) ∷ ps) (IsPermutation-to_front ps (k, v)) apart)

  -- the last is not among the others
  last_new : (es : List (List ℕ × A)) → IsPermutation ps es → has k es ≡ false
  last_new es moved = not_found k es (IsDistinct-head bytes_eq k (keys_of es) (still_differ (ps ++ (k, v) ∷ []) ((k, v) ∷ es) (moved_front k v ps es moved) apart))

  put_ordered : (es : List (List ℕ × A)) (n : ℕ) → IsPermutation ps es → Rise es → Ordered (ps ++ (k, v) ∷ [], n) (insert_entry (slice_cmp nat_cmp) es k v, n)
  put_ordered es n moved rise =
      let fresh = last_new es moved in
      (IsPermutation-trans _ _ _ (moved_front k v ps es moved) (insert_moves k v es fresh), insert_rises k v es fresh rise, refl)

value_follows : {A : Type 0} (s : List (List ℕ × A) × ℕ) (bytes k : List ℕ) (r : Read (A × ℕ)) (after : ℕ → Read (A × ℕ)) → after s.1 ≡ r
    → Follows Ordered Apart s (along (λ (x : (List ℕ × A) × ℕ). (s.0 ++ x.0 ∷ [], x.1)) (along (λ (x : A × ℕ). ((k, x.0), x.1)) r)) (λ t. cond (has k t.0) (Err (why.DoubleKey, length bytes)) (along (λ (x : A × ℕ). (insert_entry (slice_cmp nat_cmp) t.0 k x.0, x.1)) (after t.1)))
value_follows s bytes k (Ok x) after e = λ apart. (
  front_apart k x.0.0 s.0 apart,
  λ t beside. (
    (insert_entry (slice_cmp nat_cmp) t.0 k x.0.0, x.0.1),
    put_ordered k x.0.0 s.0 apart t.0 x.0.1 beside.0 beside.1,
    let same : after t.1 ≡ Ok x = ap after (sym beside.2) ∙ e in
        rw (last_new k x.0.0 s.0 apart t.0 beside.0, same) refl,
  ),
)
value_follows s bytes k (Err w) after e = tt

module _ {A : Type 0} (value : ℕ → List ℕ → Read (A × ℕ)) where
  pair_follows : (s : List (List ℕ × A) × ℕ) (bytes : List ℕ) → Follows Ordered Apart s (push_at (pair_at value) s bytes) (λ t. put_at value t bytes)
  unfolding push_at pair_at put_at
  pair_follows s bytes = by (text_at bytes)
    where
      by : (r : Read (List ℕ)) → Follows Ordered Apart s (along (λ (x : (List ℕ × A) × ℕ). (s.0 ++ x.0 ∷ [], x.1)) (r >>= λ k. along (λ (x : A × ℕ). ((k.0, x.0), x.1)) (value s.1 k.1)))
          (λ t. r >>= λ k. cond (has k.0 t.0) (Err (why.DoubleKey, length bytes)) (along (λ (x : A × ℕ). (insert_entry (slice_cmp nat_cmp) t.0 k.0 x.0, x.1)) (value t.1 k.1)))
      by (Ok k) = value_follows s bytes k.0 (value s.1 k.1) (λ n. value n k.1) refl
      by (Err e) = tt

  -- pairs that are read to the end, in the order of their names
  pub ordered_is : (n left : ℕ) (bytes rest : List ℕ) (ps named : List (List ℕ × A)) → blocks_at (push_at (pair_at value)) (suc (length bytes)) ([], n) bytes ≡ Ok ((ps, left), rest)
      → IsPermutation ps named → Rise named → blocks_at (put_at value) (suc (length bytes)) ([], n) bytes ≡ Ok ((named, left), rest)
  ordered_is n left bytes rest ps named read moved rise =
      let all = blocks_follow Ordered Apart (push_at (pair_at value)) (put_at value) pair_follows (suc (length bytes)) ([], n) bytes in
      let done = subst (λ (r : Read (List (List ℕ × A) × ℕ)). Follows Ordered Apart ([], n) r (λ t. blocks_at (put_at value) (suc (length bytes)) t bytes)) read all in
      let u = (done (still_differ named ps (IsPermutation-sym ps named moved) (differ_if_rise named rise))).1 ([], n) (IsPermutation-refl [], none_rise A, refl) in
      let same : u.0.0 ≡ named = one_order u.0.0 named u.1.1 rise (IsPermutation-trans u.0.0 ps named (IsPermutation-sym ps u.0.0 u.1.0) moved) in
      u.2 ∙ (λ j. Ok ((same j, sym u.1.2 j), rest))
