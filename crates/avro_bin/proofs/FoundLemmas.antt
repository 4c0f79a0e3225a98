-- What is read is spelled; for the crates above too.
use Rattle.std.proofs.Common.{◌≡◌, ℕ, zero, suc, ◌+◌, ◌<◌, ◌≤◌, Bool, true, false, List, [], ◌∷◌, ◌++◌, Ok, Err, ltb, eqb, cond, length, take, drop, refl, sym, ap, subst, ◌∙◌, arith, ◌⊎◌, inl, inr, ℤ, pos, negsuc, append_assoc}
use Rattle.std.proofs.lemmas.Bool.{ltb-true, ltb-false, eqb-true}
use Rattle.std.proofs.lemmas.List.{length-append, take-append-drop, length-take}
use Rattle.std.specs.Int.{Width, byte_len, from_le_bytes, w32, w64}
use Rattle.avro_bin.specs.declared.fault.Why.{Why}
use Rattle.avro_bin.specs.declared.fault.Why.TheVariants as why
use Rattle.avro_bin.specs.Value.{Value, Values, VNull, VBoolean, VInt, VLong, VFloat, VDouble, VBytes, VText, VFixed, VEnum, VArray, VMap, VUnion, VFields, entries, list, row, nodes}
use Rattle.avro_bin.specs.Schema.{Schema, Schemas, SNull, SBoolean, SInt, SLong, SFloat, SDouble, SBytes, SText, SFixed, SEnum, SArray, SMap, SUnion, SFields, none, more}
use Rattle.avro_bin.specs.Laws.{IsBytes}
use Rattle.avro_bin.specs.Number.{signed, Number}
use Rattle.avro_bin.specs.Reading.{Read, Got, Row, Names, ◌>>=◌, groups_at, placed, number_at, boolean_at, int_at, fits_32, bytes_at, blob_at, of_length, is_utf8, text_at, place_at, below, fixed_number_at, with, listed, mapped, pushed, element_at, under, entry_at, has, in_branch, places, count, value_at, fields_at, branch_at, items_at, block_at, blocks_at, after_count, sized}
use Rattle.avro_bin.specs.Grammar.{BytesSpelled, Items, Sized, Block, SomeBlocks, PlaceSpelled, EntrySpelled, InSomeOrder, Spells, AreFields, IsBranch}
use Rattle.avro_bin.proofs.GroupLemmas.{chosen, done, ok_is, ok_pair, Groups}
use Rattle.avro_bin.proofs.NumberLawLemmas.{IsBytes-rest, groups_found, groups_again}
use Rattle.avro_bin.proofs.StepLemmas.{bind_ok}
use Rattle.avro_bin.specs.Steps.{Push, Put, Steps}
use Rattle.avro_bin.proofs.OrderLemmas.{steps_append, steps_row, steps_names, sizes, sizes_named-permutation, nodes_entries, pairs-entries, sorted_none}
use Rattle.std.specs.List.Sorted.{IsPermutation}
use Rattle.std.specs.Ordering.{nat_cmp}
use Rattle.std.specs.Cmp.Lexicographic.{slice_cmp}
use Rattle.std.specs.BTreeMap.{insert_entry}
use Rattle.std.proofs.lemmas.List.{append-nil}

-- a prefix of the bytes has P
pub record Starts {A : Type 0} (P : A → List ℕ → Type 0) (bytes : List ℕ) (x : A) (rest : List ℕ) : Type 0 where
  pub text : List ℕ
  pub parts : bytes ≡ text ++ rest
  pub spelled : P x text

pub IsBytes-append : (text rest : List ℕ) → IsBytes (text ++ rest) → IsBytes rest
IsBytes-append [] rest h = h
IsBytes-append (b ∷ text) rest h = IsBytes-append text rest (IsBytes-rest b (text ++ rest) h)

placed_ok : (f : ℕ → ℤ) (left : ℕ) (r : Groups) (x : ℤ) (rest : List ℕ) → placed f left r ≡ Ok (x, rest) → (z : ℕ) × (r ≡ Ok (z, rest)) × (x ≡ f z)
placed_ok f left (Ok y) x rest e = let p = ok_pair {E = Why × ℕ} (f y.0) x y.1 rest e in (y.0, ap (λ (r : List ℕ). Ok (y.0, r)) p.1, sym p.0)
placed_ok f left (Err w) x rest e = absurd cc

pub number_found : (bytes : List ℕ) (x : ℤ) (rest : List ℕ) → IsBytes bytes → number_at bytes ≡ Ok (x, rest) → Starts Number bytes x rest
unfolding number_at
number_found bytes x rest fits e =
    let p = placed_ok signed (length bytes) (groups_at 10 bytes) x rest e in
    let f = groups_found 10 bytes p.0 rest fits p.1 in
    record {
      text = f.text;
      parts = f.parts;
      spelled = record { groups = f.groups; short = f.short; tenth = f.last 9 refl; value = p.2 ∙ ap signed f.value };
    }

pub number_again : (x : ℤ) (text rest : List ℕ) → Number x text → number_at (text ++ rest) ≡ Ok (x, rest)
unfolding number_at
number_again x text rest n =
    rw (groups_again 10 text rest n.groups n.short (λ i e. let nine : i ≡ 9 = omega arith in rw nine n.tenth)) (ap (λ (y : ℤ). Ok (y, rest)) (sym n.value))

-- a value, with its nodes
pub record Found {A : Type 0} (P : A → List ℕ → Type 0) (size : A → ℕ) (n : ℕ) (bytes : List ℕ) (x : A) (left : ℕ) (rest : List ℕ) : Type 0 where
  pub text : List ℕ
  pub parts : bytes ≡ text ++ rest
  pub spelled : P x text
  pub counted : n ≡ size x + left

pub triple_ok : {A B : Type 0} (a c : A) (m n : B) (b d : List ℕ) → done {A = (A × B) × List ℕ} {E = Why × ℕ} ((a, m), b) ≡ done ((c, n), d) → (a ≡ c) × (m ≡ n) × (b ≡ d)
triple_ok {A} {B} a c m n b d e =
    let p = ok_is {A = (A × B) × List ℕ} {E = Why × ℕ} ((a, m), b) ((c, n), d) e in
    (ap (λ (x : (A × B) × List ℕ). x.0.0) p, ap (λ (x : (A × B) × List ℕ). x.0.1) p, ap (λ (x : (A × B) × List ℕ). x.1) p)

pub with_ok : {A : Type 0} (n : ℕ) (v : A → Value) (r : Read A) (x : Value) (left : ℕ) (rest : List ℕ) → with n v r ≡ Ok ((x, left), rest) → (a : A) × (r ≡ Ok (a, rest)) × (v a ≡ x) × (n ≡ left)
with_ok n v (Ok y) x left rest e = let p = triple_ok (v y.0) x n left y.1 rest e in (y.0, ap (λ (r : List ℕ). Ok (y.0, r)) p.2, p.0, p.1)
with_ok n v (Err w) x left rest e = absurd cc

-- a leaf
pub leaf_found : {A : Type 0} (P : A → List ℕ → Type 0) (S : Value → List ℕ → Type 0) (v : A → Value) (r : Read A) (n : ℕ) (bytes : List ℕ) (x : Value) (left : ℕ) (rest : List ℕ)
    → ((a : A) (text : List ℕ) → P a text → S (v a) text) → ((a : A) → nodes (v a) ≡ 1) → ((a : A) (rest : List ℕ) → r ≡ Ok (a, rest) → Starts P bytes a rest)
    → with n v r ≡ Ok ((x, left), rest) → Found S nodes (suc n) bytes x left rest
leaf_found P S v r n bytes x left rest leads one starts e =
    let p = with_ok n v r x left rest e in
    let s = starts p.0 rest p.1 in
    let o = one p.0 in
    record { text = s.text; parts = s.parts; spelled = subst (λ (y : Value). S y s.text) p.2 (leads p.0 s.text s.spelled); counted = rw (← p.2) (omega (arith, o, p.3)) }

pub list_row : (vs : List Value) → list (row vs) ≡ vs
list_row [] = refl
list_row (v ∷ vs) = ap (λ (ws : List Value). v ∷ ws) (list_row vs)

pub ok_two : {A : Type 0} (a c : A) (b d : List ℕ) → done {A = A × List ℕ} {E = Why × ℕ} (a, b) ≡ done (c, d) → (a ≡ c) × (b ≡ d)
ok_two {A} a c b d e = ok_pair {E = Why × ℕ} a c b d e

-- what was read on: one item, and the step from what there was to what there is
pub record FoundOn {S A : Type 0} (P : A → List ℕ → Type 0) (Step : S → A → S → Type 0) (s : S) (bytes : List ℕ) (t : S) (rest : List ℕ) : Type 0 where
  pub item : A
  pub text : List ℕ
  pub parts : bytes ≡ text ++ rest
  pub spelled : P item text
  pub step : Step s item t

abbrev pub Finds : {S A : Type 0} → (S → List ℕ → Read S) → (A → List ℕ → Type 0) → (S → A → S → Type 0) → Type 0
Finds {S} {A} item P Step = (s : S) (bytes : List ℕ) (t : S) (rest : List ℕ) → IsBytes bytes → item s bytes ≡ Ok (t, rest) → FoundOn P Step s bytes t rest

pub after_text : (text mid bytes : List ℕ) → IsBytes bytes → bytes ≡ text ++ mid → IsBytes mid
after_text text mid bytes fits parts = IsBytes-append text mid (subst IsBytes parts fits)

pub items_found : {S A : Type 0} (item : S → List ℕ → Read S) (P : A → List ℕ → Type 0) (Step : S → A → S → Type 0) → Finds item P Step
    → (k : ℕ) (s : S) (bytes : List ℕ) (t : S) (rest : List ℕ) → IsBytes bytes → items_at item k s bytes ≡ Ok (t, rest) → FoundOn (λ xs b. Items P xs b × (length xs ≡ k)) (Steps Step) s bytes t rest
unfolding items_at
items_found item P Step one zero s bytes t rest fits e =
    let p = ok_two s t bytes rest e in
    record { item = []; text = []; parts = p.1; spelled = (refl, refl); step = p.0 }
items_found item P Step one (suc k) s bytes t rest fits e =
    let x = bind_ok (item s bytes) (λ x. items_at item k x.0 x.1) (t, rest) e in
    let f = one s bytes x.0.0 x.0.1 fits x.1 in
    let g = items_found item P Step one k x.0.0 x.0.1 t rest (after_text f.text x.0.1 bytes fits f.parts) x.2 in
    record {
      item = f.item ∷ g.item;
      text = f.text ++ g.text;
      parts = f.parts ∙ ap (λ (y : List ℕ). f.text ++ y) g.parts ∙ sym (append_assoc f.text g.text rest);
      spelled = (record { front = f.text; back = g.text; parts = refl; first = f.spelled; second = g.spelled.0 }, ap suc g.spelled.1);
      step = (x.0.0, f.step, g.step);
    }

pub listed_ok : (v : Values → Value) (r : Read Row) (x : Value) (left : ℕ) (rest : List ℕ) → listed v r ≡ Ok ((x, left), rest) → (vs : List Value) × (r ≡ Ok ((vs, left), rest)) × (v (row vs) ≡ x)
listed_ok v (Ok y) x left rest e = let p = triple_ok (v (row y.0.0)) x y.0.1 left y.1 rest e in (y.0.0, (rw (p.1, p.2) refl), p.0)
listed_ok v (Err w) x left rest e = absurd cc

pub mapped_ok : (r : Read Names) (x : Value) (left : ℕ) (rest : List ℕ) → mapped r ≡ Ok ((x, left), rest) → (es : List (List ℕ × Value)) × (r ≡ Ok ((es, left), rest)) × (VMap (entries es) ≡ x)
mapped_ok (Ok y) x left rest e = let p = triple_ok (VMap (entries y.0.0)) x y.0.1 left y.1 rest e in (y.0.0, (rw (p.1, p.2) refl), p.0)
mapped_ok (Err w) x left rest e = absurd cc

pub in_branch_ok : (b : ℕ) (r : Read Got) (x : Value) (left : ℕ) (rest : List ℕ) → in_branch b r ≡ Ok ((x, left), rest) → (v : Value) × (r ≡ Ok ((v, left), rest)) × (VUnion b v ≡ x)
in_branch_ok b (Ok y) x left rest e = let p = triple_ok (VUnion b y.0.0) x y.0.1 left y.1 rest e in (y.0.0, (rw (p.1, p.2) refl), p.0)
in_branch_ok b (Err w) x left rest e = absurd cc

pushed_ok : (vs : List Value) (r : Read Got) (t : Row) (rest : List ℕ) → pushed vs r ≡ Ok (t, rest) → (x : Got) × (r ≡ Ok (x, rest)) × (t.0 ≡ vs ++ x.0 ∷ []) × (t.1 ≡ x.1)
pushed_ok vs (Ok y) t rest e = let p = ok_two (vs ++ y.0.0 ∷ [], y.0.1) t y.1 rest e in (y.0, ap (λ (b : List ℕ). Ok (y.0, b)) p.1, ap (λ (r : Row). r.0) (sym p.0), ap (λ (r : Row). r.1) (sym p.0))
pushed_ok vs (Err w) t rest e = absurd cc

under_ok : (k : List ℕ) (es : List (List ℕ × Value)) (r : Read Got) (t : Names) (rest : List ℕ) → under k es r ≡ Ok (t, rest) → (x : Got) × (r ≡ Ok (x, rest)) × (t.0 ≡ insert_entry (slice_cmp nat_cmp) es k x.0) × (t.1 ≡ x.1)
under_ok k es (Ok y) t rest e = let p = ok_two (insert_entry (slice_cmp nat_cmp) es k y.0.0, y.0.1) t y.1 rest e in (y.0, ap (λ (b : List ℕ). Ok (y.0, b)) p.1, ap (λ (r : Names). r.0) (sym p.0), ap (λ (r : Names). r.1) (sym p.0))
under_ok k es (Err w) t rest e = absurd cc

abbrev pub FindsValue : (Value → List ℕ → Type 0) → (ℕ → List ℕ → Read Got) → Type 0
FindsValue P value = (n : ℕ) (bytes : List ℕ) (v : Value) (m : ℕ) (mid : List ℕ) → IsBytes bytes → value n bytes ≡ Ok ((v, m), mid) → Found P nodes n bytes v m mid

pub element_found : (P : Value → List ℕ → Type 0) (value : ℕ → List ℕ → Read Got) → FindsValue P value → Finds (element_at value) P Push
unfolding element_at
element_found P value one s bytes t rest fits e =
    let p = pushed_ok s.0 (value s.1 bytes) t rest e in
    let f = one s.1 bytes p.0.0 p.0.1 rest fits p.1 in
    record { item = p.0.0; text = f.text; parts = f.parts; spelled = f.spelled; step = (p.2, omega (arith, f.counted, p.3)) }

abbrev pub IsFlag : Bool → List ℕ → Type 0
IsFlag b t = t ≡ cond b 1 0 ∷ []

boolean_found : (bytes : List ℕ) (x : Bool) (rest : List ℕ) → boolean_at bytes ≡ Ok (x, rest) → Starts IsFlag bytes x rest
unfolding boolean_at
boolean_found [] x rest e = absurd cc
boolean_found (zero ∷ bytes) x rest e = let p = ok_pair {E = Why × ℕ} false x bytes rest e in record { text = 0 ∷ []; parts = ap (λ (t : List ℕ). 0 ∷ t) p.1; spelled = subst (λ (b : Bool). IsFlag b (0 ∷ [])) p.0 refl }
boolean_found (suc zero ∷ bytes) x rest e = let p = ok_pair {E = Why × ℕ} true x bytes rest e in record { text = 1 ∷ []; parts = ap (λ (t : List ℕ). 1 ∷ t) p.1; spelled = subst (λ (b : Bool). IsFlag b (1 ∷ [])) p.0 refl }
boolean_found (suc (suc b) ∷ bytes) x rest e = absurd cc

below_is : (left k : ℕ) (z : ℤ) (bytes : List ℕ) (b : ℕ) (rest : List ℕ) → below left k z bytes ≡ Ok (b, rest) → (z ≡ pos b) × (bytes ≡ rest) × (b < k)
below_is left k (negsuc z) bytes b rest e = absurd cc
below_is left k (pos z) bytes b rest e =
    elim (chosen (ltb z k) (Ok (z, bytes)) (Err (why.Branch, left)) (Ok (b, rest)) e) [
      | inl h ↦ let lt : z < k = ltb-true _ _ h.0 in let p = ok_pair {E = Why × ℕ} z b bytes rest h.1 in (ap pos p.0, p.1, omega arith)
      | inr h ↦ absurd (let bad : Err (why.Branch, left) ≡ done (b, rest) = h.1 in cc)
    ]

pub place_found : (symbols : ℕ) (bytes : List ℕ) (p : ℕ) (rest : List ℕ) → IsBytes bytes → place_at symbols bytes ≡ Ok (p, rest) → Starts (PlaceSpelled symbols) bytes p rest
unfolding place_at
place_found symbols bytes p rest fits e =
    let x = bind_ok (number_at bytes) (λ x. below (length bytes) (places symbols) x.0 x.1) (p, rest) e in
    let n = number_found bytes x.0.0 x.0.1 fits x.1 in
    let q = below_is (length bytes) (places symbols) x.0.0 x.0.1 p rest x.2 in
    record { text = n.text; parts = n.parts ∙ ap (λ (t : List ℕ). n.text ++ t) q.1; spelled = (subst (λ (z : ℤ). Number z n.text) q.0 n.spelled, q.2) }

bytes_found : (left size : ℕ) (bytes b rest : List ℕ) → bytes_at left size bytes ≡ Ok (b, rest) → (bytes ≡ b ++ rest) × (length b ≡ size)
unfolding bytes_at
bytes_found left size bytes b rest e =
    elim (chosen (ltb (length bytes) size) (Err (why.Short, left)) (Ok (take size bytes, drop size bytes)) (Ok (b, rest)) e) [
      | inl h ↦ absurd (let bad : Err (why.Short, left) ≡ done (b, rest) = h.1 in cc)
      | inr h ↦
          let p = ok_pair {E = Why × ℕ} (take size bytes) b (drop size bytes) rest h.1 in
          let le : size ≤ length bytes = ltb-false _ _ h.0 in
          (sym (take-append-drop size bytes) ∙ cc, ap length (sym p.0) ∙ omega (arith, length-take size bytes))
    ]

of_length_is : (left : ℕ) (z : ℤ) (bytes b rest : List ℕ) → of_length left z bytes ≡ Ok (b, rest) → (z ≡ pos (length b)) × (bytes ≡ b ++ rest)
of_length_is left (pos size) bytes b rest e = let p = bytes_found left size bytes b rest e in (ap pos (sym p.1), p.0)
of_length_is left (negsuc n) bytes b rest e = absurd cc

pub blob_found : (bytes b rest : List ℕ) → IsBytes bytes → blob_at bytes ≡ Ok (b, rest) → Starts BytesSpelled bytes b rest
unfolding blob_at
blob_found bytes b rest fits e =
    let x = bind_ok (number_at bytes) (λ x. of_length (length bytes) x.0 x.1) (b, rest) e in
    let n = number_found bytes x.0.0 x.0.1 fits x.1 in
    let q = of_length_is (length bytes) x.0.0 x.0.1 b rest x.2 in
    record {
      text = n.text ++ b;
      parts = n.parts ∙ ap (λ (t : List ℕ). n.text ++ t) q.1 ∙ sym (append_assoc n.text b rest);
      spelled = record { front = n.text; back = b; parts = refl; first = subst (λ (z : ℤ). Number z n.text) q.0 n.spelled; second = refl };
    }

pub text_found : (bytes b rest : List ℕ) → IsBytes bytes → text_at bytes ≡ Ok (b, rest) → Starts (λ b t. BytesSpelled b t × (is_utf8 b ≡ true)) bytes b rest
unfolding text_at
text_found bytes b rest fits e =
    let x = bind_ok (blob_at bytes) (λ x. cond (is_utf8 x.0) (Ok x) (Err (why.Utf8, length bytes))) (b, rest) e in
    elim (chosen (is_utf8 x.0.0) (Ok x.0) (Err (why.Utf8, length bytes)) (Ok (b, rest)) x.2) [
      | inl h ↦
          let p = ok_pair {E = Why × ℕ} x.0.0 b x.0.1 rest h.1 in
          let s = blob_found bytes x.0.0 x.0.1 fits x.1 in
          record { text = s.text; parts = s.parts ∙ ap (λ (t : List ℕ). s.text ++ t) p.1; spelled = (subst (λ (c : List ℕ). BytesSpelled c s.text) p.0 s.spelled, ap is_utf8 (sym p.0) ∙ h.0) }
      | inr h ↦ absurd (let bad : Err (why.Utf8, length bytes) ≡ done (b, rest) = h.1 in cc)
    ]

int_found : (bytes : List ℕ) (y : ℤ) (rest : List ℕ) → IsBytes bytes → int_at bytes ≡ Ok (y, rest) → Starts (λ y t. Number y t × (fits_32 y ≡ true)) bytes y rest
unfolding int_at
int_found bytes y rest fits e =
    let x = bind_ok (number_at bytes) (λ x. cond (fits_32 x.0) (Ok x) (Err (why.Range, length bytes))) (y, rest) e in
    elim (chosen (fits_32 x.0.0) (Ok x.0) (Err (why.Range, length bytes)) (Ok (y, rest)) x.2) [
      | inl h ↦
          let p = ok_pair {E = Why × ℕ} x.0.0 y x.0.1 rest h.1 in
          let s = number_found bytes x.0.0 x.0.1 fits x.1 in
          record { text = s.text; parts = s.parts ∙ ap (λ (t : List ℕ). s.text ++ t) p.1; spelled = (subst (λ (c : ℤ). Number c s.text) p.0 s.spelled, ap fits_32 (sym p.0) ∙ h.0) }
      | inr h ↦ absurd (let bad : Err (why.Range, length bytes) ≡ done (y, rest) = h.1 in cc)
    ]

fixed_found : (w : Width) (bytes : List ℕ) (x : ℕ) (rest : List ℕ) → fixed_number_at w bytes ≡ Ok (x, rest) → Starts (λ y t. (length t ≡ byte_len w) × (y ≡ from_le_bytes w t)) bytes x rest
unfolding fixed_number_at
fixed_found w bytes x rest e =
    elim (chosen (ltb (length bytes) (byte_len w)) (Err (why.Short, length bytes)) (Ok (from_le_bytes w (take (byte_len w) bytes), drop (byte_len w) bytes)) (Ok (x, rest)) e) [
      | inl h ↦ absurd (let bad : Err (why.Short, length bytes) ≡ done (x, rest) = h.1 in cc)
      | inr h ↦
          let p = ok_pair {E = Why × ℕ} (from_le_bytes w (take (byte_len w) bytes)) x (drop (byte_len w) bytes) rest h.1 in
          let le : byte_len w ≤ length bytes = ltb-false _ _ h.0 in
          let whole : bytes ≡ take (byte_len w) bytes ++ drop (byte_len w) bytes = sym (take-append-drop (byte_len w) bytes) in
          record { text = take (byte_len w) bytes; parts = whole ∙ ap (λ (t : List ℕ). take (byte_len w) bytes ++ t) p.1; spelled = (omega (arith, length-take (byte_len w) bytes), sym p.0) }
    ]

pub entry_found : (P : Value → List ℕ → Type 0) (value : ℕ → List ℕ → Read Got) → FindsValue P value → Finds (entry_at value) (EntrySpelled P) Put
unfolding entry_at
entry_found P value one s bytes t rest fits e =
    let k = bind_ok (text_at bytes) (λ k. cond (has k.0 s.0) (Err (why.DoubleKey, length bytes)) (under k.0 s.0 (value s.1 k.1))) (t, rest) e in
    let f = text_found bytes k.0.0 k.0.1 fits k.1 in
    elim (chosen (has k.0.0 s.0) (Err (why.DoubleKey, length bytes)) (under k.0.0 s.0 (value s.1 k.0.1)) (Ok (t, rest)) k.2) [
      | inl h ↦ absurd (let bad : Err (why.DoubleKey, length bytes) ≡ done (t, rest) = h.1 in cc)
      | inr h ↦
          let p = under_ok k.0.0 s.0 (value s.1 k.0.1) t rest h.1 in
          let g = one s.1 k.0.1 p.0.0 p.0.1 rest (after_text f.text k.0.1 bytes fits f.parts) p.1 in
          record {
            item = (k.0.0, p.0.0);
            text = f.text ++ g.text;
            parts = f.parts ∙ ap (λ (y : List ℕ). f.text ++ y) g.parts ∙ sym (append_assoc f.text g.text rest);
            spelled = record { front = f.text; back = g.text; parts = refl; first = f.spelled; second = g.spelled };
            step = (h.0, p.2, omega (arith, g.counted, p.3));
          }
    ]

-- what follows a count
abbrev pub Body : {A : Type 0} → (A → List ℕ → Type 0) → ℤ → List A → List ℕ → Type 0
Body P (pos k) us t = Items P us t × (length us ≡ k)
Body P (negsuc k) us t = Sized (Items P us) t × (length us ≡ suc k)

sized_ok : {S : Type 0} (left : ℕ) (z : ℤ) (before : ℕ) (r : Read S) (t : S) (mid : List ℕ) → sized left z before r ≡ Ok (t, mid) → (size : ℕ) × (z ≡ pos size) × (r ≡ Ok (t, mid)) × (length mid + size ≡ before)
sized_ok left (negsuc k) before (Ok x) t mid e = absurd cc
sized_ok left (negsuc k) before (Err w) t mid e = absurd cc
sized_ok left (pos size) before (Err w) t mid e = absurd cc
sized_ok left (pos size) before (Ok x) t mid e =
    elim (chosen (eqb (length x.1 + size) before) (Ok x) (Err (why.BlockSize, left)) (Ok (t, mid)) e) [
      | inl h ↦
          let p = ok_two x.0 t x.1 mid h.1 in
          let q : length x.1 + size ≡ before = eqb-true _ _ h.0 in
          (size, refl, h.1, ap (λ (t : List ℕ). length t + size) (sym p.1) ∙ q)
      | inr h ↦ absurd (let bad : Err (why.BlockSize, left) ≡ done (t, mid) = h.1 in cc)
    ]

pub block_found : {S A : Type 0} (item : S → List ℕ → Read S) (P : A → List ℕ → Type 0) (Step : S → A → S → Type 0) → Finds item P Step
    → (z : ℤ) (s : S) (bytes : List ℕ) (t : S) (mid : List ℕ) → IsBytes bytes → block_at item s z bytes ≡ Ok (t, mid) → FoundOn (Body P z) (Steps Step) s bytes t mid
block_found item P Step one (pos k) s bytes t mid fits e = items_found item P Step one k s bytes t mid fits e
block_found item P Step one (negsuc k) s bytes t mid fits e =
    let x = bind_ok (number_at bytes) (λ size. sized (length bytes) size.0 (length size.1) (items_at item (suc k) s size.1)) (t, mid) e in
    let f = number_found bytes x.0.0 x.0.1 fits x.1 in
    let q = sized_ok (length bytes) x.0.0 (length x.0.1) (items_at item (suc k) s x.0.1) t mid x.2 in
    let g = items_found item P Step one (suc k) s x.0.1 t mid (after_text f.text x.0.1 bytes fits f.parts) q.2 in
    let len : length x.0.1 ≡ length g.text + length mid = ap length g.parts ∙ length-append g.text mid in
    let size : q.0 ≡ length g.text = omega (arith, len, q.3) in
    let number : Number (pos (length g.text)) f.text = subst (λ (y : ℤ). Number y f.text) (q.1 ∙ ap pos size) f.spelled in
    let whole : bytes ≡ f.text ++ (g.text ++ mid) = f.parts ∙ ap (λ (t : List ℕ). f.text ++ t) g.parts in
    record {
      item = g.item;
      text = f.text ++ g.text;
      parts = whole ∙ sym (append_assoc f.text g.text mid);
      spelled = (record { size = f.text; back = g.text; parts = refl; number = number; inside = g.spelled.0 }, g.spelled.1);
      step = g.step;
    }

-- a nonzero count and its items are a block
pub body_block : {A : Type 0} (P : A → List ℕ → Type 0) (z : ℤ) (us : List A) (c t : List ℕ) → (z ≡ pos 0 → ⊥) → Number z c → Body P z us t → Block P us (c ++ t)
body_block P (pos zero) us c t some n b = absurd (some refl)
body_block P (pos (suc k)) [] c t some n b = absurd (omega (arith, b.1))
body_block P (negsuc k) [] c t some n b = absurd (omega (arith, b.1))
body_block P (pos (suc k)) (v ∷ vs) c t some n b = inl (record { front = c; back = t; parts = refl; first = subst (λ (y : ℕ). Number (pos y) c) (sym b.1) n; second = b.0 })
body_block P (negsuc k) (v ∷ vs) c t some n b = let e : k ≡ length vs = omega (arith, b.1) in inr (record { front = c; back = t; parts = refl; first = subst (λ (y : ℕ). Number (negsuc y) c) e n; second = b.0 })

abbrev pub after : {S : Type 0} → (S → List ℕ → Read S) → (S → List ℕ → Read S) → S → ℤ → List ℕ → Read S
after item rest s z bytes = block_at item s z bytes >>= λ block. rest block.0 block.1

pub zero_or_some : {S : Type 0} (item m : S → List ℕ → Read S) (s : S) (z : ℤ) (bytes : List ℕ) → ((z ≡ pos 0) × (after_count item m s z bytes ≡ Ok (s, bytes))) ⊎ ((z ≡ pos 0 → ⊥) × (after_count item m s z bytes ≡ after item m s z bytes))
zero_or_some item m s (pos zero) bytes = inl (refl, refl)
zero_or_some item m s (pos (suc k)) bytes = inr ((λ e. absurd cc), refl)
zero_or_some item m s (negsuc k) bytes = inr ((λ e. absurd cc), refl)

pub blocks_found : {S A : Type 0} (item : S → List ℕ → Read S) (P : A → List ℕ → Type 0) (Step : S → A → S → Type 0) → Finds item P Step
    → (bound : ℕ) (s : S) (bytes : List ℕ) (t : S) (rest : List ℕ) → IsBytes bytes → blocks_at item bound s bytes ≡ Ok (t, rest) → FoundOn (SomeBlocks P) (Steps Step) s bytes t rest
unfolding blocks_at
blocks_found item P Step one zero s bytes t rest fits e = absurd cc
blocks_found item P Step one (suc bound) s bytes t rest fits e =
    let c = bind_ok (number_at bytes) (λ count. after_count item (blocks_at item bound) s count.0 count.1) (t, rest) e in
    let f = number_found bytes c.0.0 c.0.1 fits c.1 in
    let mid_fits : IsBytes c.0.1 = after_text f.text c.0.1 bytes fits f.parts in
    elim (zero_or_some item (blocks_at item bound) s c.0.0 c.0.1) [
      | inl h ↦
          let p = ok_two s t c.0.1 rest (sym h.1 ∙ c.2) in
          record {
            item = [];
            text = f.text;
            parts = f.parts ∙ ap (λ (t : List ℕ). f.text ++ t) p.1;
            spelled = (0, (refl, subst (λ (y : ℤ). Number y f.text) h.0 f.spelled));
            step = p.0;
          }
      | inr h ↦
          let b = bind_ok (block_at item s c.0.0 c.0.1) (λ block. blocks_at item bound block.0 block.1) (t, rest) (sym h.1 ∙ c.2) in
          let g = block_found item P Step one c.0.0 s c.0.1 b.0.0 b.0.1 mid_fits b.1 in
          let r = blocks_found item P Step one bound b.0.0 b.0.1 t rest (after_text g.text b.0.1 c.0.1 mid_fits g.parts) b.2 in
          let whole : bytes ≡ (f.text ++ g.text) ++ (r.text ++ rest) = f.parts ∙ ap (λ (t : List ℕ). f.text ++ t) (g.parts ∙ ap (λ (t : List ℕ). g.text ++ t) r.parts) ∙ sym (append_assoc f.text g.text (r.text ++ rest)) in
          let block : Block P g.item (f.text ++ g.text) = body_block P c.0.0 g.item f.text g.text h.0 f.spelled g.spelled in
          record {
            item = g.item ++ r.item;
            text = (f.text ++ g.text) ++ r.text;
            parts = whole ∙ sym (append_assoc (f.text ++ g.text) r.text rest);
            spelled = (suc r.spelled.0, (g.item, r.item, refl, record { front = f.text ++ g.text; back = r.text; parts = refl; first = block; second = r.spelled.1 }));
            step = steps_append Step g.item r.item s b.0.0 t g.step r.step;
          }
    ]

mutual
  unfolding value_at

  pub value_found : (s : Schema) (n : ℕ) (bytes : List ℕ) (x : Value) (left : ℕ) (rest : List ℕ) → IsBytes bytes → value_at s n bytes ≡ Ok ((x, left), rest) → Found (Spells s) nodes n bytes x left rest
  value_found s zero bytes x left rest fits e = absurd cc
  value_found SNull (suc n) bytes x left rest fits e =
      let p = triple_ok VNull x n left bytes rest e in
      record { text = []; parts = p.2; spelled = subst (λ (y : Value). Spells SNull y []) p.0 refl; counted = rw (← p.0) (omega (arith, p.1)) }
  value_found SBoolean (suc n) bytes x left rest fits e = leaf_found IsFlag (Spells SBoolean) VBoolean (boolean_at bytes) n bytes x left rest (λ b t h. h) (λ b. refl) (λ b r h. boolean_found bytes b r h) e
  value_found SInt (suc n) bytes x left rest fits e = leaf_found (λ y t. Number y t × (fits_32 y ≡ true)) (Spells SInt) VInt (int_at bytes) n bytes x left rest (λ y t h. h) (λ y. refl) (λ y r h. int_found bytes y r fits h) e
  value_found SLong (suc n) bytes x left rest fits e = leaf_found Number (Spells SLong) VLong (number_at bytes) n bytes x left rest (λ y t h. h) (λ y. refl) (λ y r h. number_found bytes y r fits h) e
  value_found SFloat (suc n) bytes x left rest fits e = leaf_found (λ y t. (length t ≡ byte_len w32) × (y ≡ from_le_bytes w32 t)) (Spells SFloat) VFloat (fixed_number_at w32 bytes) n bytes x left rest (λ y t h. h) (λ y. refl) (λ y r h. fixed_found w32 bytes y r h) e
  value_found SDouble (suc n) bytes x left rest fits e = leaf_found (λ y t. (length t ≡ byte_len w64) × (y ≡ from_le_bytes w64 t)) (Spells SDouble) VDouble (fixed_number_at w64 bytes) n bytes x left rest (λ y t h. h) (λ y. refl) (λ y r h. fixed_found w64 bytes y r h) e
  value_found SBytes (suc n) bytes x left rest fits e = leaf_found BytesSpelled (Spells SBytes) VBytes (blob_at bytes) n bytes x left rest (λ y t h. h) (λ y. refl) (λ y r h. blob_found bytes y r fits h) e
  value_found SText (suc n) bytes x left rest fits e = leaf_found (λ y t. BytesSpelled y t × (is_utf8 y ≡ true)) (Spells SText) VText (text_at bytes) n bytes x left rest (λ y t h. h) (λ y. refl) (λ y r h. text_found bytes y r fits h) e
  value_found (SFixed size) (suc n) bytes x left rest fits e = leaf_found (λ y t. (t ≡ y) × (length y ≡ size)) (Spells (SFixed size)) VFixed (bytes_at (length bytes) size bytes) n bytes x left rest (λ y t h. h) (λ y. refl) (λ y r h. let q = bytes_found (length bytes) size bytes y r h in record { text = y; parts = q.0; spelled = (refl, q.1) }) e
  value_found (SEnum k) (suc n) bytes x left rest fits e = leaf_found (PlaceSpelled k) (Spells (SEnum k)) VEnum (place_at k bytes) n bytes x left rest (λ y t h. h) (λ y. refl) (λ y r h. place_found k bytes y r fits h) e
  value_found (SArray s) (suc n) bytes x left rest fits e =
      let p = listed_ok VArray (blocks_at (element_at (value_at s)) (suc (length bytes)) ([], n) bytes) x left rest e in
      let f = blocks_found (element_at (value_at s)) (Spells s) Push (element_found (Spells s) (value_at s) (λ m b v k mid f g. value_found s m b v k mid f g)) (suc (length bytes)) ([], n) bytes (p.0, left) rest fits p.1 in
      let q = steps_row f.item ([], n) (p.0, left) f.step in
      record {
        text = f.text;
        parts = f.parts;
        spelled = subst (λ (y : Value). Spells (SArray s) y f.text) p.2 (subst (λ (ws : List Value). SomeBlocks (Spells s) ws f.text) (sym q.0 ∙ sym (list_row p.0)) f.spelled);
        counted = rw (← p.2) (omega (arith, q.1, ap sizes q.0));
      }
  value_found (SMap s) (suc n) bytes x left rest fits e =
      let p = mapped_ok (blocks_at (entry_at (value_at s)) (suc (length bytes)) ([], n) bytes) x left rest e in
      let f = blocks_found (entry_at (value_at s)) (EntrySpelled (Spells s)) Put (entry_found (Spells s) (value_at s) (λ m b v k mid f g. value_found s m b v k mid f g)) (suc (length bytes)) ([], n) bytes (p.0, left) rest fits p.1 in
      let q = steps_names f.item ([], n) (p.0, left) sorted_none f.step in
      let perm : IsPermutation f.item p.0 = subst (λ (xs : List (List ℕ × Value)). IsPermutation xs p.0) (append-nil f.item) q.0 in
      record {
        text = f.text;
        parts = f.parts;
        spelled = subst (λ (y : Value). Spells (SMap s) y f.text) p.2 (subst (λ (es : List (List ℕ × Value)). InSomeOrder (SomeBlocks (EntrySpelled (Spells s))) es f.text) (sym (pairs-entries p.0)) (record { sorted = q.1; items = f.item; same = perm; spelled = f.spelled }));
        counted = rw (← p.2) (omega (arith, q.2, nodes_entries p.0, sizes_named-permutation f.item p.0 perm));
      }
  value_found (SUnion ss) (suc n) bytes x left rest fits e =
      let p = bind_ok (place_at (count ss) bytes) (λ b. in_branch b.0 (branch_at ss b.0 n b.1)) ((x, left), rest) e in
      let f = place_found (count ss) bytes p.0.0 p.0.1 fits p.1 in
      let q = in_branch_ok p.0.0 (branch_at ss p.0.0 n p.0.1) x left rest p.2 in
      let g = branch_found ss p.0.0 n p.0.1 q.0 left rest (IsBytes-append f.text p.0.1 (subst IsBytes f.parts fits)) q.1 in
      record {
        text = f.text ++ g.text;
        parts = f.parts ∙ ap (λ (t : List ℕ). f.text ++ t) g.parts ∙ sym (append_assoc f.text g.text rest);
        spelled = subst (λ (y : Value). Spells (SUnion ss) y (f.text ++ g.text)) q.2 (record { front = f.text; back = g.text; parts = refl; first = f.spelled; second = g.spelled });
        counted = rw (← q.2) (omega (arith, g.counted));
      }
  value_found (SFields ss) (suc n) bytes x left rest fits e =
      let p = listed_ok VFields (fields_at ss ([], n) bytes) x left rest e in
      let f = fields_found ss ([], n) bytes (p.0, left) rest fits p.1 in
      let q = steps_row f.item ([], n) (p.0, left) f.step in
      record {
        text = f.text;
        parts = f.parts;
        spelled = subst (λ (y : Value). Spells (SFields ss) y f.text) p.2 (subst (λ (ws : List Value). AreFields ss ws f.text) (sym q.0 ∙ sym (list_row p.0)) f.spelled);
        counted = rw (← p.2) (omega (arith, q.1, ap sizes q.0));
      }

  pub fields_found : (ss : Schemas) → Finds (fields_at ss) (AreFields ss) (Steps Push)
  fields_found none s bytes t rest fits e =
      let p = ok_two s t bytes rest e in
      record { item = []; text = []; parts = p.1; spelled = refl; step = p.0 }
  fields_found (more c cs) s bytes t rest fits e =
      let x = bind_ok (element_at (value_at c) s bytes) (λ x. fields_at cs x.0 x.1) (t, rest) e in
      let f = element_found (Spells c) (value_at c) (λ m b v k mid f g. value_found c m b v k mid f g) s bytes x.0.0 x.0.1 fits x.1 in
      let g = fields_found cs x.0.0 x.0.1 t rest (after_text f.text x.0.1 bytes fits f.parts) x.2 in
      record {
        item = f.item ∷ g.item;
        text = f.text ++ g.text;
        parts = f.parts ∙ ap (λ (y : List ℕ). f.text ++ y) g.parts ∙ sym (append_assoc f.text g.text rest);
        spelled = record { front = f.text; back = g.text; parts = refl; first = f.spelled; second = g.spelled };
        step = (x.0.0, f.step, g.step);
      }

  pub branch_found : (ss : Schemas) (b n : ℕ) (bytes : List ℕ) (x : Value) (left : ℕ) (rest : List ℕ) → IsBytes bytes → branch_at ss b n bytes ≡ Ok ((x, left), rest) → Found (IsBranch ss b) nodes n bytes x left rest
  branch_found none b n bytes x left rest fits e = absurd cc
  branch_found (more s ss) zero n bytes x left rest fits e = value_found s n bytes x left rest fits e
  branch_found (more s ss) (suc b) n bytes x left rest fits e = branch_found ss b n bytes x left rest fits e
