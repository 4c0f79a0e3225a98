-- What is refused fails in the same way.
use Rattle.std.proofs.Common.{◌≡◌, ℕ, zero, suc, ◌+◌, ◌<◌, Bool, true, false, List, [], ◌∷◌, ◌++◌, Result, Ok, Err, ltb, eqb, cond, length, take, drop, refl, sym, ap, subst, ◌∙◌, arith, ◌⊎◌, inl, inr, ℤ, pos, negsuc, append_assoc}
use Rattle.std.proofs.lemmas.Bool.{ltb-true, ltb-false}
use Rattle.avro_bin.specs.declared.fault.Why.{Why}
use Rattle.avro_bin.specs.declared.fault.Why.TheVariants as why
use Rattle.avro_bin.specs.Laws.{IsBytes}
use Rattle.avro_bin.specs.Number.{Number, signed}
use Rattle.avro_bin.specs.Value.{Value, Values, VBoolean, VInt, VLong, VFloat, VDouble, VBytes, VText, VFixed, VEnum, VArray, VFields}
use Rattle.avro_bin.specs.Steps.{Push, Put}
use Rattle.std.specs.Int.{Width, byte_len, w32, w64}
use Rattle.std.proofs.lemmas.List.{length-append}
use Rattle.std.proofs.lemmas.Bool.{eqb-false}
use Rattle.avro_bin.specs.Schema.{Schema, Schemas, SNull, SBoolean, SInt, SLong, SFloat, SDouble, SBytes, SText, SFixed, SEnum, SArray, SMap, SUnion, SFields, none, more}
use Rattle.avro_bin.specs.Grammar.{EntrySpelled, Spells}
use Rattle.avro_bin.specs.Reading.{Read, Got, Row, Names, ◌>>=◌, boolean_at, bytes_at, of_length, blob_at, is_utf8, text_at, fixed_number_at, element_at, pushed, entry_at, under, has, mapped, items_at, sized, block_at, blocks_at, after_count, placed, groups_at, number_at, int_at, fits_32, place_at, below, places, with, listed, in_branch, count, value_at, fields_at, branch_at}
use Rattle.avro_bin.specs.Failing.{Then, Refused, BadNumber, BadLength, BadBlob, BadText, BadBoolean, TooShort, NoPlace, BadPlace, EntryFails, ItemsFail, SizedFails, BlockFails, SomeFails, Fails, FieldsFail, BranchFails}
use Rattle.avro_bin.proofs.GroupLemmas.{chosen, done, Groups}
use Rattle.avro_bin.proofs.NumberFaultLemmas.{groups_fail}
use Rattle.avro_bin.proofs.FoundLemmas.{number_found, blob_found, text_found, place_found, value_found, element_found, entry_found, items_found, block_found, body_block, zero_or_some, after_text, Finds, IsBytes-append}
use Rattle.avro_bin.proofs.AgainLemmas.{number_long}

abbrev pub bad : {A : Type 0} → Why × ℕ → Result (A × List ℕ) (Why × ℕ)
bad e = Err e

err_is : {A : Type 0} (d e : Why × ℕ) → bad {A = A} d ≡ bad e → d ≡ e
err_is d e h = cc

pub err_pair : {A : Type 0} (v w : Why) (m n : ℕ) → bad {A = A} (v, m) ≡ bad (w, n) → (w ≡ v) × (n ≡ m)
err_pair {A} v w m n h = let p = err_is {A = A} (v, m) (w, n) h in (ap (λ (x : Why × ℕ). x.0) (sym p), ap (λ (x : Why × ℕ). x.1) (sym p))

bind_err : {A B : Type 0} (r : Read A) (f : A × List ℕ → Read B) (e : Why × ℕ) → (r >>= f) ≡ Err e → (r ≡ Err e) ⊎ ((x : A × List ℕ) × (r ≡ Ok x) × (f x ≡ Err e))
bind_err (Ok x) f e h = inr (x, refl, h)
bind_err {A} {B} (Err d) f e h = inl (ap (λ (y : Why × ℕ). bad {A = A} y) (err_is {A = B} d e h))

with_err : {A : Type 0} (n : ℕ) (v : A → Value) (r : Read A) (e : Why × ℕ) → with n v r ≡ Err e → r ≡ Err e
with_err n v (Ok y) e h = absurd cc
with_err {A} n v (Err d) e h = ap (λ (y : Why × ℕ). bad {A = A} y) (err_is {A = Got} d e h)

listed_err : (v : Values → Value) (r : Read Row) (e : Why × ℕ) → listed v r ≡ Err e → r ≡ Err e
listed_err v (Ok y) e h = absurd cc
listed_err v (Err d) e h = ap (λ (y : Why × ℕ). bad {A = Row} y) (err_is {A = Got} d e h)

in_branch_err : (b : ℕ) (r : Read Got) (e : Why × ℕ) → in_branch b r ≡ Err e → r ≡ Err e
in_branch_err b (Ok y) e h = absurd cc
in_branch_err b (Err d) e h = ap (λ (y : Why × ℕ). bad {A = Got} y) (err_is {A = Got} d e h)

placed_err : (left : ℕ) (r : Groups) (w : Why) (n : ℕ) → placed signed left r ≡ Err (w, n) → (r ≡ Err w) × (n ≡ left)
placed_err left (Ok x) w n h = absurd cc
placed_err left (Err v) w n h = let p = err_pair {A = ℤ} v w left n h in (ap (λ (y : Why). Err y) (sym p.0), p.1)

number_failed : (bytes : List ℕ) (w : Why) (left : ℕ) → number_at bytes ≡ Err (w, left) → BadNumber bytes w left
unfolding number_at
number_failed bytes w left h = let p = placed_err (length bytes) (groups_at 10 bytes) w left h in (groups_fail 9 bytes w p.0, p.1)

int_failed : (bytes : List ℕ) (w : Why) (left : ℕ) → IsBytes bytes → int_at bytes ≡ Err (w, left) → BadNumber bytes w left ⊎ (Then Number (λ x rest. fits_32 x ≡ false) bytes × Refused why.Range w bytes left)
unfolding int_at
int_failed bytes w left fits h =
    elim (bind_err (number_at bytes) (λ x. cond (fits_32 x.0) (Ok x) (Err (why.Range, length bytes))) (w, left) h) [
      | inl e ↦ inl (number_failed bytes w left e)
      | inr x ↦ elim (chosen (fits_32 x.0.0) (Ok x.0) (Err (why.Range, length bytes)) (Err (w, left)) x.2) [
        | inl c ↦ absurd (let no : done x.0 ≡ bad (w, left) = c.1 in cc)
        | inr c ↦
            let s = number_found bytes x.0.0 x.0.1 fits x.1 in
            inr (record { value = x.0.0; text = s.text; rest = x.0.1; parts = s.parts; spelled = s.spelled; behind = c.0 }, err_pair {A = ℤ} why.Range w (length bytes) left c.1)
      ]
    ]

mapped_err : (r : Read Names) (e : Why × ℕ) → mapped r ≡ Err e → r ≡ Err e
mapped_err (Ok y) e h = absurd cc
mapped_err (Err d) e h = ap (λ (y : Why × ℕ). bad {A = Names} y) (err_is {A = Got} d e h)

pushed_err : (vs : List Value) (r : Read Got) (e : Why × ℕ) → pushed vs r ≡ Err e → r ≡ Err e
pushed_err vs (Ok y) e h = absurd cc
pushed_err vs (Err d) e h = ap (λ (y : Why × ℕ). bad {A = Got} y) (err_is {A = Row} d e h)

under_err : (k : List ℕ) (es : List (List ℕ × Value)) (r : Read Got) (e : Why × ℕ) → under k es r ≡ Err e → r ≡ Err e
under_err k es (Ok y) e h = absurd cc
under_err k es (Err d) e h = ap (λ (y : Why × ℕ). bad {A = Got} y) (err_is {A = Names} d e h)

boolean_failed : (bytes : List ℕ) (w : Why) (left : ℕ) → boolean_at bytes ≡ Err (w, left) → BadBoolean bytes w left
unfolding boolean_at
boolean_failed [] w left h = err_pair {A = Bool} why.Short w 0 left h
boolean_failed (zero ∷ bytes) w left h = absurd cc
boolean_failed (suc zero ∷ bytes) w left h = absurd cc
boolean_failed (suc (suc b) ∷ bytes) w left h = (omega arith, err_pair {A = Bool} why.Bool w (suc (length bytes)) left h)

-- a test that fails, if the rest is read
tested : {A : Type 0} (b : Bool) (d : Why × ℕ) (y : A × List ℕ) (e : Why × ℕ) → cond b (Err d) (Ok y) ≡ Err e → (b ≡ true) × (bad {A = A} d ≡ bad e)
tested true d y e h = (refl, h)
tested {A} false d y e h = absurd (let no : done y ≡ bad {A = A} e = h in cc)

bytes_failed : (outer size : ℕ) (bytes : List ℕ) (w : Why) (left : ℕ) → bytes_at outer size bytes ≡ Err (w, left) → (length bytes < size) × (w ≡ why.Short) × (left ≡ outer)
unfolding bytes_at
bytes_failed outer size bytes w left h =
    let t = tested (ltb (length bytes) size) (why.Short, outer) (take size bytes, drop size bytes) (w, left) h in
    let p = err_pair {A = List ℕ} why.Short w outer left t.1 in
    (ltb-true _ _ t.0, p.0, p.1)

fixed_failed : (d : Width) (bytes : List ℕ) (w : Why) (left : ℕ) → fixed_number_at d bytes ≡ Err (w, left) → TooShort (byte_len d) bytes w left
unfolding fixed_number_at
fixed_failed d bytes w left h =
    let t = tested (ltb (length bytes) (byte_len d)) (why.Short, length bytes) _ (w, left) h in
    (ltb-true _ _ t.0, err_pair {A = ℕ} why.Short w (length bytes) left t.1)

length_failed : (outer : ℕ) (z : ℤ) (rest : List ℕ) (w : Why) (left : ℕ) → of_length outer z rest ≡ Err (w, left) → BadLength z rest w × (left ≡ outer)
length_failed outer (pos size) rest w left h = let p = bytes_failed outer size rest w left h in ((p.0, p.1), p.2)
length_failed outer (negsuc n) rest w left h = let p = err_pair {A = List ℕ} why.Length w outer left h in (p.0, p.1)

blob_failed : (bytes : List ℕ) (w : Why) (left : ℕ) → IsBytes bytes → blob_at bytes ≡ Err (w, left) → BadBlob bytes w left
unfolding blob_at
blob_failed bytes w left fits h =
    elim (bind_err (number_at bytes) (λ x. of_length (length bytes) x.0 x.1) (w, left) h) [
      | inl e ↦ inl (number_failed bytes w left e)
      | inr x ↦
          let s = number_found bytes x.0.0 x.0.1 fits x.1 in
          let p = length_failed (length bytes) x.0.0 x.0.1 w left x.2 in
          inr (record { value = x.0.0; text = s.text; rest = x.0.1; parts = s.parts; spelled = s.spelled; behind = p.0 }, p.1)
    ]

text_failed : (bytes : List ℕ) (w : Why) (left : ℕ) → IsBytes bytes → text_at bytes ≡ Err (w, left) → BadText bytes w left
unfolding text_at
text_failed bytes w left fits h =
    elim (bind_err (blob_at bytes) (λ b. cond (is_utf8 b.0) (Ok b) (Err (why.Utf8, length bytes))) (w, left) h) [
      | inl e ↦ inl (blob_failed bytes w left fits e)
      | inr x ↦ elim (chosen (is_utf8 x.0.0) (Ok x.0) (Err (why.Utf8, length bytes)) (Err (w, left)) x.2) [
        | inl c ↦ absurd (let no : done x.0 ≡ bad (w, left) = c.1 in cc)
        | inr c ↦
            let s = blob_found bytes x.0.0 x.0.1 fits x.1 in
            inr (record { value = x.0.0; text = s.text; rest = x.0.1; parts = s.parts; spelled = s.spelled; behind = c.0 }, err_pair {A = List ℕ} why.Utf8 w (length bytes) left c.1)
      ]
    ]

below_failed : (outer k : ℕ) (z : ℤ) (bytes : List ℕ) (w : Why) (left : ℕ) → below outer k z bytes ≡ Err (w, left) → NoPlace k z × (w ≡ why.Branch) × (left ≡ outer)
below_failed outer k (negsuc n) bytes w left h = let p = err_pair {A = ℕ} why.Branch w outer left h in (tt, p.0, p.1)
below_failed outer k (pos n) bytes w left h =
    elim (chosen (ltb n k) (Ok (n, bytes)) (Err (why.Branch, outer)) (Err (w, left)) h) [
      | inl c ↦ absurd (let no : done (n, bytes) ≡ bad (w, left) = c.1 in cc)
      | inr c ↦ let p = err_pair {A = ℕ} why.Branch w outer left c.1 in (ltb-false _ _ c.0, p.0, p.1)
    ]

place_failed : (k : ℕ) (bytes : List ℕ) (w : Why) (left : ℕ) → IsBytes bytes → place_at k bytes ≡ Err (w, left) → BadPlace k bytes w left
unfolding place_at
place_failed k bytes w left fits h =
    elim (bind_err (number_at bytes) (λ x. below (length bytes) (places k) x.0 x.1) (w, left) h) [
      | inl e ↦ inl (number_failed bytes w left e)
      | inr x ↦
          let s = number_found bytes x.0.0 x.0.1 fits x.1 in
          let p = below_failed (length bytes) (places k) x.0.0 x.0.1 w left x.2 in
          inr (record { value = x.0.0; text = s.text; rest = x.0.1; parts = s.parts; spelled = s.spelled; behind = p.0 }, (p.1, p.2))
    ]

abbrev pub Refuses : {S : Type 0} → (S → List ℕ → Read S) → (S → List ℕ → Why → ℕ → Type 0) → Type 0
Refuses {S} item F = (s : S) (bytes : List ℕ) (w : Why) (left : ℕ) → IsBytes bytes → item s bytes ≡ Err (w, left) → F s bytes w left

abbrev pub RefusesValue : (ℕ → List ℕ → Read Got) → (ℕ → List ℕ → Why → ℕ → Type 0) → Type 0
RefusesValue value F = (n : ℕ) (bytes : List ℕ) (w : Why) (left : ℕ) → IsBytes bytes → value n bytes ≡ Err (w, left) → F n bytes w left

element_failed : (value : ℕ → List ℕ → Read Got) (F : ℕ → List ℕ → Why → ℕ → Type 0) → RefusesValue value F → Refuses (element_at value) (λ s. F s.1)
unfolding element_at
element_failed value F one s bytes w left fits h = one s.1 bytes w left fits (pushed_err s.0 (value s.1 bytes) (w, left) h)

entry_failed : (value : ℕ → List ℕ → Read Got) (F : ℕ → List ℕ → Why → ℕ → Type 0) → RefusesValue value F → Refuses (entry_at value) (EntryFails F)
unfolding entry_at
entry_failed value F one s bytes w left fits h =
    elim (bind_err (text_at bytes) (λ k. cond (has k.0 s.0) (Err (why.DoubleKey, length bytes)) (under k.0 s.0 (value s.1 k.1))) (w, left) h) [
      | inl e ↦ inl (text_failed bytes w left fits e)
      | inr x ↦
          let f = text_found bytes x.0.0 x.0.1 fits x.1 in
          elim (chosen (has x.0.0 s.0) (Err (why.DoubleKey, length bytes)) (under x.0.0 s.0 (value s.1 x.0.1)) (Err (w, left)) x.2) [
            | inl c ↦ inr (record { value = x.0.0; text = f.text; rest = x.0.1; parts = f.parts; spelled = f.spelled; behind = inl (c.0, err_pair {A = Names} why.DoubleKey w (length bytes) left c.1) })
            | inr c ↦ inr (record { value = x.0.0; text = f.text; rest = x.0.1; parts = f.parts; spelled = f.spelled; behind = inr (c.0, one s.1 x.0.1 w left (after_text f.text x.0.1 bytes fits f.parts) (under_err x.0.0 s.0 (value s.1 x.0.1) (w, left) c.1)) })
          ]
    ]

module _ {S A : Type 0} (item : S → List ℕ → Read S) (F : S → List ℕ → Why → ℕ → Type 0) (P : A → List ℕ → Type 0) (Step : S → A → S → Type 0) (refuses : Refuses item F) (finds : Finds item P Step) where
  items_failed : (k : ℕ) (s : S) (bytes : List ℕ) (w : Why) (left : ℕ) → IsBytes bytes → items_at item k s bytes ≡ Err (w, left) → ItemsFail F P Step k s bytes w left
  unfolding items_at
  items_failed zero s bytes w left fits h = absurd (let no : done (s, bytes) ≡ bad (w, left) = h in cc)
  items_failed (suc k) s bytes w left fits h =
      elim (bind_err (item s bytes) (λ x. items_at item k x.0 x.1) (w, left) h) [
        | inl e ↦ inl (refuses s bytes w left fits e)
        | inr x ↦
            let f = finds s bytes x.0.0 x.0.1 fits x.1 in
            inr (record { item = f.item; next = x.0.0; text = f.text; rest = x.0.1; parts = f.parts; spelled = f.spelled; step = f.step; behind = items_failed k x.0.0 x.0.1 w left (after_text f.text x.0.1 bytes fits f.parts) x.2 })
      ]

  sized_failed : (k : ℕ) (s : S) (outer : List ℕ) (z : ℤ) (bytes : List ℕ) (w : Why) (left : ℕ) (r : Read S) → IsBytes bytes → r ≡ items_at item k s bytes → sized (length outer) z (length bytes) r ≡ Err (w, left) → SizedFails F P Step k s outer z bytes w left
  sized_failed k s outer (negsuc n) bytes w left (Ok x) fits e h = err_pair {A = S} why.Length w (length outer) left h
  sized_failed k s outer (negsuc n) bytes w left (Err d) fits e h = err_pair {A = S} why.Length w (length outer) left h
  sized_failed k s outer (pos size) bytes w left (Err d) fits e h = inl (items_failed k s bytes w left fits (sym e ∙ h))
  sized_failed k s outer (pos size) bytes w left (Ok x) fits e h =
      elim (chosen (eqb (length x.1 + size) (length bytes)) (Ok x) (Err (why.BlockSize, length outer)) (Err (w, left)) h) [
        | inl c ↦ absurd (let no : done x ≡ bad (w, left) = c.1 in cc)
        | inr c ↦
            let f = items_found item P Step finds k s bytes x.0 x.1 fits (sym e) in
            inr (record { item = f.item; next = x.0; text = f.text; rest = x.1; parts = f.parts; spelled = f.spelled; step = f.step; behind = eqb-false _ _ c.0 }, err_pair {A = S} why.BlockSize w (length outer) left c.1)
      ]

  block_failed : (s : S) (z : ℤ) (bytes : List ℕ) (w : Why) (left : ℕ) → IsBytes bytes → block_at item s z bytes ≡ Err (w, left) → BlockFails F P Step s z bytes w left
  block_failed s (pos k) bytes w left fits h = items_failed k s bytes w left fits h
  block_failed s (negsuc k) bytes w left fits h =
      elim (bind_err (number_at bytes) (λ size. sized (length bytes) size.0 (length size.1) (items_at item (suc k) s size.1)) (w, left) h) [
        | inl e ↦ inl (number_failed bytes w left e)
        | inr x ↦
            let f = number_found bytes x.0.0 x.0.1 fits x.1 in
            inr (record { value = x.0.0; text = f.text; rest = x.0.1; parts = f.parts; spelled = f.spelled; behind = sized_failed (suc k) s bytes x.0.0 x.0.1 w left _ (after_text f.text x.0.1 bytes fits f.parts) refl x.2 })
      ]

  blocks_failed : (bound : ℕ) (s : S) (bytes : List ℕ) (w : Why) (left : ℕ) → length bytes < bound → IsBytes bytes → blocks_at item bound s bytes ≡ Err (w, left) → SomeFails F P Step s bytes w left
  unfolding blocks_at
  blocks_failed zero s bytes w left lt fits h = absurd (omega arith)
  blocks_failed (suc bound) s bytes w left lt fits h =
      elim (bind_err (number_at bytes) (λ count. after_count item (blocks_at item bound) s count.0 count.1) (w, left) h) [
        | inl e ↦ (0, inl (number_failed bytes w left e))
        | inr c ↦
            let f = number_found bytes c.0.0 c.0.1 fits c.1 in
            let mid_fits : IsBytes c.0.1 = after_text f.text c.0.1 bytes fits f.parts in
            elim (zero_or_some item (blocks_at item bound) s c.0.0 c.0.1) [
              | inl z ↦ absurd (let no : done (s, c.0.1) ≡ bad (w, left) = sym z.1 ∙ c.2 in cc)
              | inr z ↦ elim (bind_err (block_at item s c.0.0 c.0.1) (λ block. blocks_at item bound block.0 block.1) (w, left) (sym z.1 ∙ c.2)) [
                | inl e ↦ (0, inr (record { value = c.0.0; text = f.text; rest = c.0.1; parts = f.parts; spelled = f.spelled; behind = (z.0, block_failed s c.0.0 c.0.1 w left mid_fits e) }))
                | inr b ↦
                    let g = block_found item P Step finds c.0.0 s c.0.1 b.0.0 b.0.1 mid_fits b.1 in
                    let shorter : length b.0.1 < bound = omega (arith, number_long c.0.0 f.text f.spelled, ap length f.parts, length-append f.text c.0.1, ap length g.parts, length-append g.text b.0.1) in
                    let r = blocks_failed bound b.0.0 b.0.1 w left shorter (after_text g.text b.0.1 c.0.1 mid_fits g.parts) b.2 in (
                      suc r.0,
                      record {
                        item = g.item;
                        next = b.0.0;
                        text = f.text ++ g.text;
                        rest = b.0.1;
                        parts = f.parts ∙ ap (λ (t : List ℕ). f.text ++ t) g.parts ∙ sym (append_assoc f.text g.text b.0.1);
                        spelled = body_block P c.0.0 g.item f.text g.text z.0 f.spelled g.spelled;
                        step = g.step;
                        behind = r.1;
                      },
                    )
              ]
            ]
      ]

place_in : (k p : ℕ) → p < places k → p < k
place_in k p h = omega (arith, h)

mutual
  unfolding value_at

  pub value_failed : (s : Schema) (n : ℕ) (bytes : List ℕ) (w : Why) (left : ℕ) → IsBytes bytes → value_at s n bytes ≡ Err (w, left) → Fails s n bytes w left
  value_failed s zero bytes w left fits h = err_pair {A = Got} why.Limit w (length bytes) left h
  value_failed SNull (suc n) bytes w left fits h = absurd cc
  value_failed SBoolean (suc n) bytes w left fits h = boolean_failed bytes w left (with_err n VBoolean (boolean_at bytes) (w, left) h)
  value_failed SInt (suc n) bytes w left fits h = int_failed bytes w left fits (with_err n VInt (int_at bytes) (w, left) h)
  value_failed SLong (suc n) bytes w left fits h = number_failed bytes w left (with_err n VLong (number_at bytes) (w, left) h)
  value_failed SFloat (suc n) bytes w left fits h = fixed_failed w32 bytes w left (with_err n VFloat (fixed_number_at w32 bytes) (w, left) h)
  value_failed SDouble (suc n) bytes w left fits h = fixed_failed w64 bytes w left (with_err n VDouble (fixed_number_at w64 bytes) (w, left) h)
  value_failed SBytes (suc n) bytes w left fits h = blob_failed bytes w left fits (with_err n VBytes (blob_at bytes) (w, left) h)
  value_failed SText (suc n) bytes w left fits h = text_failed bytes w left fits (with_err n VText (text_at bytes) (w, left) h)
  value_failed (SFixed size) (suc n) bytes w left fits h = let p = bytes_failed (length bytes) size bytes w left (with_err n VFixed (bytes_at (length bytes) size bytes) (w, left) h) in (p.0, (p.1, p.2))
  value_failed (SEnum k) (suc n) bytes w left fits h = place_failed k bytes w left fits (with_err n VEnum (place_at k bytes) (w, left) h)
  value_failed (SArray s) (suc n) bytes w left fits h =
      blocks_failed (element_at (value_at s)) (λ r. Fails s r.1) (Spells s) Push (element_failed (value_at s) (Fails s) (λ m b v l f g. value_failed s m b v l f g)) (element_found (Spells s) (value_at s) (value_found s)) (suc (length bytes)) ([], n) bytes w left (omega arith) fits
      (listed_err VArray (blocks_at (element_at (value_at s)) (suc (length bytes)) ([], n) bytes) (w, left) h)
  value_failed (SMap s) (suc n) bytes w left fits h =
      blocks_failed (entry_at (value_at s)) (EntryFails (Fails s)) (EntrySpelled (Spells s)) Put (entry_failed (value_at s) (Fails s) (λ m b v l f g. value_failed s m b v l f g)) (entry_found (Spells s) (value_at s) (value_found s)) (suc (length bytes)) ([], n) bytes w left (omega arith) fits
      (mapped_err (blocks_at (entry_at (value_at s)) (suc (length bytes)) ([], n) bytes) (w, left) h)
  value_failed (SUnion ss) (suc n) bytes w left fits h =
      elim (bind_err (place_at (count ss) bytes) (λ b. in_branch b.0 (branch_at ss b.0 n b.1)) (w, left) h) [
        | inl e ↦ inl (place_failed (count ss) bytes w left fits e)
        | inr x ↦
            let f = place_found (count ss) bytes x.0.0 x.0.1 fits x.1 in
            let mid : IsBytes x.0.1 = IsBytes-append f.text x.0.1 (subst IsBytes f.parts fits) in
            inr (record { value = x.0.0; text = f.text; rest = x.0.1; parts = f.parts; spelled = f.spelled; behind = branch_failed ss x.0.0 n x.0.1 w left mid (place_in (count ss) x.0.0 f.spelled.1) (in_branch_err x.0.0 (branch_at ss x.0.0 n x.0.1) (w, left) x.2) })
      ]
  value_failed (SFields ss) (suc n) bytes w left fits h = fields_failed ss ([], n) bytes w left fits (listed_err VFields (fields_at ss ([], n) bytes) (w, left) h)

  pub fields_failed : (ss : Schemas) (r : Row) (bytes : List ℕ) (w : Why) (left : ℕ) → IsBytes bytes → fields_at ss r bytes ≡ Err (w, left) → FieldsFail ss r.1 bytes w left
  fields_failed none r bytes w left fits h = absurd (let no : done (r, bytes) ≡ bad (w, left) = h in cc)
  fields_failed (more c cs) r bytes w left fits h =
      elim (bind_err (element_at (value_at c) r bytes) (λ x. fields_at cs x.0 x.1) (w, left) h) [
        | inl e ↦ inl (element_failed (value_at c) (Fails c) (λ m b v l f g. value_failed c m b v l f g) r bytes w left fits e)
        | inr x ↦
            let f = element_found (Spells c) (value_at c) (value_found c) r bytes x.0.0 x.0.1 fits x.1 in
            inr (record { value = f.item; text = f.text; rest = x.0.1; parts = f.parts; spelled = f.spelled; behind = (x.0.0.1, f.step.1, fields_failed cs x.0.0 x.0.1 w left (after_text f.text x.0.1 bytes fits f.parts) x.2) })
      ]

  pub branch_failed : (ss : Schemas) (p n : ℕ) (bytes : List ℕ) (w : Why) (left : ℕ) → IsBytes bytes → p < count ss → branch_at ss p n bytes ≡ Err (w, left) → BranchFails ss p n bytes w left
  branch_failed none p n bytes w left fits lt h = absurd (omega arith)
  branch_failed (more s ss) zero n bytes w left fits lt h = value_failed s n bytes w left fits h
  branch_failed (more s ss) (suc p) n bytes w left fits lt h = branch_failed ss p n bytes w left fits (omega arith) h
