-- Blocks: a bound on their number says nothing where it is above the number of bytes, since each takes a byte.
use Rattle.std.proofs.Common.{◌≡◌, ℕ, zero, suc, ◌+◌, ◌<◌, ◌≤◌, ◌⊎◌, inl, inr, ℤ, pos, negsuc, true, false, eqb, List, [], ◌++◌, Ok, Err, length, refl, sym, ap, subst, ◌∙◌, arith, append_assoc}
use Rattle.avro_bin.specs.declared.fault.Why.{Why}
use Rattle.avro_bin.specs.declared.fault.Why.TheVariants as why
use Rattle.avro_bin.specs.Reading.{Read, ◌>>=◌, number_at, items_at, sized, block_at, after_count, blocks_at}
use Rattle.avro_bin.specs.Laws.{IsBytes}
use Rattle.avro_bin.proofs.FoundLemmas.{number_found, IsBytes-append, ok_two}
use Rattle.avro_bin.proofs.GroupLemmas.{chosen, done}
use Rattle.avro_bin.proofs.FailedLemmas.{bad}
use Rattle.avro_bin.proofs.StepLemmas.{bind_ok}
use Rattle.avro_bin.proofs.AgainLemmas.{number_long}
use Rattle.std.proofs.lemmas.List.{length-append}

pub then_same : {A B : Type 0} (r : Read A) (f g : A × List ℕ → Read B) → ((x : A × List ℕ) → r ≡ Ok x → f x ≡ g x) → (r >>= f) ≡ (r >>= g)
then_same (Ok x) f g same = same x refl
then_same (Err e) f g same = refl

pub then_assoc : {A B C : Type 0} (r : Read A) (f : A × List ℕ → Read B) (g : B × List ℕ → Read C) → ((r >>= f) >>= g) ≡ (r >>= λ x. f x >>= g)
then_assoc (Ok x) f g = refl
then_assoc (Err e) f g = refl

-- reading that leaves the end of the bytes
abbrev pub Leaves : {S A : Type 0} → (S → List ℕ → Read A) → Type 0
Leaves {S} {A} item = (s : S) (bytes : List ℕ) (t : A) (rest : List ℕ) → IsBytes bytes → item s bytes ≡ Ok (t, rest) → (text : List ℕ) × (bytes ≡ text ++ rest)

pub both : (text mid rest bytes tail : List ℕ) → bytes ≡ text ++ mid → mid ≡ tail ++ rest → (t : List ℕ) × (bytes ≡ t ++ rest)
both text mid rest bytes tail p q = (text ++ tail, p ∙ ap (λ (l : List ℕ). text ++ l) q ∙ sym (append_assoc text tail rest))

module _ {S : Type 0} (item : S → List ℕ → Read S) (leaves : Leaves item) where
  pub items_leave : (k : ℕ) → Leaves (items_at item k)
  unfolding items_at
  items_leave zero s bytes t rest fits e = let p = ok_two {A = S} s t bytes rest e in ([], p.1)
  items_leave (suc k) s bytes t rest fits e =
      let x = bind_ok (item s bytes) (λ x. items_at item k x.0 x.1) (t, rest) e in
      let front = leaves s bytes x.0.0 x.0.1 fits x.1 in
      let back = items_leave k x.0.0 x.0.1 t rest (IsBytes-append front.0 x.0.1 (subst IsBytes front.1 fits)) x.2 in
      both front.0 x.0.1 rest bytes back.0 front.1 back.1

  sized_ok : (left : ℕ) (z : ℤ) (before : ℕ) (r : Read S) (x : S × List ℕ) → sized left z before r ≡ Ok x → r ≡ Ok x
  sized_ok left (pos size) before (Ok y) x e = filling (chosen {A = Read S} (eqb (length y.1 + size) before) (done y) (Err (why.BlockSize, left)) (done x) e)
    where
      filling : ((eqb (length y.1 + size) before ≡ true) × (done {E = Why × ℕ} y ≡ done x)) ⊎ ((eqb (length y.1 + size) before ≡ false) × (bad {A = S} (why.BlockSize, left) ≡ done x)) → done {E = Why × ℕ} y ≡ done x
      filling (inl h) = h.1
      filling (inr h) = absurd cc
  sized_ok left (pos size) before (Err f) x e = absurd cc
  sized_ok left (negsuc n) before r x e = absurd cc

  pub block_leaves : (z : ℤ) → Leaves (λ s. block_at item s z)
  block_leaves (pos k) s bytes t rest fits e = items_leave k s bytes t rest fits e
  block_leaves (negsuc k) s bytes t rest fits e =
      let x = bind_ok (number_at bytes) (λ size. sized (length bytes) size.0 (length size.1) (items_at item (suc k) s size.1)) (t, rest) e in
      let front = number_found bytes x.0.0 x.0.1 fits x.1 in
      let back = items_leave (suc k) s x.0.1 t rest (IsBytes-append front.text x.0.1 (subst IsBytes front.parts fits)) (sized_ok (length bytes) x.0.0 (length x.0.1) _ (t, rest) x.2) in
      both front.text x.0.1 rest bytes back.0 front.parts back.1

  -- the blocks after an item, under any bounds that are above the number of bytes
  blocks_step : (m n : ℕ) → ((s : S) (bytes : List ℕ) → IsBytes bytes → length bytes < m → length bytes < n → blocks_at item m s bytes ≡ blocks_at item n s bytes)
      → (s : S) (bytes : List ℕ) (z : ℤ) → IsBytes bytes → length bytes < m → length bytes < n → after_count item (blocks_at item m) s z bytes ≡ after_count item (blocks_at item n) s z bytes
  blocks_step m n same s bytes (pos zero) fits p q = refl
  blocks_step m n same s bytes (pos (suc k)) fits p q =
      then_same (block_at item s (pos (suc k)) bytes) (λ x. blocks_at item m x.0 x.1) (λ x. blocks_at item n x.0 x.1) (λ x e.
      let back = block_leaves (pos (suc k)) s bytes x.0 x.1 fits e in
      let few : length x.1 ≤ length bytes = omega (arith, ap length back.1, length-append back.0 x.1) in
      same x.0 x.1 (IsBytes-append back.0 x.1 (subst IsBytes back.1 fits)) (omega (arith, few)) (omega (arith, few)))
  blocks_step m n same s bytes (negsuc k) fits p q =
      then_same (block_at item s (negsuc k) bytes) (λ x. blocks_at item m x.0 x.1) (λ x. blocks_at item n x.0 x.1) (λ x e.
      let back = block_leaves (negsuc k) s bytes x.0 x.1 fits e in
      let few : length x.1 ≤ length bytes = omega (arith, ap length back.1, length-append back.0 x.1) in
      same x.0 x.1 (IsBytes-append back.0 x.1 (subst IsBytes back.1 fits)) (omega (arith, few)) (omega (arith, few)))

  pub blocks_same : (m n : ℕ) (s : S) (bytes : List ℕ) → IsBytes bytes → length bytes < m → length bytes < n → blocks_at item m s bytes ≡ blocks_at item n s bytes
  unfolding blocks_at
  blocks_same zero n s bytes fits p q = absurd (omega (arith, p))
  blocks_same (suc m) zero s bytes fits p q = absurd (omega (arith, q))
  blocks_same (suc m) (suc n) s bytes fits p q =
      then_same (number_at bytes) (λ c. after_count item (blocks_at item m) s c.0 c.1) (λ c. after_count item (blocks_at item n) s c.0 c.1) (λ c e.
      let f = number_found bytes c.0 c.1 fits e in
      let less : length c.1 < length bytes = omega (arith, number_long c.0 f.text f.spelled, ap length f.parts, length-append f.text c.1) in
      blocks_step m n (blocks_same m n) s c.1 c.0 (IsBytes-append f.text c.1 (subst IsBytes f.parts fits)) (omega (arith, less)) (omega (arith, less)))
