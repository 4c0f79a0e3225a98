-- The rest of an array or a map: its next item, and the head of its next block.
use Rattle.std.proofs.Common.{◌≡◌, ℕ, suc, ◌+◌, ◌-◌, ◌<◌, ◌≤◌, ◌⊎◌, inl, inr, pos, negsuc, Bool, true, false, eqb, List, ◌++◌, Ok, Err, length, Option, Some, None, refl, sym, ap, subst, ◌∙◌, arith}
use Rattle.std.proofs.lemmas.Bool.{eqb-true}
use Rattle.std.proofs.lemmas.Bool.Decides.{nat_tests}
use Rattle.std.proofs.lemmas.List.{length-append}
use Rattle.avro_bin.specs.declared.fault.Why.{Why}
use Rattle.avro_bin.specs.declared.fault.Why.TheVariants as why
use Rattle.avro_bin.specs.declared.fault.Fault.{Fault}
use Rattle.avro_bin.specs.declared.fault.Fault.TheVariants as fault
use Rattle.avro_bin.specs.Reading.{Read, ◌>>=◌, Fails, number_at, items_at, sized, block_at, after_count, blocks_at}
use Rattle.avro_bin.specs.Laws.{IsBytes}
use Rattle.avro_bin.proofs.FoundLemmas.{number_found, IsBytes-append}
use Rattle.avro_bin.proofs.GroupLemmas.{chosen, done}
use Rattle.avro_bin.proofs.FailedLemmas.{bad}
use Rattle.avro_bin.proofs.AgainLemmas.{regroup}
use Rattle.avro_bin.proofs.StepLemmas.{Fails-then}
use Rattle.avro_pieces.specs.declared.level.Block.{Block}
use Rattle.avro_pieces.specs.Levels.{fills, size_left, filled, more_blocks, rest_of, Begins, Sized, IsHead, HeadFails}
use Rattle.avro_pieces.proofs.LongerLemmas.{number_longer, number_shorter}
use Rattle.avro_pieces.proofs.BlockLemmas.{Leaves, then_same, then_assoc, items_leave, blocks_same, both}

filled_then : {A S : Type 0} (all : ℕ) (block : Option Block) (r : Read A) (f : A × List ℕ → Read S) → filled all block (r >>= f) ≡ (r >>= λ x. filled all block (f x))
filled_then all block (Ok x) f = refl
filled_then all block (Err e) f = refl

-- ---- the size of a block

sized_filled : {S : Type 0} (left size before all : ℕ) (b : Block) → left ≡ all - b.size_at → b.size ≡ size → before ≡ all - b.from → (r : Read S) → sized left (pos size) before r ≡ filled all (Some b) r
sized_filled left size before all b at is from (Ok x) = rw (at, from, is) refl
sized_filled left size before all b at is from (Err e) = refl

filled_ok : {S : Type 0} (all : ℕ) (block : Option Block) (r : Read S) (x : S × List ℕ) → filled all block r ≡ Ok x → r ≡ Ok x
filled_ok {S} all block (Ok y) x e = filling (chosen {A = Read S} (fills all (length y.1) block) (done y) (Err (why.BlockSize, size_left all block)) (done x) e)
  where
    filling : ((fills all (length y.1) block ≡ true) × (done {E = Why × ℕ} y ≡ done x)) ⊎ ((fills all (length y.1) block ≡ false) × (bad {A = S} (why.BlockSize, size_left all block) ≡ done x)) → done {E = Why × ℕ} y ≡ done x
    filling (inl h) = h.1
    filling (inr h) = absurd cc
filled_ok all block (Err f) x e = absurd cc

same_test : (a b m : ℕ) → eqb a b ≡ eqb (a + m) (b + m)
same_test a b m = cases (eqb a b) (eqb (a + m) (b + m)) refl refl
  where
    cases : (p q : Bool) → eqb a b ≡ p → eqb (a + m) (b + m) ≡ q → p ≡ q
    cases true true h k = refl
    cases false false h k = refl
    cases true false h k = let e : a ≡ b = eqb-true a b h in absurd (grind (arith, nat_tests, e, k))
    cases false true h k = let e : a + m ≡ b + m = eqb-true (a + m) (b + m) k in absurd (grind (arith, nat_tests, e, h))

pub fills_more : (all left m : ℕ) (block : Option Block) → Begins all block → fills all left block ≡ fills (all + m) (left + m) block
fills_more all left m None begins = refl
fills_more all left m (Some b) begins =
    let one : left + m + b.size ≡ left + b.size + m = omega arith in
    let two : all + m - b.from ≡ all - b.from + m = omega (arith, begins) in
    same_test (left + b.size) (all - b.from) m ∙ rw (one, two) refl

module _ {S : Type 0} (item : S → List ℕ → Read S) where
  pub rest_next : (all : ℕ) (block : Option Block) (k : ℕ) (s : S) (bytes : List ℕ) → rest_of item all block (suc k) s bytes ≡ (item s bytes >>= λ x. rest_of item all block k x.0 x.1)
  unfolding items_at
  rest_next all block k s bytes =
      ap (λ (r : Read S). r >>= more_blocks item) (filled_then all block (item s bytes) (λ x. items_at item k x.0 x.1))
      ∙ then_assoc (item s bytes) (λ x. filled all block (items_at item k x.0 x.1)) (more_blocks item)

  pub rest_head : (all : ℕ) (block : Option Block) (s : S) (bytes : List ℕ) → fills all (length bytes) block ≡ true → rest_of item all block 0 s bytes ≡ blocks_at item (suc (length bytes)) s bytes
  unfolding items_at
  rest_head all block s bytes h = rw h refl

  pub rest_unfilled : (all : ℕ) (block : Option Block) (s : S) (bytes : List ℕ) → fills all (length bytes) block ≡ false → rest_of item all block 0 s bytes ≡ Err (why.BlockSize, size_left all block)
  unfolding items_at
  rest_unfilled all block s bytes h = rw h refl

  pub head_fails : (e : Fault) (s : S) (bytes : List ℕ) → HeadFails e bytes → Fails e (blocks_at item (suc (length bytes)) s bytes)
  unfolding blocks_at
  head_fails e s bytes (inl h) = Fails-then e (number_at bytes) (λ c. after_count item (blocks_at item (length bytes)) s c.0 c.1) h
  head_fails e s bytes (inr u) =
      let more : Fails e (after_count item (blocks_at item (length bytes)) s (negsuc u.less) u.after) =
      Fails-then e (block_at item s (negsuc u.less) u.after) (λ b. blocks_at item (length bytes) b.0 b.1) (size u.size) in
      rw u.count more
    where
      size : Fails e (number_at u.after) ⊎ ((m : ℕ) × (rest : List ℕ) × (number_at u.after ≡ Ok (negsuc m, rest)) × (e ≡ fault.At why.Length (length u.after))) → Fails e (block_at item s (negsuc u.less) u.after)
      size (inl h) = Fails-then e (number_at u.after) (λ size. sized (length u.after) size.0 (length size.1) (items_at item (suc u.less) s size.1)) h
      size (inr h) = rw (h.2, h.3) refl

  -- items of a block that states no size
  pub filled_none : (all : ℕ) (r : Read S) → filled all None r ≡ r
  filled_none all (Ok x) = refl
  filled_none all (Err e) = refl

module _ {S : Type 0} (item : S → List ℕ → Read S) (leaves : Leaves item) (all : ℕ) (bytes more : List ℕ) (fits : IsBytes (bytes ++ more)) where
  pub head_over : (block : Option Block) (rest : List ℕ) (s : S) → IsHead all bytes 0 block rest → blocks_at item (suc (length (bytes ++ more))) s (bytes ++ more) ≡ Ok (s, rest ++ more)
  unfolding blocks_at
  head_over block rest s (inl h) = rw ((number_longer bytes rest more fits (pos 0) h.0).again) refl
  head_over block rest s (inr h) = absurd (omega (arith, h.is))

  -- the items after a head, under the bound that they leave
  after_head : (rest : List ℕ) (r : Read S) → length rest < length (bytes ++ more) → ((x : S × List ℕ) → r ≡ Ok x → IsBytes x.1 × (length x.1 ≤ length rest)) → (r >>= λ x. blocks_at item (length (bytes ++ more)) x.0 x.1) ≡ (r >>= more_blocks item)
  after_head rest r less left =
      then_same r (λ x. blocks_at item (length (bytes ++ more)) x.0 x.1) (more_blocks item) (λ x e.
      let l = left x e in
      blocks_same item leaves (length (bytes ++ more)) (suc (length x.1)) x.0 x.1 l.0 (omega (arith, less, l.1)) (omega arith))

  counted_left : (k : ℕ) (rest : List ℕ) (s : S) → IsBytes (rest ++ more) → (x : S × List ℕ) → items_at item k s (rest ++ more) ≡ Ok x → IsBytes x.1 × (length x.1 ≤ length (rest ++ more))
  counted_left k rest s fine x e =
      let l = items_leave item leaves k s (rest ++ more) x.0 x.1 fine e in
      (IsBytes-append l.0 x.1 (subst IsBytes l.1 fine), omega (arith, ap length l.1, length-append l.0 x.1))

  after_items : (k : ℕ) (rest : List ℕ) (s : S) → IsBytes (rest ++ more) → length (rest ++ more) < length (bytes ++ more)
      → (items_at item k s (rest ++ more) >>= λ x. blocks_at item (length (bytes ++ more)) x.0 x.1) ≡ (items_at item k s (rest ++ more) >>= more_blocks item)
  after_items k rest s fine less = after_head (rest ++ more) (items_at item k s (rest ++ more)) less (counted_left k rest s fine)

  plain_goes : (k : ℕ) (rest : List ℕ) (s : S) → number_at bytes ≡ Ok (pos (suc k), rest) → blocks_at item (suc (length (bytes ++ more))) s (bytes ++ more) ≡ rest_of item (all + length more) None (suc k) s (rest ++ more)
  unfolding blocks_at
  plain_goes k rest s h =
      let n = number_longer bytes rest more fits (pos (suc k)) h in
      let less = number_shorter bytes rest more fits (pos (suc k)) h in
      let fine : IsBytes (rest ++ more) = IsBytes-append n.text (rest ++ more) (subst IsBytes (regroup bytes n.text rest more n.split) fits) in
      rw n.again (after_items (suc k) rest s fine (omega (arith, less, length-append rest more, length-append bytes more)) ∙ ap (λ (r : Read S). r >>= more_blocks item) (sym (filled_none item (all + length more) (items_at item (suc k) s (rest ++ more)))))

  sized_goes : (within : length bytes ≤ all) (k : ℕ) (block : Option Block) (rest : List ℕ) (s : S) → Sized all bytes (suc k) block rest → blocks_at item (suc (length (bytes ++ more))) s (bytes ++ more) ≡ rest_of item (all + length more) block (suc k) s (rest ++ more)
  unfolding blocks_at
  sized_goes within k block rest s h =
      let n = number_longer bytes h.after more fits (negsuc h.less) h.count in
      let fine : IsBytes (h.after ++ more) = IsBytes-append n.text (h.after ++ more) (subst IsBytes (regroup bytes n.text h.after more n.split) fits) in
      let m = number_longer h.after rest more fine (pos h.size) h.stated in
      let finer : IsBytes (rest ++ more) = IsBytes-append m.text (rest ++ more) (subst IsBytes (regroup h.after m.text rest more m.split) fine) in
      let one = number_shorter bytes h.after more fits (negsuc h.less) h.count in
      let two = number_shorter h.after rest more fine (pos h.size) h.stated in
      let is : h.less ≡ k = omega (arith, h.is) in
      let b : Block = record { size_at = all - length h.after; size = h.size; from = all - length rest } in
      let r : Read S = items_at item (suc k) s (rest ++ more) in
      let there : sized (length (h.after ++ more)) (pos h.size) (length (rest ++ more)) r ≡ filled (all + length more) (Some b) r =
      sized_filled (length (h.after ++ more)) h.size (length (rest ++ more)) (all + length more) b (omega (arith, within, one, length-append h.after more)) refl (omega (arith, within, one, two, length-append rest more)) r in
      let on = after_head (rest ++ more) (filled (all + length more) (Some b) r) (omega (arith, one, two, length-append rest more, length-append bytes more)) (λ x e. counted_left (suc k) rest s finer x (filled_ok (all + length more) (Some b) r x e)) in
      rw (n.again, is, m.again, there, h.of) on

  pub head_goes : (within : length bytes ≤ all) (k : ℕ) (block : Option Block) (rest : List ℕ) (s : S) → IsHead all bytes (suc k) block rest → blocks_at item (suc (length (bytes ++ more))) s (bytes ++ more) ≡ rest_of item (all + length more) block (suc k) s (rest ++ more)
  head_goes within k block rest s (inl h) = rw h.1 (plain_goes k rest s h.0)
  head_goes within k block rest s (inr h) = sized_goes within k block rest s h

-- a head takes bytes from the front
pub head_leaves : (all : ℕ) (bytes : List ℕ) (k : ℕ) (block : Option Block) (rest : List ℕ) → IsHead all bytes k block rest → IsBytes bytes → (text : List ℕ) × (bytes ≡ text ++ rest)
head_leaves all bytes k block rest (inl h) fits =
    let f = number_found bytes (pos k) rest fits h.0 in
    (f.text, f.parts)
head_leaves all bytes k block rest (inr h) fits =
    let f = number_found bytes (negsuc h.less) h.after fits h.count in
    let g = number_found h.after (pos h.size) rest (IsBytes-append f.text h.after (subst IsBytes f.parts fits)) h.stated in
    both f.text h.after rest bytes g.text f.parts g.parts

-- the size of a block begins among all bytes
pub head_begins : (all : ℕ) (bytes : List ℕ) (k : ℕ) (block : Option Block) (rest : List ℕ) → IsHead all bytes k block rest → Begins all block
head_begins all bytes k block rest (inl h) = rw h.1 tt
head_begins all bytes k block rest (inr h) = let few : all - length rest ≤ all = omega arith in rw h.of few
