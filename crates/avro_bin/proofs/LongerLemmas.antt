-- What is refused, and not for being short, is refused alike whatever follows; and what is read is read alike.
use Rattle.std.proofs.Common.{◌≡◌, ℕ, ℤ, pos, negsuc, zero, suc, ◌+◌, ◌-◌, ◌⊎◌, inl, inr, true, false, List, [], ◌∷◌, ◌++◌, length, take, refl, sym, ap, subst, ◌∙◌, arith, append_assoc}
use Rattle.std.proofs.lemmas.List.{length-append, take-append-le}
use Rattle.avro_bin.specs.declared.fault.Why.{Why}
use Rattle.avro_bin.specs.declared.fault.Why.TheVariants as why
use Rattle.avro_bin.specs.declared.refusal.Refusal.{Refusal}
use Rattle.avro_bin.specs.Number.{Number, NumberFails, RunsOn}
use Rattle.avro_bin.specs.Value.{nodes}
use Rattle.avro_bin.specs.Schema.{Schema, Schemas, SNull, SBoolean, SInt, SLong, SFloat, SDouble, SBytes, SText, SFixed, SEnum, SArray, SMap, SUnion, SFields, none, more}
use Rattle.avro_bin.specs.Ranges.{fits_32, is_utf8, places, count}
use Rattle.avro_bin.specs.Reading.{Names, has}
use Rattle.avro_bin.specs.Grammar.{BytesSpelled, TextSpelled, PlaceSpelled, Items, Block, EntrySpelled, Spells}
use Rattle.avro_bin.specs.Steps.{Push, Put, Steps}
use Rattle.avro_bin.specs.Failing.{Then, Later, Refused, BadNumber, BadLength, BadBlob, NoPlace, BadPlace, BadBoolean, TooShort, BadText, ItemsFail, SizedFails, BlockFails, BlocksFail, SomeFails, EntryFails, Fails, FieldsFail, BranchFails}
use Rattle.avro_bin.specs.Refusing.{refusal}
use Rattle.avro_bin.specs.Laws.{IsBytes, IsNotShort, ReadsLonger, RefusesLonger}
use Rattle.avro_bin.proofs.WholeLemmas.{reads_exactly, refuses_exactly}

abbrev NotShort : Why → Type 0
NotShort w = w ≡ why.Short → ⊥

module _ (c : List ℕ) where
  -- an item that begins at these bytes begins as far from the end, and what follows besides
  same_left : (bytes : List ℕ) (left : ℕ) → left ≡ length bytes → left + length c ≡ length (bytes ++ c)
  same_left bytes left is = ap (λ (n : ℕ). n + length c) is ∙ sym (length-append bytes c)

  refused_longer : (v w : Why) (bytes : List ℕ) (left : ℕ) → Refused v w bytes left → Refused v w (bytes ++ c) (left + length c)
  refused_longer v w bytes left h = (h.0, same_left bytes left h.1)

  then_longer : {A : Type 0} (P Q R : A → List ℕ → Type 0) (bytes : List ℕ) → ((x : A) (rest : List ℕ) → Q x rest → R x (rest ++ c)) → Then P Q bytes → Then P R (bytes ++ c)
  then_longer P Q R bytes f t = record {
    value = t.value;
    text = t.text;
    rest = t.rest ++ c;
    parts = ap (λ (l : List ℕ). l ++ c) t.parts ∙ append_assoc t.text t.rest c;
    spelled = t.spelled;
    behind = f t.value t.rest t.behind;
  }

  later_longer : {S A : Type 0} (P : A → List ℕ → Type 0) (Step : S → A → S → Type 0) (Q R : S → List ℕ → Type 0) (s : S) (bytes : List ℕ) → ((t : S) (rest : List ℕ) → Q t rest → R t (rest ++ c)) → Later P Step Q s bytes → Later P Step R s (bytes ++ c)
  later_longer P Step Q R s bytes f l = record {
    item = l.item;
    next = l.next;
    text = l.text;
    rest = l.rest ++ c;
    parts = ap (λ (l : List ℕ). l ++ c) l.parts ∙ append_assoc l.text l.rest c;
    spelled = l.spelled;
    step = l.step;
    behind = f l.next l.rest l.behind;
  }

  -- ---- leaves

  runs_longer : (k : ℕ) (bytes : List ℕ) → RunsOn k bytes → RunsOn k (bytes ++ c)
  runs_longer k bytes r = record {
    text = r.text;
    byte = r.byte;
    rest = r.rest ++ c;
    parts = ap (λ (l : List ℕ). l ++ c) r.parts ∙ append_assoc r.text (r.byte ∷ r.rest) c;
    high = r.high;
    count = r.count;
    big = r.big;
  }

  number_fails_longer : (k : ℕ) (bytes : List ℕ) (w : Why) → NotShort w → NumberFails k bytes w → NumberFails k (bytes ++ c) w
  number_fails_longer k bytes why.Short h f = absurd (h refl)
  number_fails_longer k bytes why.Number h f = runs_longer k bytes f
  number_fails_longer k bytes why.Range h f = absurd f
  number_fails_longer k bytes why.Bool h f = absurd f
  number_fails_longer k bytes why.Branch h f = absurd f
  number_fails_longer k bytes why.Utf8 h f = absurd f
  number_fails_longer k bytes why.Length h f = absurd f
  number_fails_longer k bytes why.BlockSize h f = absurd f
  number_fails_longer k bytes why.DoubleKey h f = absurd f
  number_fails_longer k bytes why.Limit h f = absurd f

  number_longer : (bytes : List ℕ) (w : Why) (left : ℕ) → NotShort w → BadNumber bytes w left → BadNumber (bytes ++ c) w (left + length c)
  number_longer bytes w left h f = (number_fails_longer 10 bytes w h f.0, same_left bytes left f.1)

  length_longer : (z : ℤ) (rest : List ℕ) (w : Why) → NotShort w → BadLength z rest w → BadLength z (rest ++ c) w
  length_longer (pos size) rest w h f = absurd (h f.1)
  length_longer (negsuc n) rest w h f = f

  blob_longer : (bytes : List ℕ) (w : Why) (left : ℕ) → NotShort w → BadBlob bytes w left → BadBlob (bytes ++ c) w (left + length c)
  blob_longer bytes w left h (inl f) = inl (number_longer bytes w left h f)
  blob_longer bytes w left h (inr f) =
      inr (then_longer Number (λ x rest. BadLength x rest w) (λ x rest. BadLength x rest w) bytes (λ x rest b. length_longer x rest w h b) f.0, same_left bytes left f.1)

  place_longer : (k : ℕ) (bytes : List ℕ) (w : Why) (left : ℕ) → NotShort w → BadPlace k bytes w left → BadPlace k (bytes ++ c) w (left + length c)
  place_longer k bytes w left h (inl f) = inl (number_longer bytes w left h f)
  place_longer k bytes w left h (inr f) =
      inr (then_longer Number (λ x rest. NoPlace (places k) x) (λ x rest. NoPlace (places k) x) bytes (λ x rest b. b) f.0, refused_longer why.Branch w bytes left f.1)

  boolean_longer : (bytes : List ℕ) (w : Why) (left : ℕ) → NotShort w → BadBoolean bytes w left → BadBoolean (bytes ++ c) w (left + length c)
  boolean_longer [] w left h f = absurd (h f.0)
  boolean_longer (b ∷ rest) w left h f = (f.0, refused_longer why.Bool w (b ∷ rest) left f.1)

  short_longer : (size : ℕ) (bytes : List ℕ) (w : Why) (left : ℕ) → NotShort w → TooShort size bytes w left → TooShort size (bytes ++ c) w (left + length c)
  short_longer size bytes w left h f = absurd (h f.1.0)

  text_longer : (bytes : List ℕ) (w : Why) (left : ℕ) → NotShort w → BadText bytes w left → BadText (bytes ++ c) w (left + length c)
  text_longer bytes w left h (inl f) = inl (blob_longer bytes w left h f)
  text_longer bytes w left h (inr f) =
      inr (then_longer BytesSpelled (λ b rest. is_utf8 b ≡ false) (λ b rest. is_utf8 b ≡ false) bytes (λ b rest t. t) f.0, refused_longer why.Utf8 w bytes left f.1)

  int_longer : (bytes : List ℕ) (w : Why) (left : ℕ) → NotShort w → BadNumber bytes w left ⊎ (Then Number (λ x rest. fits_32 x ≡ false) bytes × Refused why.Range w bytes left)
      → BadNumber (bytes ++ c) w (left + length c) ⊎ (Then Number (λ x rest. fits_32 x ≡ false) (bytes ++ c) × Refused why.Range w (bytes ++ c) (left + length c))
  int_longer bytes w left h (inl f) = inl (number_longer bytes w left h f)
  int_longer bytes w left h (inr f) =
      inr (then_longer Number (λ x rest. fits_32 x ≡ false) (λ x rest. fits_32 x ≡ false) bytes (λ x rest t. t) f.0, refused_longer why.Range w bytes left f.1)

  -- ---- items and blocks

  module _ {S A : Type 0} (F : S → List ℕ → Why → ℕ → Type 0) (P : A → List ℕ → Type 0) (Step : S → A → S → Type 0) (w : Why) (h : NotShort w)
      (longer : (s : S) (bytes : List ℕ) (left : ℕ) → F s bytes w left → F s (bytes ++ c) w (left + length c)) where
    items_longer : (k : ℕ) (s : S) (bytes : List ℕ) (left : ℕ) → ItemsFail F P Step k s bytes w left → ItemsFail F P Step k s (bytes ++ c) w (left + length c)
    items_longer zero s bytes left f = absurd f
    items_longer (suc k) s bytes left (inl f) = inl (longer s bytes left f)
    items_longer (suc k) s bytes left (inr f) =
        inr (later_longer P Step (λ t rest. ItemsFail F P Step k t rest w left) (λ t rest. ItemsFail F P Step k t rest w (left + length c)) s bytes (λ t rest g. items_longer k t rest left g) f)

    not_filled : (size : ℕ) (bytes rest : List ℕ) → (length rest + size ≡ length bytes → ⊥) → length (rest ++ c) + size ≡ length (bytes ++ c) → ⊥
    not_filled size bytes rest f e = f (omega (arith, e, length-append rest c, length-append bytes c))

    sized_longer : (k : ℕ) (s : S) (outer : List ℕ) (z : ℤ) (bytes : List ℕ) (left : ℕ) → SizedFails F P Step k s outer z bytes w left → SizedFails F P Step k s (outer ++ c) z (bytes ++ c) w (left + length c)
    sized_longer k s outer (negsuc n) bytes left f = refused_longer why.Length w outer left f
    sized_longer k s outer (pos size) bytes left (inl f) = inl (items_longer k s bytes left f)
    sized_longer k s outer (pos size) bytes left (inr f) =
        inr (
          later_longer (λ xs b. Items P xs b × (length xs ≡ k)) (Steps Step) (λ t rest. length rest + size ≡ length bytes → ⊥) (λ t rest. length rest + size ≡ length (bytes ++ c) → ⊥) s bytes (λ t rest g. not_filled size bytes rest g) f.0,
          refused_longer why.BlockSize w outer left f.1,
        )

    block_longer : (s : S) (z : ℤ) (bytes : List ℕ) (left : ℕ) → BlockFails F P Step s z bytes w left → BlockFails F P Step s z (bytes ++ c) w (left + length c)
    block_longer s (pos k) bytes left f = items_longer k s bytes left f
    block_longer s (negsuc k) bytes left (inl f) = inl (number_longer bytes w left h f)
    block_longer s (negsuc k) bytes left (inr f) =
        inr (then_longer Number (λ size rest. SizedFails F P Step (suc k) s bytes size rest w left) (λ size rest. SizedFails F P Step (suc k) s (bytes ++ c) size rest w (left + length c)) bytes (λ size rest g. sized_longer (suc k) s bytes size rest left g) f)

    blocks_longer : (k : ℕ) (s : S) (bytes : List ℕ) (left : ℕ) → BlocksFail F P Step k s bytes w left → BlocksFail F P Step k s (bytes ++ c) w (left + length c)
    blocks_longer zero s bytes left (inl f) = inl (number_longer bytes w left h f)
    blocks_longer zero s bytes left (inr f) =
        inr (then_longer Number (λ z rest. (z ≡ pos 0 → ⊥) × BlockFails F P Step s z rest w left) (λ z rest. (z ≡ pos 0 → ⊥) × BlockFails F P Step s z rest w (left + length c)) bytes (λ z rest g. (g.0, block_longer s z rest left g.1)) f)
    blocks_longer (suc k) s bytes left f =
        later_longer (Block P) (Steps Step) (λ t rest. BlocksFail F P Step k t rest w left) (λ t rest. BlocksFail F P Step k t rest w (left + length c)) s bytes (λ t rest g. blocks_longer k t rest left g) f

    some_longer : (s : S) (bytes : List ℕ) (left : ℕ) → SomeFails F P Step s bytes w left → SomeFails F P Step s (bytes ++ c) w (left + length c)
    some_longer s bytes left f = (f.0, blocks_longer f.0 s bytes left f.1)

  -- ---- entries

  module _ (F : ℕ → List ℕ → Why → ℕ → Type 0) (w : Why) (h : NotShort w) (longer : (n : ℕ) (bytes : List ℕ) (left : ℕ) → F n bytes w left → F n (bytes ++ c) w (left + length c)) where
    abbrev Behind : Names → List ℕ → ℕ → List ℕ → List ℕ → Type 0
    Behind s bytes left k rest = ((has k s.0 ≡ true) × Refused why.DoubleKey w bytes left) ⊎ ((has k s.0 ≡ false) × F s.1 rest w left)

    behind_longer : (s : Names) (bytes : List ℕ) (left : ℕ) (k rest : List ℕ) → Behind s bytes left k rest → Behind s (bytes ++ c) (left + length c) k (rest ++ c)
    behind_longer s bytes left k rest (inl f) = inl (f.0, refused_longer why.DoubleKey w bytes left f.1)
    behind_longer s bytes left k rest (inr f) = inr (f.0, longer s.1 rest left f.1)

    entry_longer : (s : Names) (bytes : List ℕ) (left : ℕ) → EntryFails F s bytes w left → EntryFails F s (bytes ++ c) w (left + length c)
    entry_longer s bytes left (inl f) = inl (text_longer bytes w left h f)
    entry_longer s bytes left (inr f) =
        inr (then_longer TextSpelled (Behind s bytes left) (Behind s (bytes ++ c) (left + length c)) bytes (λ k rest g. behind_longer s bytes left k rest g) f)

  -- ---- values

  mutual
    pub fails_longer : (s : Schema) (n : ℕ) (bytes : List ℕ) (w : Why) (left : ℕ) → NotShort w → Fails s n bytes w left → Fails s n (bytes ++ c) w (left + length c)
    fails_longer s zero bytes w left h f = refused_longer why.Limit w bytes left f
    fails_longer SNull (suc n) bytes w left h f = absurd f
    fails_longer SBoolean (suc n) bytes w left h f = boolean_longer bytes w left h f
    fails_longer SInt (suc n) bytes w left h f = int_longer bytes w left h f
    fails_longer SLong (suc n) bytes w left h f = number_longer bytes w left h f
    fails_longer SFloat (suc n) bytes w left h f = short_longer 4 bytes w left h f
    fails_longer SDouble (suc n) bytes w left h f = short_longer 8 bytes w left h f
    fails_longer SBytes (suc n) bytes w left h f = blob_longer bytes w left h f
    fails_longer SText (suc n) bytes w left h f = text_longer bytes w left h f
    fails_longer (SFixed size) (suc n) bytes w left h f = short_longer size bytes w left h f
    fails_longer (SEnum k) (suc n) bytes w left h f = place_longer k bytes w left h f
    fails_longer (SArray s) (suc n) bytes w left h f =
        some_longer (λ r. Fails s r.1) (Spells s) Push w h (λ r b l g. fails_longer s r.1 b w l h g) ([], n) bytes left f
    fails_longer (SMap s) (suc n) bytes w left h f =
        some_longer (EntryFails (Fails s)) (EntrySpelled (Spells s)) Put w h (λ r b l g. entry_longer (Fails s) w h (λ m d k e. fails_longer s m d w k h e) r b l g) ([], n) bytes left f
    fails_longer (SUnion ss) (suc n) bytes w left h (inl f) = inl (place_longer (count ss) bytes w left h f)
    fails_longer (SUnion ss) (suc n) bytes w left h (inr f) =
        inr (then_longer (PlaceSpelled (count ss)) (λ p rest. BranchFails ss p n rest w left) (λ p rest. BranchFails ss p n rest w (left + length c)) bytes (λ p rest g. branch_longer ss p n rest w left h g) f)
    fails_longer (SFields ss) (suc n) bytes w left h f = fields_longer ss n bytes w left h f

    fields_longer : (ss : Schemas) (n : ℕ) (bytes : List ℕ) (w : Why) (left : ℕ) → NotShort w → FieldsFail ss n bytes w left → FieldsFail ss n (bytes ++ c) w (left + length c)
    fields_longer none n bytes w left h f = absurd f
    fields_longer (more s ss) n bytes w left h (inl f) = inl (fails_longer s n bytes w left h f)
    fields_longer (more s ss) n bytes w left h (inr f) =
        inr
        (then_longer (Spells s) (λ v rest. (m : ℕ) × (n ≡ nodes v + m) × FieldsFail ss m rest w left) (λ v rest. (m : ℕ) × (n ≡ nodes v + m) × FieldsFail ss m rest w (left + length c)) bytes
        (λ v rest g. (g.0, g.1, fields_longer ss g.0 rest w left h g.2)) f)

    branch_longer : (ss : Schemas) (p n : ℕ) (bytes : List ℕ) (w : Why) (left : ℕ) → NotShort w → BranchFails ss p n bytes w left → BranchFails ss p n (bytes ++ c) w (left + length c)
    branch_longer none p n bytes w left h f = absurd f
    branch_longer (more s ss) zero n bytes w left h f = fails_longer s n bytes w left h f
    branch_longer (more s ss) (suc p) n bytes w left h f = branch_longer ss p n bytes w left h f

-- ---- whole inputs

front_fits : (a b : List ℕ) → IsBytes (a ++ b) → IsBytes a
front_fits [] b fits i = omega arith
front_fits (x ∷ a) b fits zero = fits zero
front_fits (x ∷ a) b fits (suc i) = front_fits a b (λ j. fits (suc j)) i

not_short : (w : Why) (offset : ℕ) (e : Refusal) → e ≡ refusal w offset → IsNotShort e → NotShort w
not_short w offset e is some h = some offset (is ∙ ap (λ (v : Why). refusal v offset) h)

pub reads_longer : ReadsLonger
reads_longer s limit bytes c v len fits read =
    let is = (reads_exactly s limit bytes v len (front_fits bytes c fits)).0 read in
    let front : take len (bytes ++ c) ≡ take len bytes = take-append-le len bytes c is.within in
    (reads_exactly s limit (bytes ++ c) v len fits).1 (record { within = omega (arith, is.within, length-append bytes c); spelled = rw front is.spelled; few = is.few })

pub refuses_longer : RefusesLonger
refuses_longer s limit bytes c e fits some refused =
    let is = (refuses_exactly s limit bytes e (front_fits bytes c fits)).0 refused in
    let left : length bytes - is.offset + length c ≡ length (bytes ++ c) - is.offset = omega (arith, is.within, length-append bytes c) in
    let fails = fails_longer c s limit bytes is.why (length bytes - is.offset) (not_short is.why is.offset e is.is some) is.fails in
    (refuses_exactly s limit (bytes ++ c) e fits).1
    (record { why = is.why; offset = is.offset; is = is.is; within = omega (arith, is.within, length-append bytes c); fails = subst (λ (n : ℕ). Fails s limit (bytes ++ c) is.why n) left fails })
