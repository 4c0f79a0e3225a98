-- What is spelled reads back, whatever follows it; for the crates above too.
use Rattle.std.proofs.Common.{◌≡◌, ℕ, zero, suc, ◌+◌, ◌<◌, Bool, true, false, List, [], ◌∷◌, ◌++◌, Ok, eqb, cond, length, refl, sym, ap, ◌∙◌, arith, subst, inl, inr, ℤ, pos, negsuc, append_assoc}
use Rattle.std.proofs.lemmas.Bool.{le-ltb, lt-ltb}
use Rattle.std.proofs.lemmas.Bool.Decides.{nat_tests}
use Rattle.std.proofs.lemmas.List.{length-append, take_at, drop_at}
use Rattle.std.specs.Int.{Width, byte_len, from_le_bytes, w32, w64}
use Rattle.avro_bin.specs.Value.{Value, Values, VNull, VBoolean, VInt, VLong, VFloat, VDouble, VBytes, VText, VFixed, VEnum, VArray, VMap, VUnion, VFields, list, row, pairs, Entries, nodes, nodes_named, nodes_in}
use Rattle.avro_bin.specs.Value as v
use Rattle.avro_bin.specs.Schema.{Schema, Schemas, SNull, SBoolean, SInt, SLong, SFloat, SDouble, SBytes, SText, SFixed, SEnum, SArray, SMap, SUnion, SFields, none, more}
use Rattle.avro_bin.specs.Number.{Number}
use Rattle.avro_bin.specs.Reading.{Read, Got, Row, Names, element_at, entry_at, mapped, number_at, boolean_at, int_at, fits_32, bytes_at, blob_at, is_utf8, text_at, place_at, fixed_number_at, with, listed, places, count, value_at, fields_at, branch_at, items_at, block_at, blocks_at}
use Rattle.avro_bin.specs.Grammar.{BytesSpelled, Items, Block, Blocks, EntrySpelled, PlaceSpelled, Spells, AreFields, IsBranch}
use Rattle.avro_bin.proofs.FoundLemmas.{number_again, zero_or_some}
use Rattle.avro_bin.specs.Steps.{Push, Put, Steps}
use Rattle.avro_bin.proofs.OrderLemmas.{steps_split, row_steps, sizes, sizes_named, nodes_entries, entries-pairs}
use Rattle.avro_bin.proofs.UniqueLemmas.{names_steps}

pub regroup : (bytes front back rest : List ℕ) → bytes ≡ front ++ back → bytes ++ rest ≡ front ++ (back ++ rest)
regroup bytes front back rest e = ap (λ (t : List ℕ). t ++ rest) e ∙ append_assoc front back rest

with_again : {A : Type 0} (n left : ℕ) (v : A → Value) (r : Read A) (a : A) (rest : List ℕ) → suc n ≡ 1 + left → r ≡ Ok (a, rest) → with n v r ≡ Ok ((v a, left), rest)
with_again n left v r a rest e h = let k : n ≡ left = omega arith in rw h (ap (λ (m : ℕ). Ok ((v a, m), rest)) k)

bytes_again : (left size : ℕ) (b rest : List ℕ) → length b ≡ size → bytes_at left size (b ++ rest) ≡ Ok (b, rest)
unfolding bytes_at
bytes_again left size b rest len = rw (le-ltb (length (b ++ rest)) size (omega (arith, length-append b rest)), take_at b rest size len, drop_at b rest size len) refl

pub blob_again : (b text rest : List ℕ) → BytesSpelled b text → blob_at (text ++ rest) ≡ Ok (b, rest)
unfolding blob_at
blob_again b text rest t =
    let e : text ++ rest ≡ t.front ++ (b ++ rest) = regroup text t.front t.back rest t.parts ∙ ap (λ (y : List ℕ). t.front ++ (y ++ rest)) t.second in
    ap blob_at e ∙ rw (number_again (pos (length b)) t.front (b ++ rest) t.first) (bytes_again _ (length b) b rest refl)

pub text_again : (b text rest : List ℕ) → BytesSpelled b text → is_utf8 b ≡ true → text_at (text ++ rest) ≡ Ok (b, rest)
unfolding text_at
text_again b text rest t h = rw (blob_again b text rest t, h) refl

pub int_again : (x : ℤ) (text rest : List ℕ) → Number x text → fits_32 x ≡ true → int_at (text ++ rest) ≡ Ok (x, rest)
unfolding int_at
int_again x text rest n h = rw (number_again x text rest n, h) refl

pub place_again : (p k : ℕ) (text rest : List ℕ) → PlaceSpelled k p text → place_at k (text ++ rest) ≡ Ok (p, rest)
unfolding place_at
place_again p k text rest h = rw (number_again (pos p) text rest h.0, lt-ltb p (places k) h.1) refl

fixed_again : (w : Width) (x : ℕ) (text rest : List ℕ) → length text ≡ byte_len w → x ≡ from_le_bytes w text → fixed_number_at w (text ++ rest) ≡ Ok (x, rest)
unfolding fixed_number_at
fixed_again w x text rest len e = rw (le-ltb (length (text ++ rest)) (byte_len w) (omega (arith, length-append text rest)), take_at text rest (byte_len w) len, drop_at text rest (byte_len w) len) (ap (λ (y : ℕ). Ok (y, rest)) (sym e))

boolean_again : (b : Bool) (text rest : List ℕ) → text ≡ cond b 1 0 ∷ [] → boolean_at (text ++ rest) ≡ Ok (b, rest)
unfolding boolean_at
boolean_again true text rest e = ap (λ (t : List ℕ). boolean_at (t ++ rest)) e
boolean_again false text rest e = ap (λ (t : List ℕ). boolean_at (t ++ rest)) e

abbrev pub ReadsValue : (ℕ → List ℕ → Read Got) → (Value → List ℕ → Type 0) → Type 0
ReadsValue value P = (v : Value) (n left : ℕ) (text rest : List ℕ) → n ≡ nodes v + left → P v text → value n (text ++ rest) ≡ Ok ((v, left), rest)

-- what is spelled is read on, if the step fits
abbrev pub ReadsOn : {S A : Type 0} → (S → List ℕ → Read S) → (A → List ℕ → Type 0) → (S → A → S → Type 0) → Type 0
ReadsOn {S} {A} item P Step = (x : A) (s t : S) (text rest : List ℕ) → Step s x t → P x text → item s (text ++ rest) ≡ Ok (t, rest)

pub element_again : (value : ℕ → List ℕ → Read Got) (P : Value → List ℕ → Type 0) → ReadsValue value P → ReadsOn (element_at value) P Push
unfolding element_at
element_again value P reads v s t text rest step h = rw (reads v s.1 t.1 text rest step.1 h) (ap (λ (vs : List Value). Ok ((vs, t.1), rest)) (sym step.0))

pub entry_again : (value : ℕ → List ℕ → Read Got) (P : Value → List ℕ → Type 0) → ReadsValue value P → ReadsOn (entry_at value) (EntrySpelled P) Put
unfolding entry_at
entry_again value P reads e s t text rest step h =
    ap (entry_at value s) (regroup text h.front h.back rest h.parts)
    ∙ rw (text_again e.0 h.front (h.back ++ rest) h.first.0 h.first.1, step.0, reads e.1 s.1 t.1 h.back rest step.2 h.second) (ap (λ (es : List (List ℕ × Value)). Ok ((es, t.1), rest)) (sym step.1))

module _ {S A : Type 0} (item : S → List ℕ → Read S) (P : A → List ℕ → Type 0) (Step : S → A → S → Type 0) (reads : ReadsOn item P Step) where
  pub items_again : (xs : List A) (s t : S) (text rest : List ℕ) → Steps Step s xs t → Items P xs text → items_at item (length xs) s (text ++ rest) ≡ Ok (t, rest)
  unfolding items_at
  items_again [] s t text rest st h = ap (λ (y : List ℕ). items_at item 0 s (y ++ rest)) h ∙ ap (λ (u : S). Ok (u, rest)) st
  items_again (x ∷ xs) s t text rest st h =
      ap (items_at item (suc (length xs)) s) (regroup text h.front h.back rest h.parts)
      ∙ rw (reads x s st.0 h.front (h.back ++ rest) st.1 h.first) (items_again xs st.0 t h.back rest st.2 h.second)

  -- a block: its count, and what follows it
  pub record Counted (us : List A) (text : List ℕ) : Type 0 where
    pub z : ℤ
    pub count : List ℕ
    pub back : List ℕ
    pub parts : text ≡ count ++ back
    pub number : Number z count
    pub some : z ≡ pos 0 → ⊥
    pub read : (s t : S) (rest : List ℕ) → Steps Step s us t → block_at item s z (back ++ rest) ≡ Ok (t, rest)

  pub block_counted : (us : List A) (text : List ℕ) → Block P us text → Counted us text
  block_counted [] text h = absurd h
  block_counted (v ∷ vs) text (inl t) = record {
    z = pos (suc (length vs));
    count = t.front;
    back = t.back;
    parts = t.parts;
    number = t.first;
    some = λ e. absurd cc;
    read = λ a b rest st. items_again (v ∷ vs) a b t.back rest st t.second;
  }
  block_counted (v ∷ vs) text (inr t) = record {
    z = negsuc (length vs);
    count = t.front;
    back = t.back;
    parts = t.parts;
    number = t.first;
    some = λ e. absurd cc;
    read = λ a b rest st.
        let s = t.second in
        let same : eqb (length rest + length s.back) (length (s.back ++ rest)) ≡ true = rw length-append (grind (arith, nat_tests)) in
        ap (block_at item a (negsuc (length vs))) (regroup t.back s.size s.back rest s.parts)
        ∙ rw (number_again (pos (length s.back)) s.size (s.back ++ rest) s.number, items_again (v ∷ vs) a b s.back rest st s.inside, same) refl;
  }

  blocks_again : (k bound : ℕ) (vs : List A) (s t : S) (text rest : List ℕ) → k < bound → Steps Step s vs t → Blocks P k vs text → blocks_at item bound s (text ++ rest) ≡ Ok (t, rest)
  unfolding blocks_at
  blocks_again k zero vs s t text rest lt st h = absurd (omega arith)
  blocks_again zero (suc bound) vs s t text rest lt st h =
      let same : s ≡ t = subst (λ (us : List A). Steps Step s us t) h.0 st in
      rw (number_again (pos 0) text rest h.1) (ap (λ (u : S). Ok (u, rest)) same)
  blocks_again (suc k) (suc bound) vs s t text rest lt st h =
      let b = h.3 in
      let c = block_counted h.0 b.front b.first in
      let q = steps_split Step h.0 h.1 s t (subst (λ (us : List A). Steps Step s us t) h.2 st) in
      let whole : text ++ rest ≡ c.count ++ (c.back ++ (b.back ++ rest)) = regroup text b.front b.back rest b.parts ∙ regroup b.front c.count c.back (b.back ++ rest) c.parts in
      ap (blocks_at item (suc bound) s) whole
      ∙ rw (number_again c.z c.count (c.back ++ (b.back ++ rest)) c.number) (
      elim (zero_or_some item (blocks_at item bound) s c.z (c.back ++ (b.back ++ rest))) [
        | inl z ↦ absurd (c.some z.0)
        | inr z ↦ z.1 ∙ rw (c.read s q.0 (b.back ++ rest) q.1) (blocks_again k bound h.1 q.0 t b.back rest (omega arith) q.2 b.second)
      ])

pub number_long : (x : ℤ) (text : List ℕ) → Number x text → 0 < length text
number_long x [] n = absurd n.groups
number_long x (b ∷ text) n = omega arith

pub block_long : {A : Type 0} (P : A → List ℕ → Type 0) (us : List A) (text : List ℕ) → Block P us text → 0 < length text
block_long P [] text h = absurd h
block_long P (v ∷ vs) text (inl t) = omega (arith, number_long (pos (suc (length vs))) t.front t.first, ap length t.parts, length-append t.front t.back)
block_long P (v ∷ vs) text (inr t) = omega (arith, number_long (negsuc (length vs)) t.front t.first, ap length t.parts, length-append t.front t.back)

-- each block takes a byte
blocks_long : {A : Type 0} (P : A → List ℕ → Type 0) (k : ℕ) (vs : List A) (text : List ℕ) → Blocks P k vs text → k < length text
blocks_long P zero vs text h = number_long (pos 0) text h.1
blocks_long P (suc k) vs text h = omega (arith, block_long P h.0 h.3.front h.3.first, blocks_long P k h.1 h.3.back h.3.second, ap length h.3.parts, length-append h.3.front h.3.back)

pub row_list : (vs : Values) → row (list vs) ≡ vs
row_list v.none = refl
row_list (v.more x vs) = ap (v.more x) (row_list vs)

listed_again : (n left : ℕ) (v : Values → Value) (vs : Values) (r : Read Row) (rest : List ℕ) → r ≡ Ok ((list vs, left), rest) → listed v r ≡ Ok ((v vs, left), rest)
listed_again n left v vs r rest h = rw h (ap (λ (ws : Values). Ok ((v ws, left), rest)) (row_list vs))

mapped_again : (left : ℕ) (es : Entries) (r : Read Names) (rest : List ℕ) → r ≡ Ok ((pairs es, left), rest) → mapped r ≡ Ok ((VMap es, left), rest)
mapped_again left es r rest h = rw h (ap (λ (fs : Entries). Ok ((VMap fs, left), rest)) (entries-pairs es))

nodes-list : (vs : Values) → nodes_in vs ≡ sizes (list vs)
nodes-list vs = ap nodes_in (sym (row_list vs))

nodes-pairs : (es : Entries) → nodes_named es ≡ sizes_named (pairs es)
nodes-pairs es = ap nodes_named (sym (entries-pairs es)) ∙ nodes_entries (pairs es)

nodes_some : (x : Value) → 0 < nodes x
nodes_some (VArray vs) = omega arith
nodes_some (VMap es) = omega arith
nodes_some (VFields vs) = omega arith
nodes_some (VUnion b v) = omega arith
nodes_some VNull = omega arith
nodes_some (VBoolean b) = omega arith
nodes_some (VInt x) = omega arith
nodes_some (VLong x) = omega arith
nodes_some (VFloat x) = omega arith
nodes_some (VDouble x) = omega arith
nodes_some (VBytes x) = omega arith
nodes_some (VText x) = omega arith
nodes_some (VFixed x) = omega arith
nodes_some (VEnum x) = omega arith

mutual
  unfolding value_at

  pub value_again : (s : Schema) (x : Value) (n left : ℕ) (text rest : List ℕ) → n ≡ nodes x + left → Spells s x text → value_at s n (text ++ rest) ≡ Ok ((x, left), rest)
  value_again s x zero left text rest e h = absurd (omega (arith, nodes_some x))
  value_again SNull VNull (suc n) left text rest e h =
      let k : n ≡ left = omega arith in
      ap (λ (t : List ℕ). value_at SNull (suc n) (t ++ rest)) h ∙ ap (λ (m : ℕ). Ok ((VNull, m), rest)) k
  value_again SBoolean (VBoolean b) (suc n) left text rest e h = with_again n left VBoolean (boolean_at (text ++ rest)) b rest e (boolean_again b text rest h)
  value_again SInt (VInt x) (suc n) left text rest e h = with_again n left VInt (int_at (text ++ rest)) x rest e (int_again x text rest h.0 h.1)
  value_again SLong (VLong x) (suc n) left text rest e h = with_again n left VLong (number_at (text ++ rest)) x rest e (number_again x text rest h)
  value_again SFloat (VFloat x) (suc n) left text rest e h = with_again n left VFloat (fixed_number_at w32 (text ++ rest)) x rest e (fixed_again w32 x text rest h.0 h.1)
  value_again SDouble (VDouble x) (suc n) left text rest e h = with_again n left VDouble (fixed_number_at w64 (text ++ rest)) x rest e (fixed_again w64 x text rest h.0 h.1)
  value_again SBytes (VBytes b) (suc n) left text rest e h = with_again n left VBytes (blob_at (text ++ rest)) b rest e (blob_again b text rest h)
  value_again SText (VText b) (suc n) left text rest e h = with_again n left VText (text_at (text ++ rest)) b rest e (text_again b text rest h.0 h.1)
  value_again (SFixed size) (VFixed b) (suc n) left text rest e h =
      with_again n left VFixed (bytes_at (length (text ++ rest)) size (text ++ rest)) b rest e
      (ap (λ (t : List ℕ). bytes_at (length (text ++ rest)) size (t ++ rest)) h.0 ∙ bytes_again (length (text ++ rest)) size b rest h.1)
  value_again (SEnum k) (VEnum p) (suc n) left text rest e h = with_again n left VEnum (place_at k (text ++ rest)) p rest e (place_again p k text rest h)
  value_again (SArray s) (VArray vs) (suc n) left text rest e h =
      listed_again n left VArray vs (blocks_at (element_at (value_at s)) (suc (length (text ++ rest))) ([], n) (text ++ rest)) rest
      (blocks_again (element_at (value_at s)) (Spells s) Push (element_again (value_at s) (Spells s) (λ v m l t r eq sp. value_again s v m l t r eq sp)) h.0 (suc (length (text ++ rest))) (list vs) ([], n) (list vs, left) text rest
      (omega (arith, blocks_long (Spells s) h.0 (list vs) text h.1, length-append text rest)) (row_steps (list vs) [] n left (omega (arith, nodes-list vs))) h.1)
  value_again (SMap s) (VMap es) (suc n) left text rest e h =
      let b = h.spelled in
      mapped_again left es (blocks_at (entry_at (value_at s)) (suc (length (text ++ rest))) ([], n) (text ++ rest)) rest
      (blocks_again (entry_at (value_at s)) (EntrySpelled (Spells s)) Put (entry_again (value_at s) (Spells s) (λ v m l t r eq sp. value_again s v m l t r eq sp)) b.0 (suc (length (text ++ rest))) h.items ([], n) (pairs es, left) text rest
      (omega (arith, blocks_long (EntrySpelled (Spells s)) b.0 h.items text b.1, length-append text rest)) (names_steps h.items (pairs es) n left h.sorted h.same (omega (arith, nodes-pairs es))) b.1)
  value_again (SUnion ss) (VUnion p v) (suc n) left text rest e h =
      ap (value_at (SUnion ss) (suc n)) (regroup text h.front h.back rest h.parts)
      ∙ rw (place_again p (count ss) h.front (h.back ++ rest) h.first, branch_again ss p v n left h.back rest (omega arith) h.second) refl
  value_again (SFields ss) (VFields vs) (suc n) left text rest e h =
      listed_again n left VFields vs (fields_at ss ([], n) (text ++ rest)) rest (fields_again ss (list vs) ([], n) (list vs, left) text rest (row_steps (list vs) [] n left (omega (arith, nodes-list vs))) h)
  value_again s x (suc n) left text rest e h = absurd h

  pub fields_again : (ss : Schemas) (vs : List Value) (s t : Row) (text rest : List ℕ) → Steps Push s vs t → AreFields ss vs text → fields_at ss s (text ++ rest) ≡ Ok (t, rest)
  fields_again none [] s t text rest st h = ap (λ (y : List ℕ). fields_at none s (y ++ rest)) h ∙ ap (λ (u : Row). Ok (u, rest)) st
  fields_again none (v ∷ vs) s t text rest st h = absurd h
  fields_again (more c cs) [] s t text rest st h = absurd h
  fields_again (more c cs) (v ∷ vs) s t text rest st h =
      ap (fields_at (more c cs) s) (regroup text h.front h.back rest h.parts)
      ∙ rw (element_again (value_at c) (Spells c) (λ v m l t r eq sp. value_again c v m l t r eq sp) v s st.0 h.front (h.back ++ rest) st.1 h.first) (fields_again cs vs st.0 t h.back rest st.2 h.second)

  pub branch_again : (ss : Schemas) (p : ℕ) (v : Value) (n left : ℕ) (text rest : List ℕ) → n ≡ nodes v + left → IsBranch ss p v text → branch_at ss p n (text ++ rest) ≡ Ok ((v, left), rest)
  branch_again none p v n left text rest e h = absurd h
  branch_again (more s ss) zero v n left text rest e h = value_again s v n left text rest e h
  branch_again (more s ss) (suc p) v n left text rest e h = branch_again ss p v n left text rest e h
