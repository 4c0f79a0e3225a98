-- The text of a value can be parsed again.
use Rattle.std.proofs.Common.{◌≡◌, ◌∙◌, ◌<◌, ◌^◌, ◌++◌, ◌==◌, ℕ, pos, negsuc, zero, suc, true, false, List, [], ◌∷◌, map, drop, get_or, refl, sym, ap, subst, arith, append_assoc, codes, w32, w64}
use Rattle.std.specs.Fmt.{decimal}
use Rattle.std.specs.Int.{to_be_bytes, from_be_bytes, bytes_high_first, byte_at}
use Rattle.std.specs.List.{AllByRecursion}
use Rattle.std.proofs.lemmas.Nat.{from_be_bytes-to_be_bytes_4, from_be_bytes-to_be_bytes_8}
use Rattle.std.proofs.lemmas.Bool.{eqb-false}
use Rattle.std.proofs.lemmas.Int.{ints}
use Rattle.std.proofs.lemmas.Fmt.{decimal_nonempty, decimal_injective}
use Rattle.avro_bin.specs.Value.{Value, Values, Entries, VNull, VBoolean, VInt, VLong, VFloat, VDouble, VBytes, VText, VFixed, VEnum, VArray, VMap, VUnion, VFields, list, pairs}
use Rattle.avro_bin.specs.Value as v
use Rattle.avro_bin.specs.Schema.{Schema, Schemas, SNull, SBoolean, SInt, SLong, SFloat, SDouble, SBytes, SText, SFixed, SEnum, SArray, SMap, SUnion, SFields, none, more}
use Rattle.avro_bin.specs.Shape.{HasSchema, FieldsHave, BranchHas}
use Rattle.etp_schema.specs.Shapes.{shape_at}
use Rattle.capture_text.specs.Names.{children_at, child_at, field_at}
use Rattle.capture_text.specs.Pieces.{hex, quoted, separator}
use Rattle.capture_text.specs.Values.{value_text, items_text, entries_text, fields_text}
use Rattle.capture_text.specs.Laws.{listed, parts_of, Ends, AreBytes, IsInRange, AreInRange, EntriesAreInRange, OneText}
use Rattle.capture_text.proofs.PieceLemmas.{cut, decimal_digits, begins_with_digit, number_one, bytes_one, quoted_one}
use Rattle.capture_text.proofs.TableLemmas.{parts_are}

two_heads : (m n : ℕ) (a b : List ℕ) → m ∷ a ≡ n ∷ b → (m == n) ≡ false → ⊥
two_heads m n a b e other = let h : m ≡ n = cc in eqb-false m n other h

strip : (a b c : List ℕ) → a ++ b ≡ a ++ c → b ≡ c
strip [] b c e = e
strip (n ∷ a) b c e = let f : n ∷ (a ++ b) ≡ n ∷ (a ++ c) = e in let g : a ++ b ≡ a ++ c = cc in strip a b c g

regroup : (a b c d : List ℕ) → ((a ++ b) ++ c) ++ d ≡ a ++ (b ++ (c ++ d))
regroup a b c d = append_assoc (a ++ b) c d ∙ append_assoc a b (c ++ d)

-- what is between an opening and a closing mark
between : (o c : ℕ) (a b x y : List ℕ) → ((o ∷ a) ++ (c ∷ [])) ++ x ≡ ((o ∷ b) ++ (c ∷ [])) ++ y → a ++ (c ∷ x) ≡ b ++ (c ∷ y)
between o c a b x y e =
    let f : o ∷ ((a ++ (c ∷ [])) ++ x) ≡ o ∷ ((b ++ (c ∷ [])) ++ y) = e in
    let g : (a ++ (c ∷ [])) ++ x ≡ (b ++ (c ∷ [])) ++ y = cc in
    sym (append_assoc a (c ∷ []) x) ∙ g ∙ append_assoc b (c ∷ []) y

place_one : (p q : ℕ) (x y : List ℕ) → p < 2 ^ 64 → q < 2 ^ 64 → Ends x → Ends y → decimal p ++ x ≡ decimal q ++ y → (p ≡ q) × (x ≡ y)
place_one p q x y lp lq ex ey e =
    let r = cut (decimal p) (decimal q) x y (decimal_digits p lp) (decimal_digits q lq) ex ey e in
    (decimal_injective p q lp lq r.0, r.1)

marked_one : (o m : ℕ) (a b x y : List ℕ) → AreBytes a → AreBytes b → Ends x → Ends y → (o ∷ m ∷ hex a) ++ x ≡ (o ∷ m ∷ hex b) ++ y → (a ≡ b) × (x ≡ y)
marked_one o m a b x y p q ex ey e =
    let f : o ∷ m ∷ (hex a ++ x) ≡ o ∷ m ∷ (hex b ++ y) = e in
    let g : hex a ++ x ≡ hex b ++ y = cc in
    bytes_one a b x y p q ex ey g

byte_small : (i n : ℕ) → byte_at i n < 256
byte_small zero n = omega arith
byte_small (suc i) n = omega arith

be_bytes : (k n : ℕ) → AreBytes (bytes_high_first k n)
be_bytes zero n = tt
be_bytes (suc k) n = (byte_small k n, be_bytes k n)

single_one : (m n : ℕ) (x y : List ℕ) → m < 2 ^ 32 → n < 2 ^ 32 → Ends x → Ends y → value_text 0 (VFloat m) ++ x ≡ value_text 0 (VFloat n) ++ y → (m ≡ n) × (x ≡ y)
single_one m n x y lm ln ex ey e =
    let r = marked_one 102 58 (to_be_bytes w32 m) (to_be_bytes w32 n) x y (be_bytes 4 m) (be_bytes 4 n) ex ey e in
    (sym (from_be_bytes-to_be_bytes_4 m lm) ∙ ap (from_be_bytes w32) r.0 ∙ from_be_bytes-to_be_bytes_4 n ln, r.1)

double_one : (m n : ℕ) (x y : List ℕ) → m < 2 ^ 64 → n < 2 ^ 64 → Ends x → Ends y → value_text 0 (VDouble m) ++ x ≡ value_text 0 (VDouble n) ++ y → (m ≡ n) × (x ≡ y)
double_one m n x y lm ln ex ey e =
    let r = marked_one 100 58 (to_be_bytes w64 m) (to_be_bytes w64 n) x y (be_bytes 8 m) (be_bytes 8 n) ex ey e in
    (sym (from_be_bytes-to_be_bytes_8 m lm) ∙ ap (from_be_bytes w64) r.0 ∙ from_be_bytes-to_be_bytes_8 n ln, r.1)

-- no value's text begins with a closing bracket
not_closing : (place : ℕ) (w : Value) (t r : List ℕ) → IsInRange w → value_text place w ++ t ≡ 93 ∷ r → ⊥
not_closing place VNull t r h e = two_heads 110 93 _ _ e refl
not_closing place (VBoolean true) t r h e = two_heads 116 93 _ _ e refl
not_closing place (VBoolean false) t r h e = two_heads 102 93 _ _ e refl
not_closing place (VInt (pos n)) t r h e =
    let small : n < 2 ^ 64 = omega (arith, ints, h) in
    begins_with_digit (decimal n) t r 93 (decimal_digits n small) (decimal_nonempty n small) refl e
not_closing place (VInt (negsuc n)) t r h e = two_heads 45 93 _ _ e refl
not_closing place (VLong (pos n)) t r h e =
    let small : n < 2 ^ 64 = omega (arith, ints, h) in
    begins_with_digit (decimal n) t r 93 (decimal_digits n small) (decimal_nonempty n small) refl e
not_closing place (VLong (negsuc n)) t r h e = two_heads 45 93 _ _ e refl
not_closing place (VFloat n) t r h e = two_heads 102 93 _ _ e refl
not_closing place (VDouble n) t r h e = two_heads 100 93 _ _ e refl
not_closing place (VBytes b) t r h e = two_heads 120 93 _ _ e refl
not_closing place (VText b) t r h e = two_heads 34 93 _ _ e refl
not_closing place (VFixed b) t r h e = two_heads 120 93 _ _ e refl
not_closing place (VEnum p) t r h e = two_heads 64 93 _ _ e refl
not_closing place (VArray vs) t r h e = two_heads 91 93 _ _ e refl
not_closing place (VMap es) t r h e = two_heads 40 93 _ _ e refl
not_closing place (VUnion b w) t r h e = two_heads 35 93 _ _ e refl
not_closing place (VFields vs) t r h e = two_heads 123 93 _ _ e refl

-- at most one value of the schema, by its text at the place
abbrev One : Schema → ℕ → Type 0
One s place = (a b : Value) (x y : List ℕ) → HasSchema s a → HasSchema s b → IsInRange a → IsInRange b → Ends x → Ends y → value_text place a ++ x ≡ value_text place b ++ y → (a ≡ b) × (x ≡ y)

items_end : (place i : ℕ) (vs : Values) (x : List ℕ) → Ends (items_text place (suc i) vs ++ (93 ∷ x))
items_end place i v.none x = refl
items_end place i (v.more w vs) x = refl

items_one : (s : Schema) (place : ℕ) → One s place → (i : ℕ) (vs ws : Values) (x y : List ℕ) → AllByRecursion (HasSchema s) (list vs) → AllByRecursion (HasSchema s) (list ws) → AreInRange vs → AreInRange ws
    → items_text place i vs ++ (93 ∷ x) ≡ items_text place i ws ++ (93 ∷ y) → (vs ≡ ws) × (x ≡ y)
items_one s place one i v.none v.none x y h g p q e = let f : 93 ∷ x ≡ 93 ∷ y = e in let r : x ≡ y = cc in (refl, r)
items_one s place one zero v.none (v.more b ws) x y h g p q e =
    absurd (not_closing place b (items_text place 1 ws ++ (93 ∷ y)) x q.0 (sym (e ∙ regroup [] (value_text place b) (items_text place 1 ws) (93 ∷ y))))
items_one s place one (suc i) v.none (v.more b ws) x y h g p q e = absurd (two_heads 93 44 _ _ e refl)
items_one s place one zero (v.more a vs) v.none x y h g p q e =
    absurd (not_closing place a (items_text place 1 vs ++ (93 ∷ x)) y p.0 (sym (sym e ∙ regroup [] (value_text place a) (items_text place 1 vs) (93 ∷ x))))
items_one s place one (suc i) (v.more a vs) v.none x y h g p q e = absurd (two_heads 44 93 _ _ e refl)
items_one s place one i (v.more a vs) (v.more b ws) x y h g p q e =
    let f : separator i ++ (value_text place a ++ (items_text place (suc i) vs ++ (93 ∷ x))) ≡ separator i ++ (value_text place b ++ (items_text place (suc i) ws ++ (93 ∷ y))) =
    sym (regroup (separator i) (value_text place a) (items_text place (suc i) vs) (93 ∷ x)) ∙ e ∙ regroup (separator i) (value_text place b) (items_text place (suc i) ws) (93 ∷ y) in
    let r = one a b (items_text place (suc i) vs ++ (93 ∷ x)) (items_text place (suc i) ws ++ (93 ∷ y)) h.0 g.0 p.0 q.0 (items_end place i vs x) (items_end place i ws y) (strip (separator i) _ _ f) in
    let rest = items_one s place one (suc i) vs ws x y h.1 g.1 p.1 q.1 r.1 in
    let here : a ≡ b = r.0 in
    let later : vs ≡ ws = rest.0 in
    let whole : v.more a vs ≡ v.more b ws = cc in
    (whole, rest.1)

entries_end : (place i : ℕ) (es : Entries) (x : List ℕ) → Ends (entries_text place (suc i) es ++ (41 ∷ x))
entries_end place i v.none_named x = refl
entries_end place i (v.more_named n w es) x = refl

regroup_entry : (a n c t r z : List ℕ) → ((((a ++ n) ++ c) ++ t) ++ r) ++ z ≡ a ++ (n ++ (c ++ (t ++ (r ++ z))))
regroup_entry a n c t r z = append_assoc (((a ++ n) ++ c) ++ t) r z ∙ append_assoc ((a ++ n) ++ c) t (r ++ z) ∙ append_assoc (a ++ n) c (t ++ (r ++ z)) ∙ append_assoc a n (c ++ (t ++ (r ++ z)))

entries_one : (s : Schema) (place : ℕ) → One s place → (i : ℕ) (es fs : Entries) (x y : List ℕ) → AllByRecursion (λ (e : List ℕ × Value). HasSchema s e.1) (pairs es) → AllByRecursion (λ (e : List ℕ × Value). HasSchema s e.1) (pairs fs)
    → EntriesAreInRange es → EntriesAreInRange fs → entries_text place i es ++ (41 ∷ x) ≡ entries_text place i fs ++ (41 ∷ y) → (es ≡ fs) × (x ≡ y)
entries_one s place one i v.none_named v.none_named x y h g p q e = let f : 41 ∷ x ≡ 41 ∷ y = e in let r : x ≡ y = cc in (refl, r)
entries_one s place one zero v.none_named (v.more_named n b fs) x y h g p q e = absurd (two_heads 41 34 _ _ e refl)
entries_one s place one (suc i) v.none_named (v.more_named n b fs) x y h g p q e = absurd (two_heads 41 44 _ _ e refl)
entries_one s place one zero (v.more_named m a es) v.none_named x y h g p q e = absurd (two_heads 34 41 _ _ e refl)
entries_one s place one (suc i) (v.more_named m a es) v.none_named x y h g p q e = absurd (two_heads 44 41 _ _ e refl)
entries_one s place one i (v.more_named m a es) (v.more_named n b fs) x y h g p q e =
    let f = sym (regroup_entry (separator i) (quoted m) (codes ": ") (value_text place a) (entries_text place (suc i) es) (41 ∷ x)) ∙ e ∙ regroup_entry (separator i) (quoted n) (codes ": ") (value_text place b) (entries_text place (suc i) fs) (41 ∷ y) in
    let key = quoted_one m n (codes ": " ++ (value_text place a ++ (entries_text place (suc i) es ++ (41 ∷ x)))) (codes ": " ++ (value_text place b ++ (entries_text place (suc i) fs ++ (41 ∷ y)))) p.0 q.0 (strip (separator i) _ _ f) in
    let r = one a b (entries_text place (suc i) es ++ (41 ∷ x)) (entries_text place (suc i) fs ++ (41 ∷ y)) h.0 g.0 p.1 q.1 (entries_end place i es x) (entries_end place i fs y) (strip (codes ": ") _ _ key.1) in
    let rest = entries_one s place one (suc i) es fs x y h.1 g.1 p.2 q.2 r.1 in
    let name : m ≡ n = key.0 in
    let here : a ≡ b = r.0 in
    let later : es ≡ fs = rest.0 in
    let whole : v.more_named m a es ≡ v.more_named n b fs = cc in
    (whole, rest.1)

fields_end : (place i : ℕ) (vs : Values) (x : List ℕ) → Ends (fields_text place (suc i) vs ++ (125 ∷ x))
fields_end place i v.none x = refl
fields_end place i (v.more w vs) x = refl

-- the first of the parts from the i-th on, and those after it
down : (shape : ℕ → Schema) (cs : List ℕ) (i : ℕ) (s : Schema) (rest : List Schema) → map shape (drop i cs) ≡ s ∷ rest → (shape (get_or cs i 0) ≡ s) × (map shape (drop (suc i) cs) ≡ rest)
down shape [] zero s rest e = absurd (let no : [] ≡ s ∷ rest = e in cc)
down shape [] (suc i) s rest e = absurd (let no : [] ≡ s ∷ rest = e in cc)
down shape (c ∷ cs) zero s rest e = let f : shape c ∷ map shape cs ≡ s ∷ rest = e in let h : shape c ≡ s = cc in let t : map shape cs ≡ rest = cc in (h, t)
down shape (c ∷ cs) (suc i) s rest e = down shape cs i s rest e

module _ (shape : ℕ → Schema) (parts : (place : ℕ) → map shape (children_at place) ≡ parts_of (shape place)) where
  mutual
    one_text : (s : Schema) (place : ℕ) → shape place ≡ s → One s place
    one_text SNull place k VNull VNull x y h g p q ex ey e = let f : 110 ∷ 117 ∷ 108 ∷ 108 ∷ x ≡ 110 ∷ 117 ∷ 108 ∷ 108 ∷ y = e in let r : x ≡ y = cc in (refl, r)
    one_text SNull place k VNull b x y h g p q ex ey e = absurd g
    one_text SBoolean place k (VBoolean true) (VBoolean true) x y h g p q ex ey e = (refl, strip (codes "true") x y e)
    one_text SBoolean place k (VBoolean true) (VBoolean false) x y h g p q ex ey e = absurd (two_heads 116 102 _ _ e refl)
    one_text SBoolean place k (VBoolean false) (VBoolean true) x y h g p q ex ey e = absurd (two_heads 102 116 _ _ e refl)
    one_text SBoolean place k (VBoolean false) (VBoolean false) x y h g p q ex ey e = (refl, strip (codes "false") x y e)
    one_text SBoolean place k (VBoolean a) b x y h g p q ex ey e = absurd g
    one_text SInt place k (VInt a) (VInt b) x y h g p q ex ey e = let r = number_one a b x y p q ex ey e in (ap VInt r.0, r.1)
    one_text SInt place k (VInt a) b x y h g p q ex ey e = absurd g
    one_text SLong place k (VLong a) (VLong b) x y h g p q ex ey e = let r = number_one a b x y p q ex ey e in (ap VLong r.0, r.1)
    one_text SLong place k (VLong a) b x y h g p q ex ey e = absurd g
    one_text SFloat place k (VFloat a) (VFloat b) x y h g p q ex ey e = let r = single_one a b x y p q ex ey e in (ap VFloat r.0, r.1)
    one_text SFloat place k (VFloat a) b x y h g p q ex ey e = absurd g
    one_text SDouble place k (VDouble a) (VDouble b) x y h g p q ex ey e = let r = double_one a b x y p q ex ey e in (ap VDouble r.0, r.1)
    one_text SDouble place k (VDouble a) b x y h g p q ex ey e = absurd g
    one_text SBytes place k (VBytes a) (VBytes b) x y h g p q ex ey e = let r = marked_one 120 58 a b x y p q ex ey e in (ap VBytes r.0, r.1)
    one_text SBytes place k (VBytes a) b x y h g p q ex ey e = absurd g
    one_text SText place k (VText a) (VText b) x y h g p q ex ey e = let r = quoted_one a b x y p q e in (ap VText r.0, r.1)
    one_text SText place k (VText a) b x y h g p q ex ey e = absurd g
    one_text (SFixed size) place k (VFixed a) (VFixed b) x y h g p q ex ey e = let r = marked_one 120 58 a b x y p q ex ey e in (ap VFixed r.0, r.1)
    one_text (SFixed size) place k (VFixed a) b x y h g p q ex ey e = absurd g
    one_text (SEnum n) place k (VEnum a) (VEnum b) x y h g p q ex ey e =
        let f : 64 ∷ (decimal a ++ x) ≡ 64 ∷ (decimal b ++ y) = e in
        let t : decimal a ++ x ≡ decimal b ++ y = cc in
        let r = place_one a b x y (omega (arith, h)) (omega (arith, g)) ex ey t in
        (ap VEnum r.0, r.1)
    one_text (SEnum n) place k (VEnum a) b x y h g p q ex ey e = absurd g
    one_text (SArray s) place k (VArray vs) (VArray ws) x y h g p q ex ey e =
        let c = (down shape (children_at place) 0 s [] (parts place ∙ ap parts_of k)).0 in
        let r = items_one s (child_at place 0) (λ a b x y h g p q ex ey e. one_text s (child_at place 0) c a b x y h g p q ex ey e) 0 vs ws x y h g p q
        (between 91 93 (items_text (child_at place 0) 0 vs) (items_text (child_at place 0) 0 ws) x y e) in
        (ap VArray r.0, r.1)
    one_text (SArray s) place k (VArray vs) b x y h g p q ex ey e = absurd g
    one_text (SMap s) place k (VMap es) (VMap fs) x y h g p q ex ey e =
        let c = (down shape (children_at place) 0 s [] (parts place ∙ ap parts_of k)).0 in
        let r = entries_one s (child_at place 0) (λ a b x y h g p q ex ey e. one_text s (child_at place 0) c a b x y h g p q ex ey e) 0 es fs x y h g p q
        (between 40 41 (entries_text (child_at place 0) 0 es) (entries_text (child_at place 0) 0 fs) x y e) in
        (ap VMap r.0, r.1)
    one_text (SMap s) place k (VMap es) b x y h g p q ex ey e = absurd g
    one_text (SUnion ss) place k (VUnion a v) (VUnion b w) x y h g p q ex ey e =
        let f : 35 ∷ (((decimal a ++ codes " ") ++ value_text (child_at place a) v) ++ x) ≡ 35 ∷ (((decimal b ++ codes " ") ++ value_text (child_at place b) w) ++ y) = e in
        let t : ((decimal a ++ codes " ") ++ value_text (child_at place a) v) ++ x ≡ ((decimal b ++ codes " ") ++ value_text (child_at place b) w) ++ y = cc in
        let u = sym (regroup (decimal a) (codes " ") (value_text (child_at place a) v) x) ∙ t ∙ regroup (decimal b) (codes " ") (value_text (child_at place b) w) y in
        let r = place_one a b (codes " " ++ (value_text (child_at place a) v ++ x)) (codes " " ++ (value_text (child_at place b) w ++ y)) (omega (arith, h.0)) (omega (arith, g.0)) refl refl u in
        let same : b ≡ a = sym r.0 in
        let has : BranchHas ss a w = subst (λ (n : ℕ). BranchHas ss n w) same g.1 in
        let text : value_text (child_at place a) v ++ x ≡ value_text (child_at place a) w ++ y =
        subst (λ (n : ℕ). value_text (child_at place a) v ++ x ≡ value_text (child_at place n) w ++ y) same (strip (codes " ") _ _ r.1) in
        let s = branch_one ss (children_at place) (parts place ∙ ap parts_of k) a v w x y h.1 has p q ex ey text in
        let place_same : a ≡ b = r.0 in
        let value_same : v ≡ w = s.0 in
        let whole : VUnion a v ≡ VUnion b w = cc in
        (whole, s.1)
    one_text (SUnion ss) place k (VUnion a v) b x y h g p q ex ey e = absurd g
    one_text (SFields ss) place k (VFields vs) (VFields ws) x y h g p q ex ey e =
        let r = fields_one ss place 0 (parts place ∙ ap parts_of k) vs ws x y h g p q
        (between 123 125 (fields_text place 0 vs) (fields_text place 0 ws) x y e) in
        (ap VFields r.0, r.1)
    one_text (SFields ss) place k (VFields vs) b x y h g p q ex ey e = absurd g
    one_text s place k a b x y h g p q ex ey e = absurd h

    fields_one : (ss : Schemas) (place i : ℕ) → map shape (drop i (children_at place)) ≡ listed ss → (vs ws : Values) (x y : List ℕ) → FieldsHave ss (list vs) → FieldsHave ss (list ws) → AreInRange vs → AreInRange ws
        → fields_text place i vs ++ (125 ∷ x) ≡ fields_text place i ws ++ (125 ∷ y) → (vs ≡ ws) × (x ≡ y)
    fields_one none place i k v.none v.none x y h g p q e = let f : 125 ∷ x ≡ 125 ∷ y = e in let r : x ≡ y = cc in (refl, r)
    fields_one none place i k v.none (v.more b ws) x y h g p q e = absurd g
    fields_one none place i k (v.more a vs) ws x y h g p q e = absurd h
    fields_one (more s ss) place i k v.none ws x y h g p q e = absurd h
    fields_one (more s ss) place i k (v.more a vs) v.none x y h g p q e = absurd g
    fields_one (more s ss) place i k (v.more a vs) (v.more b ws) x y h g p q e =
        let d = down shape (children_at place) i s (listed ss) k in
        let c = child_at place i in
        let f = sym (regroup_entry (separator i) (field_at place i) (codes "=") (value_text c a) (fields_text place (suc i) vs) (125 ∷ x)) ∙ e ∙ regroup_entry (separator i) (field_at place i) (codes "=") (value_text c b) (fields_text place (suc i) ws) (125 ∷ y) in
        let r = one_text s c d.0 a b (fields_text place (suc i) vs ++ (125 ∷ x)) (fields_text place (suc i) ws ++ (125 ∷ y)) h.0 g.0 p.0 q.0 (fields_end place i vs x) (fields_end place i ws y)
        (strip (codes "=") _ _ (strip (field_at place i) _ _ (strip (separator i) _ _ f))) in
        let rest = fields_one ss place (suc i) d.1 vs ws x y h.1 g.1 p.1 q.1 r.1 in
        let here : a ≡ b = r.0 in
        let later : vs ≡ ws = rest.0 in
        let whole : v.more a vs ≡ v.more b ws = cc in
        (whole, rest.1)

    branch_one : (ss : Schemas) (cs : List ℕ) → map shape cs ≡ listed ss → (n : ℕ) (a b : Value) (x y : List ℕ) → BranchHas ss n a → BranchHas ss n b → IsInRange a → IsInRange b → Ends x → Ends y
        → value_text (get_or cs n 0) a ++ x ≡ value_text (get_or cs n 0) b ++ y → (a ≡ b) × (x ≡ y)
    branch_one none cs k n a b x y h g p q ex ey e = absurd h
    branch_one (more s ss) [] k n a b x y h g p q ex ey e = absurd (let no : [] ≡ s ∷ listed ss = k in cc)
    branch_one (more s ss) (c ∷ cs) k zero a b x y h g p q ex ey e =
        let f : shape c ∷ map shape cs ≡ s ∷ listed ss = k in
        let here : shape c ≡ s = cc in
        one_text s c here a b x y h g p q ex ey e
    branch_one (more s ss) (c ∷ cs) k (suc n) a b x y h g p q ex ey e =
        let f : shape c ∷ map shape cs ≡ s ∷ listed ss = k in
        let later : map shape cs ≡ listed ss = cc in
        branch_one ss cs later n a b x y h g p q ex ey e

pub text_one : OneText
text_one place a b x y h g p q ex ey e = one_text shape_at parts_are (shape_at place) place refl a b x y h g p q ex ey e
