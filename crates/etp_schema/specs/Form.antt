-- How the values of a type correspond to those of a schema, one to one, and the forms of what a field can hold.
use Rattle.std.proofs.Common.{◌∙◌, ap, sym, subst, inl, inr, zero-add}
use Rattle.std.proofs.Math.ListN.{get_or-map}
use Rattle.std.proofs.lemmas.List.FromFn.{get_or-range_with_len}
use Rattle.std.specs.Prelude.{◌≡◌, refl, Bool, false, ℕ, zero, suc, ℤ, pos, List, [], ◌∷◌, ◌++◌, map, length, get_or, replicate, ◌<◌, ◌==◌, Option, Some, None, Ok, Err, ◌⊎◌, if◌then◌else◌}
use Rattle.std.specs.List.{AllByRecursion, range_with_len}
use Rattle.etp_values.specs.declared.bits.Bits32.{Bits32}
use Rattle.etp_values.specs.declared.bits.Bits64.{Bits64}
use Rattle.avro_bin.specs.Value.{Value, Values, Entries, VNull, VBoolean, VInt, VLong, VFloat, VDouble, VBytes, VText, VFixed, VEnum, VArray, VMap, VUnion, VFields, row, list, entries, pairs}
use Rattle.avro_bin.specs.Value as v
use Rattle.avro_bin.specs.Schema.{Schema, Schemas, SNull, SBoolean, SInt, SLong, SFloat, SDouble, SBytes, SText, SFixed, SEnum, SArray, SMap, SUnion, SFields}
use Rattle.avro_bin.specs.Schema as s
use Rattle.avro_bin.specs.Shape.{HasSchema, FieldsHave, BranchHas}
use Rattle.avro_bin.specs.declared.fault.Why.TheVariants as why
use Rattle.std.specs.Int.{w32, w64}
use Rattle.etp_values.specs.Entries.{on_value}
use Rattle.avro_bin.proofs.AgainLemmas.{row_list}
use Rattle.avro_bin.proofs.FoundLemmas.{list_row}
use Rattle.avro_bin.specs.Reading.{Read, Got, Row as Values_so_far, Names, ◌>>=◌, places, count, with, in_branch, element_at, entry_at, pushed, value_at, fields_at, branch_at, blocks_at, boolean_at, int_at, number_at, fixed_number_at, blob_at, text_at, bytes_at, place_at}
use Rattle.avro_bin.specs.Along.{along, seen, push_at, put_at}
use Rattle.avro_bin.proofs.AlongLemmas.{along_twice, along_same, then_along, blocks_along, push_along, put_along, listed_is, mapped_is, in_branch_is, fields_front}

-- The values of a type as the values of a schema, and what a value of any schema is read as. They correspond one to one: what was written
-- reads back, and if the value has the schema, what was read from it is written as it was. They are also read from the front of bytes, with
-- at most a given number of nodes: as the value there is read.
pub record Form (A : Type 0) : Type 0 where
  pub schema : Schema
  pub as_value : A → Value
  pub from_value : Value → A
  pub back : (x : A) → HasSchema schema (as_value x) → from_value (as_value x) ≡ x
  pub there : (v : Value) → HasSchema schema v → as_value (from_value v) ≡ v
  pub at : ℕ → List ℕ → Read (A × ℕ)
  pub at_is : (n : ℕ) (bytes : List ℕ) → at n bytes ≡ along (seen from_value) (value_at schema n bytes)

-- the value's schema is the form's
unfoldable pub Holds : {A : Type 0} → Form A → A → Type 0
Holds f x = HasSchema f.schema (f.as_value x)

-- what a value is read as if a boolean, an int and so on is expected: itself, or a default for another kind
abbrev pub boolean_in : Value → Bool
boolean_in (VBoolean b) = b
boolean_in _ = false

abbrev pub int_in : Value → ℤ
int_in (VInt x) = x
int_in _ = pos 0

abbrev pub long_in : Value → ℤ
long_in (VLong x) = x
long_in _ = pos 0

abbrev pub float_in : Value → Bits32
float_in (VFloat n) = record { 0 = n }
float_in _ = record { 0 = 0 }

abbrev pub double_in : Value → Bits64
double_in (VDouble n) = record { 0 = n }
double_in _ = record { 0 = 0 }

abbrev pub bytes_in : Value → List ℕ
bytes_in (VBytes b) = b
bytes_in _ = []

abbrev pub text_in : Value → List ℕ
text_in (VText b) = b
text_in _ = []

-- sixteen bytes, or sixteen zeros instead of any other number of bytes
abbrev pub id_of : List ℕ → List ℕ
id_of b = if length b == 16 then b else replicate 16 0

abbrev pub id_in : Value → List ℕ
id_in (VFixed b) = id_of b
id_in _ = replicate 16 0

-- the place of an enum's symbol; 0 for any other value
abbrev pub symbol_in : Value → ℕ
symbol_in (VEnum p) = p
symbol_in _ = 0

abbrev pub list_in : Value → List Value
list_in (VArray vs) = list vs
list_in _ = []

abbrev pub named_in : Value → List (List ℕ × Value)
named_in (VMap es) = pairs es
named_in _ = []

-- the values of a record's fields; none for any other value
abbrev pub fields_in : Value → List Value
fields_in (VFields vs) = list vs
fields_in _ = []

-- the place of a union's branch; 0 for any other value
abbrev pub branch_in : Value → ℕ
branch_in (VUnion p x) = p
branch_in _ = 0

-- the value in a union's branch; null for any other value
abbrev pub chosen_in : Value → Value
chosen_in (VUnion p x) = x
chosen_in _ = VNull

-- the first value, and null if there is none
abbrev pub first : List Value → Value
first [] = VNull
first (x ∷ xs) = x

-- the values after the first
abbrev pub rest : List Value → List Value
rest [] = []
rest (x ∷ xs) = xs

-- a value's node: one fewer is allowed after it
abbrev pub node_at : {A : Type 0} → (ℕ → List ℕ → Read (A × ℕ)) → ℕ → List ℕ → Read (A × ℕ)
node_at inside zero bytes = Err (why.Limit, length bytes)
node_at inside (suc n) bytes = inside n bytes

-- what one node holds, seen through f, and the nodes that are still allowed
abbrev pub leaf_at : {A B : Type 0} → (B → A) → (List ℕ → Read B) → ℕ → List ℕ → Read (A × ℕ)
leaf_at f leaf n bytes = along (λ x. (f x, n)) (leaf bytes)

pub leaf_seen : {A B : Type 0} (f : B → A) (from : Value → A) (v : B → Value) (n : ℕ) (r : Read B) → ((x : B) → f x ≡ from (v x)) → along (λ x. (f x, n)) r ≡ along (seen from) (with n v r)
leaf_seen {A} f from v n (Ok x) same = ap (λ (y : A). Ok ((y, n), x.1)) (same x.0)
leaf_seen f from v n (Err e) same = refl

pub boolean_there : (x : Value) → HasSchema SBoolean x → VBoolean (boolean_in x) ≡ x
boolean_there (VBoolean b) h = refl
boolean_there x h = absurd h

pub boolean_at_is : (n : ℕ) (bytes : List ℕ) → node_at (leaf_at (λ x. x) boolean_at) n bytes ≡ along (seen boolean_in) (value_at SBoolean n bytes)
unfolding value_at
boolean_at_is zero bytes = refl
boolean_at_is (suc n) bytes = leaf_seen (λ x. x) boolean_in VBoolean n (boolean_at bytes) (λ x. refl)

abbrev pub boolean_form : Form Bool
boolean_form = record { schema = SBoolean; as_value = VBoolean; from_value = boolean_in; back = λ x h. refl; there = boolean_there; at = node_at (leaf_at (λ x. x) boolean_at); at_is = boolean_at_is }

pub int_there : (x : Value) → HasSchema SInt x → VInt (int_in x) ≡ x
int_there (VInt z) h = refl
int_there x h = absurd h

pub int_at_is : (n : ℕ) (bytes : List ℕ) → node_at (leaf_at (λ x. x) int_at) n bytes ≡ along (seen int_in) (value_at SInt n bytes)
unfolding value_at
int_at_is zero bytes = refl
int_at_is (suc n) bytes = leaf_seen (λ x. x) int_in VInt n (int_at bytes) (λ x. refl)

abbrev pub int_form : Form ℤ
int_form = record { schema = SInt; as_value = VInt; from_value = int_in; back = λ x h. refl; there = int_there; at = node_at (leaf_at (λ x. x) int_at); at_is = int_at_is }

pub long_there : (x : Value) → HasSchema SLong x → VLong (long_in x) ≡ x
long_there (VLong z) h = refl
long_there x h = absurd h

pub long_at_is : (n : ℕ) (bytes : List ℕ) → node_at (leaf_at (λ x. x) number_at) n bytes ≡ along (seen long_in) (value_at SLong n bytes)
unfolding value_at
long_at_is zero bytes = refl
long_at_is (suc n) bytes = leaf_seen (λ x. x) long_in VLong n (number_at bytes) (λ x. refl)

abbrev pub long_form : Form ℤ
long_form = record { schema = SLong; as_value = VLong; from_value = long_in; back = λ x h. refl; there = long_there; at = node_at (leaf_at (λ x. x) number_at); at_is = long_at_is }

-- a number as the bits of a single
abbrev pub bits_32 : ℕ → Bits32
bits_32 n = record { 0 = n }

pub float_there : (x : Value) → HasSchema SFloat x → VFloat (float_in x).0 ≡ x
float_there (VFloat n) h = refl
float_there x h = absurd h

pub float_at_is : (n : ℕ) (bytes : List ℕ) → node_at (leaf_at bits_32 (fixed_number_at w32)) n bytes ≡ along (seen float_in) (value_at SFloat n bytes)
unfolding value_at
float_at_is zero bytes = refl
float_at_is (suc n) bytes = leaf_seen bits_32 float_in VFloat n ((fixed_number_at w32) bytes) (λ x. refl)

abbrev pub float_form : Form Bits32
float_form = record { schema = SFloat; as_value = λ x. VFloat x.0; from_value = float_in; back = λ x h. refl; there = float_there; at = node_at (leaf_at bits_32 (fixed_number_at w32)); at_is = float_at_is }

-- a number as the bits of a double
abbrev pub bits_64 : ℕ → Bits64
bits_64 n = record { 0 = n }

pub double_there : (x : Value) → HasSchema SDouble x → VDouble (double_in x).0 ≡ x
double_there (VDouble n) h = refl
double_there x h = absurd h

pub double_at_is : (n : ℕ) (bytes : List ℕ) → node_at (leaf_at bits_64 (fixed_number_at w64)) n bytes ≡ along (seen double_in) (value_at SDouble n bytes)
unfolding value_at
double_at_is zero bytes = refl
double_at_is (suc n) bytes = leaf_seen bits_64 double_in VDouble n ((fixed_number_at w64) bytes) (λ x. refl)

abbrev pub double_form : Form Bits64
double_form = record { schema = SDouble; as_value = λ x. VDouble x.0; from_value = double_in; back = λ x h. refl; there = double_there; at = node_at (leaf_at bits_64 (fixed_number_at w64)); at_is = double_at_is }

pub bytes_there : (x : Value) → HasSchema SBytes x → VBytes (bytes_in x) ≡ x
bytes_there (VBytes b) h = refl
bytes_there x h = absurd h

pub bytes_at_is : (n : ℕ) (bytes : List ℕ) → node_at (leaf_at (λ x. x) blob_at) n bytes ≡ along (seen bytes_in) (value_at SBytes n bytes)
unfolding value_at
bytes_at_is zero bytes = refl
bytes_at_is (suc n) bytes = leaf_seen (λ x. x) bytes_in VBytes n (blob_at bytes) (λ x. refl)

abbrev pub bytes_form : Form (List ℕ)
bytes_form = record { schema = SBytes; as_value = VBytes; from_value = bytes_in; back = λ x h. refl; there = bytes_there; at = node_at (leaf_at (λ x. x) blob_at); at_is = bytes_at_is }

pub text_there : (x : Value) → HasSchema SText x → VText (text_in x) ≡ x
text_there (VText b) h = refl
text_there x h = absurd h

pub text_at_is : (n : ℕ) (bytes : List ℕ) → node_at (leaf_at (λ x. x) text_at) n bytes ≡ along (seen text_in) (value_at SText n bytes)
unfolding value_at
text_at_is zero bytes = refl
text_at_is (suc n) bytes = leaf_seen (λ x. x) text_in VText n (text_at bytes) (λ x. refl)

abbrev pub text_form : Form (List ℕ)
text_form = record { schema = SText; as_value = VText; from_value = text_in; back = λ x h. refl; there = text_there; at = node_at (leaf_at (λ x. x) text_at); at_is = text_at_is }

-- sixteen bytes at the front
abbrev pub sixteen_at : List ℕ → Read (List ℕ)
sixteen_at bytes = bytes_at (length bytes) 16 bytes

pub sixteen : (b : List ℕ) → length b ≡ 16 → id_of b ≡ b
sixteen b h = ap (λ (n : ℕ). if n == 16 then b else replicate 16 0) h

pub id_there : (x : Value) → HasSchema (SFixed 16) x → VFixed (id_in x) ≡ x
id_there (VFixed b) h = ap VFixed (sixteen b h)
id_there x h = absurd h

pub id_at_is : (n : ℕ) (bytes : List ℕ) → node_at (leaf_at id_of sixteen_at) n bytes ≡ along (seen id_in) (value_at (SFixed 16) n bytes)
unfolding value_at
id_at_is zero bytes = refl
id_at_is (suc n) bytes = leaf_seen id_of id_in VFixed n (sixteen_at bytes) (λ x. refl)

-- an identifier: sixteen bytes
abbrev pub id_form : Form (List ℕ)
id_form = record { schema = SFixed 16; as_value = VFixed; from_value = id_in; back = sixteen; there = id_there; at = node_at (leaf_at id_of sixteen_at); at_is = id_at_is }

pub symbol_again : {A : Type 0} (all : List A) (past : A) (place : A → ℕ) → map place all ≡ range_with_len 0 (length all) → places (length all) ≡ length all → (p : ℕ) → p < places (length all) → place (get_or all p past) ≡ p
symbol_again all past place order few p h =
    sym (get_or-map place all p past)
    ∙ ap (λ l. get_or l p (place past)) order
    ∙ get_or-range_with_len 0 (length all) p (place past) (subst (λ (n : ℕ). p < n) few h)
    ∙ zero-add p

pub symbol_there : {A : Type 0} (all : List A) (past : A) (place : A → ℕ) → map place all ≡ range_with_len 0 (length all) → places (length all) ≡ length all → (x : Value) → HasSchema (SEnum (length all)) x → VEnum (place (get_or all (symbol_in x) past)) ≡ x
symbol_there all past place order few (VEnum p) h = ap VEnum (symbol_again all past place order few p h)
symbol_there all past place order few x h = absurd h

pub symbol_at_is : {A : Type 0} (all : List A) (past : A) (n : ℕ) (bytes : List ℕ) → node_at (leaf_at (λ p. get_or all p past) (place_at (length all))) n bytes ≡ along (seen (λ x. get_or all (symbol_in x) past)) (value_at (SEnum (length all)) n bytes)
unfolding value_at
symbol_at_is all past zero bytes = refl
symbol_at_is all past (suc n) bytes = leaf_seen (λ p. get_or all p past) (λ x. get_or all (symbol_in x) past) VEnum n (place_at (length all) bytes) (λ p. refl)

-- an enumeration: its symbols in order, which of them is used for a place beyond the last, and the place of each
abbrev pub symbols : {A : Type 0} (all : List A) (past : A) (place : A → ℕ) → ((x : A) → get_or all (place x) past ≡ x) → map place all ≡ range_with_len 0 (length all) → places (length all) ≡ length all → Form A
symbols all past place again order few = record {
  schema = SEnum (length all);
  as_value = λ x. VEnum (place x);
  from_value = λ x. get_or all (symbol_in x) past;
  back = λ x h. again x;
  there = symbol_there all past place order few;
  at = node_at (leaf_at (λ p. get_or all p past) (place_at (length all)));
  at_is = symbol_at_is all past;
}

pub pairs_entries : (ps : List (List ℕ × Value)) → pairs (entries ps) ≡ ps
pairs_entries [] = refl
pairs_entries (p ∷ ps) = λ i. p ∷ pairs_entries ps i

pub list_back : {A : Type 0} (f : Form A) (xs : List A) → AllByRecursion (HasSchema f.schema) (list (row (map f.as_value xs))) → map f.from_value (list (row (map f.as_value xs))) ≡ xs
list_back f [] h = refl
list_back f (x ∷ xs) h = λ i. f.back x h.0 i ∷ list_back f xs h.1 i

pub values_there : {A : Type 0} (f : Form A) (vs : Values) → AllByRecursion (HasSchema f.schema) (list vs) → row (map f.as_value (map f.from_value (list vs))) ≡ vs
values_there f v.none h = refl
values_there f (v.more x vs) h = λ i. v.more (f.there x h.0 i) (values_there f vs h.1 i)

pub list_there : {A : Type 0} (f : Form A) (x : Value) → HasSchema (SArray f.schema) x → VArray (row (map f.as_value (map f.from_value (list_in x)))) ≡ x
list_there f (VArray vs) h = ap VArray (values_there f vs h)
list_there f x h = absurd h

-- the items of blocks, read one by one
abbrev pub list_at : {A : Type 0} → Form A → ℕ → List ℕ → Read (List A × ℕ)
list_at f n bytes = blocks_at (push_at f.at) (suc (length bytes)) ([], n) bytes

pub list_at_is : {A : Type 0} (f : Form A) (n : ℕ) (bytes : List ℕ) → node_at (list_at f) n bytes ≡ along (seen (λ x. map f.from_value (list_in x))) (value_at (SArray f.schema) n bytes)
unfolding value_at
list_at_is f zero bytes = refl
list_at_is {A} f (suc n) bytes =
    let r : Read Values_so_far = blocks_at (element_at (value_at f.schema)) (suc (length bytes)) ([], n) bytes in
    blocks_along (seen (map f.from_value)) (element_at (value_at f.schema)) (push_at f.at) (push_along f.from_value (value_at f.schema) f.at f.at_is) (suc (length bytes)) ([], n) bytes
    ∙ along_same (seen (map f.from_value)) (λ s. (map f.from_value (list (row s.0)), s.1)) r (λ s. ap (λ (vs : List Value). (map f.from_value vs, s.1)) (sym (list_row s.0)))
    ∙ sym (along_twice (seen (λ x. map f.from_value (list_in x))) (λ s. (VArray (row s.0), s.1)) r)
    ∙ ap (along (seen (λ x. map f.from_value (list_in x)))) (sym (listed_is VArray r))

-- a list
abbrev pub list_form : {A : Type 0} → Form A → Form (List A)
list_form f = record {
  schema = SArray f.schema;
  as_value = λ xs. VArray (row (map f.as_value xs));
  from_value = λ x. map f.from_value (list_in x);
  back = list_back f;
  there = list_there f;
  at = node_at (list_at f);
  at_is = list_at_is f;
}

pub named_back : {A : Type 0} (f : Form A) (xs : List (List ℕ × A)) → AllByRecursion (λ e. HasSchema f.schema e.1) (pairs (entries (map (on_value f.as_value) xs))) → map (on_value f.from_value) (pairs (entries (map (on_value f.as_value) xs))) ≡ xs
named_back f [] h = refl
named_back f (x ∷ xs) h = λ i. (x.0, f.back x.1 h.0 i) ∷ named_back f xs h.1 i

pub entries_there : {A : Type 0} (f : Form A) (es : Entries) → AllByRecursion (λ e. HasSchema f.schema e.1) (pairs es) → entries (map (on_value f.as_value) (map (on_value f.from_value) (pairs es))) ≡ es
entries_there f v.none_named h = refl
entries_there f (v.more_named n x es) h = λ i. v.more_named n (f.there x h.0 i) (entries_there f es h.1 i)

pub named_there : {A : Type 0} (f : Form A) (x : Value) → HasSchema (SMap f.schema) x → VMap (entries (map (on_value f.as_value) (map (on_value f.from_value) (named_in x)))) ≡ x
named_there f (VMap es) h = ap VMap (entries_there f es h)
named_there f x h = absurd h

-- the entries of blocks, read one by one
abbrev pub named_at : {A : Type 0} → Form A → ℕ → List ℕ → Read (List (List ℕ × A) × ℕ)
named_at f n bytes = blocks_at (put_at f.at) (suc (length bytes)) ([], n) bytes

pub named_at_is : {A : Type 0} (f : Form A) (n : ℕ) (bytes : List ℕ) → node_at (named_at f) n bytes ≡ along (seen (λ x. map (on_value f.from_value) (named_in x))) (value_at (SMap f.schema) n bytes)
unfolding value_at
named_at_is f zero bytes = refl
named_at_is {A} f (suc n) bytes =
    let r : Read Names = blocks_at (entry_at (value_at f.schema)) (suc (length bytes)) ([], n) bytes in
    blocks_along (seen (map (on_value f.from_value))) (entry_at (value_at f.schema)) (put_at f.at) (put_along f.from_value (value_at f.schema) f.at f.at_is) (suc (length bytes)) ([], n) bytes
    ∙ along_same (seen (map (on_value f.from_value))) (λ s. (map (on_value f.from_value) (pairs (entries s.0)), s.1)) r (λ s. ap (λ (es : List (List ℕ × Value)). (map (on_value f.from_value) es, s.1)) (sym (pairs_entries s.0)))
    ∙ sym (along_twice (seen (λ x. map (on_value f.from_value) (named_in x))) (λ s. (VMap (entries s.0), s.1)) r)
    ∙ ap (along (seen (λ x. map (on_value f.from_value) (named_in x)))) (sym (mapped_is r))

-- values under names
abbrev pub named_form : {A : Type 0} → Form A → Form (List (List ℕ × A))
named_form f = record {
  schema = SMap f.schema;
  as_value = λ xs. VMap (entries (map (on_value f.as_value) xs));
  from_value = λ x. map (on_value f.from_value) (named_in x);
  back = named_back f;
  there = named_there f;
  at = node_at (named_at f);
  at_is = named_at_is f;
}

-- The forms of a record's fields, one after the other.
pub record Row (A : Type 0) : Type 0 where
  pub schemas : Schemas
  pub as_values : A → List Value
  pub from_values : List Value → A
  pub back : (x : A) → FieldsHave schemas (as_values x) → from_values (as_values x) ≡ x
  pub there : (vs : List Value) → FieldsHave schemas vs → as_values (from_values vs) ≡ vs
  pub at : ℕ → List ℕ → Read (A × ℕ)
  pub at_is : (n : ℕ) (bytes : List ℕ) → at n bytes ≡ along (seen from_values) (fields_at schemas ([], n) bytes)

pub done_there : (vs : List Value) → FieldsHave s.none vs → [] ≡ vs
done_there [] h = refl
done_there (x ∷ xs) h = absurd h

abbrev pub done_at : ℕ → List ℕ → Read (Unit {0} × ℕ)
done_at n bytes = Ok ((tt, n), bytes)

pub done_at_is : (n : ℕ) (bytes : List ℕ) → done_at n bytes ≡ along (seen (λ vs. tt)) (fields_at s.none ([], n) bytes)
unfolding value_at
done_at_is n bytes = refl

-- no more fields
abbrev pub done : Row (Unit {0})
done = record { schemas = s.none; as_values = λ x. []; from_values = λ vs. tt; back = λ x h. refl; there = done_there; at = done_at; at_is = done_at_is }

pub and_there : {A B : Type 0} (f : Form A) (r : Row B) (vs : List Value) → FieldsHave (s.more f.schema r.schemas) vs → f.as_value (f.from_value (first vs)) ∷ r.as_values (r.from_values (rest vs)) ≡ vs
and_there f r [] h = absurd h
and_there f r (x ∷ xs) h = λ i. f.there x h.0 i ∷ r.there xs h.1 i

-- a field's value before the others
abbrev pub joined : {A B : Type 0} → A → B × ℕ → (A × B) × ℕ
joined x y = ((x, y.0), y.1)

-- a field is read, and then the others
abbrev pub and_at : {A B : Type 0} → Form A → Row B → ℕ → List ℕ → Read ((A × B) × ℕ)
and_at f r n bytes = f.at n bytes >>= λ x. along (joined x.0.0) (r.at x.0.1 x.1)

pub and_seen : {A B : Type 0} (f : Form A) (r : Row B) (g : Read Got) →
    (along (seen f.from_value) g >>= λ x. along (joined x.0.0) (r.at x.0.1 x.1)) ≡ along (seen (λ vs. (f.from_value (first vs), r.from_values (rest vs)))) (pushed [] g >>= λ x. fields_at r.schemas x.0 x.1)
and_seen f r (Err e) = refl
and_seen {A} {B} f r (Ok x) =
    let q : Read Values_so_far = fields_at r.schemas ([], x.0.1) x.1 in
    let both : List Value × ℕ → (A × B) × ℕ = seen (λ vs. (f.from_value (first vs), r.from_values (rest vs))) in
    ap (along (joined (f.from_value x.0.0))) (r.at_is x.0.1 x.1)
    ∙ along_twice (joined (f.from_value x.0.0)) (seen r.from_values) q
    ∙ sym (along_twice both (λ t. (x.0.0 ∷ [] ++ t.0, t.1)) q)
    ∙ ap (along both) (sym (fields_front r.schemas (x.0.0 ∷ []) x.0.1 x.1))

pub and_at_is : {A B : Type 0} (f : Form A) (r : Row B) (n : ℕ) (bytes : List ℕ) → and_at f r n bytes ≡ along (seen (λ vs. (f.from_value (first vs), r.from_values (rest vs)))) (fields_at (s.more f.schema r.schemas) ([], n) bytes)
unfolding value_at element_at
and_at_is {A} {B} f r n bytes =
    ap (λ (g : Read (A × ℕ)). g >>= λ x. along (joined x.0.0) (r.at x.0.1 x.1)) (f.at_is n bytes) ∙ and_seen f r (value_at f.schema n bytes)

-- a field, and more fields
infixr 5 ◌&◌
abbrev pub ◌&◌ : {A B : Type 0} → Form A → Row B → Row (A × B)
f & r = record {
  schemas = s.more f.schema r.schemas;
  as_values = λ p. f.as_value p.0 ∷ r.as_values p.1;
  from_values = λ vs. (f.from_value (first vs), r.from_values (rest vs));
  back = λ p h. λ i. (f.back p.0 h.0 i, r.back p.1 h.1 i);
  there = and_there f r;
  at = and_at f r;
  at_is = and_at_is f r;
}

pub fields_back : {A : Type 0} (r : Row A) (x : A) → FieldsHave r.schemas (list (row (r.as_values x))) → r.from_values (list (row (r.as_values x))) ≡ x
fields_back r x h = ap r.from_values (list_row (r.as_values x)) ∙ r.back x (subst (FieldsHave r.schemas) (list_row (r.as_values x)) h)

pub fields_there : {A B : Type 0} (r : Row A) (parts : B → A) (whole : A → B) → ((p : A) → parts (whole p) ≡ p) → (x : Value) → HasSchema (SFields r.schemas) x → VFields (row (r.as_values (parts (whole (r.from_values (fields_in x)))))) ≡ x
fields_there r parts whole same (VFields vs) h =
    (λ i. VFields (row (r.as_values (same (r.from_values (list vs)) i)))) ∙ (λ i. VFields (row (r.there (list vs) h i))) ∙ (λ i. VFields (row_list vs i))
fields_there r parts whole same x h = absurd h

abbrev pub record_at : {A B : Type 0} → Row A → (A → B) → ℕ → List ℕ → Read (B × ℕ)
record_at r whole n bytes = along (seen whole) (r.at n bytes)

pub fields_at_is : {A B : Type 0} (r : Row A) (whole : A → B) (n : ℕ) (bytes : List ℕ) → node_at (record_at r whole) n bytes ≡ along (seen (λ x. whole (r.from_values (fields_in x)))) (value_at (SFields r.schemas) n bytes)
unfolding value_at
fields_at_is r whole zero bytes = refl
fields_at_is r whole (suc n) bytes =
    let q : Read Values_so_far = fields_at r.schemas ([], n) bytes in
    ap (along (seen whole)) (r.at_is n bytes)
    ∙ along_twice (seen whole) (seen r.from_values) q
    ∙ along_same (λ s. (whole (r.from_values s.0), s.1)) (λ s. (whole (r.from_values (list (row s.0))), s.1)) q (λ s. ap (λ (vs : List Value). (whole (r.from_values vs), s.1)) (sym (list_row s.0)))
    ∙ sym (along_twice (seen (λ x. whole (r.from_values (fields_in x)))) (λ s. (VFields (row s.0), s.1)) q)
    ∙ ap (along (seen (λ x. whole (r.from_values (fields_in x))))) (sym (listed_is VFields q))

-- a record with these fields: its parts in order, and the record that has these parts
abbrev pub fields : {A B : Type 0} → Row A → (parts : B → A) → (whole : A → B) → ((x : B) → whole (parts x) ≡ x) → ((p : A) → parts (whole p) ≡ p) → Form B
fields r parts whole again same = record {
  schema = SFields r.schemas;
  as_value = λ x. VFields (row (r.as_values (parts x)));
  from_value = λ x. whole (r.from_values (fields_in x));
  back = λ x h. ap whole (fields_back r (parts x) h) ∙ again x;
  there = fields_there r parts whole same;
  at = node_at (record_at r whole);
  at_is = fields_at_is r whole;
}

-- a record with one field, which represents the field's value
abbrev pub wrapped : {A : Type 0} → Form A → Form A
wrapped f = fields (f & done) (λ x. (x, tt)) (λ p. p.0) (λ x. refl) (λ p. refl)

-- The forms of a union's branches, one after the other.
pub record Choice (A : Type 0) : Type 0 where
  pub schemas : Schemas
  pub place : A → ℕ
  pub as_value : A → Value
  pub from_branch : ℕ → Value → A
  pub back : (x : A) → BranchHas schemas (place x) (as_value x) → from_branch (place x) (as_value x) ≡ x
  pub there : (p : ℕ) (x : Value) → BranchHas schemas p x → (place (from_branch p x) ≡ p) × (as_value (from_branch p x) ≡ x)
  pub at : ℕ → ℕ → List ℕ → Read (A × ℕ)
  pub at_is : (p n : ℕ) (bytes : List ℕ) → at p n bytes ≡ along (seen (from_branch p)) (branch_at schemas p n bytes)

pub last_there : {A : Type 0} (f : Form A) (p : ℕ) (x : Value) → BranchHas (s.more f.schema s.none) p x → (0 ≡ p) × (f.as_value (f.from_value x) ≡ x)
last_there f zero x h = (refl, f.there x h)
last_there f (suc p) x h = absurd h

abbrev pub last_at : {A : Type 0} → Form A → ℕ → ℕ → List ℕ → Read (A × ℕ)
last_at f zero n bytes = f.at n bytes
last_at f (suc p) n bytes = Err (why.Branch, length bytes)

pub last_at_is : {A : Type 0} (f : Form A) (p n : ℕ) (bytes : List ℕ) → last_at f p n bytes ≡ along (seen f.from_value) (branch_at (s.more f.schema s.none) p n bytes)
unfolding value_at
last_at_is f zero n bytes = f.at_is n bytes
last_at_is f (suc p) n bytes = refl

-- the last branch
abbrev pub last : {A : Type 0} → Form A → Choice A
last f = record {
  schemas = s.more f.schema s.none;
  place = λ x. 0;
  as_value = f.as_value;
  from_branch = λ p x. f.from_value x;
  back = f.back;
  there = last_there f;
  at = last_at f;
  at_is = last_at_is f;
}

abbrev pub or_place : {A B : Type 0} → Choice B → A ⊎ B → ℕ
or_place c (inl a) = 0
or_place c (inr b) = suc (c.place b)

abbrev pub or_value : {A B : Type 0} → Form A → Choice B → A ⊎ B → Value
or_value f c (inl a) = f.as_value a
or_value f c (inr b) = c.as_value b

abbrev pub or_from : {A B : Type 0} → Form A → Choice B → ℕ → Value → A ⊎ B
or_from f c zero x = inl (f.from_value x)
or_from f c (suc p) x = inr (c.from_branch p x)

pub or_back : {A B : Type 0} (f : Form A) (c : Choice B) (x : A ⊎ B) → BranchHas (s.more f.schema c.schemas) (or_place c x) (or_value f c x) → or_from f c (or_place c x) (or_value f c x) ≡ x
or_back f c (inl a) h = ap inl (f.back a h)
or_back f c (inr b) h = ap inr (c.back b h)

pub or_there : {A B : Type 0} (f : Form A) (c : Choice B) (p : ℕ) (x : Value) → BranchHas (s.more f.schema c.schemas) p x → (or_place c (or_from f c p x) ≡ p) × (or_value f c (or_from f c p x) ≡ x)
or_there f c zero x h = (refl, f.there x h)
or_there f c (suc p) x h = let t = c.there p x h in (ap suc t.0, t.1)

abbrev pub or_at : {A B : Type 0} → Form A → Choice B → ℕ → ℕ → List ℕ → Read ((A ⊎ B) × ℕ)
or_at f c zero n bytes = along (seen inl) (f.at n bytes)
or_at f c (suc p) n bytes = along (seen inr) (c.at p n bytes)

pub or_at_is : {A B : Type 0} (f : Form A) (c : Choice B) (p n : ℕ) (bytes : List ℕ) → or_at f c p n bytes ≡ along (seen (or_from f c p)) (branch_at (s.more f.schema c.schemas) p n bytes)
unfolding value_at
or_at_is f c zero n bytes = ap (along (seen inl)) (f.at_is n bytes) ∙ along_twice (seen inl) (seen f.from_value) (value_at f.schema n bytes)
or_at_is f c (suc p) n bytes = ap (along (seen inr)) (c.at_is p n bytes) ∙ along_twice (seen inr) (seen (c.from_branch p)) (branch_at c.schemas p n bytes)

-- a branch, and more branches
infixr 5 ◌or◌
abbrev pub ◌or◌ : {A B : Type 0} → Form A → Choice B → Choice (A ⊎ B)
f or c = record {
  schemas = s.more f.schema c.schemas;
  place = or_place c;
  as_value = or_value f c;
  from_branch = or_from f c;
  back = or_back f c;
  there = or_there f c;
  at = or_at f c;
  at_is = or_at_is f c;
}

pub union_there : {A B : Type 0} (c : Choice A) (parts : B → A) (whole : A → B) → ((p : A) → parts (whole p) ≡ p) → (x : Value) → HasSchema (SUnion c.schemas) x → VUnion (c.place (parts (whole (c.from_branch (branch_in x) (chosen_in x))))) (c.as_value (parts (whole (c.from_branch (branch_in x) (chosen_in x))))) ≡ x
union_there c parts whole same (VUnion p x) h =
    let t = c.there p x h.1 in
    (λ i. VUnion (c.place (same (c.from_branch p x) i)) (c.as_value (same (c.from_branch p x) i))) ∙ (λ i. VUnion (t.0 i) (t.1 i))
union_there c parts whole same x h = absurd h

abbrev pub choice_at : {A B : Type 0} → Choice A → (A → B) → ℕ → List ℕ → Read (B × ℕ)
choice_at c whole n bytes = place_at (count c.schemas) bytes >>= λ p. along (seen whole) (c.at p.0 n p.1)

pub union_at_is : {A B : Type 0} (c : Choice A) (whole : A → B) (n : ℕ) (bytes : List ℕ) → node_at (choice_at c whole) n bytes ≡ along (seen (λ x. whole (c.from_branch (branch_in x) (chosen_in x)))) (value_at (SUnion c.schemas) n bytes)
unfolding value_at
union_at_is c whole zero bytes = refl
union_at_is c whole (suc n) bytes =
    let from = λ (x : Value). whole (c.from_branch (branch_in x) (chosen_in x)) in
    then_along (seen from) (place_at (count c.schemas) bytes) (λ p. in_branch p.0 (branch_at c.schemas p.0 n p.1)) (λ p. along (seen whole) (c.at p.0 n p.1))
    (λ p.
    ap (along (seen whole)) (c.at_is p.0 n p.1)
    ∙ along_twice (seen whole) (seen (c.from_branch p.0)) (branch_at c.schemas p.0 n p.1)
    ∙ sym (along_twice (seen from) (λ x. (VUnion p.0 x.0, x.1)) (branch_at c.schemas p.0 n p.1))
    ∙ ap (along (seen from)) (sym (in_branch_is p.0 (branch_at c.schemas p.0 n p.1))))

-- one of these branches: which one a value is of, and the value that has these contents
abbrev pub union : {A B : Type 0} → Choice A → (parts : B → A) → (whole : A → B) → ((x : B) → whole (parts x) ≡ x) → ((p : A) → parts (whole p) ≡ p) → Form B
union c parts whole again same = record {
  schema = SUnion c.schemas;
  as_value = λ x. VUnion (c.place (parts x)) (c.as_value (parts x));
  from_value = λ x. whole (c.from_branch (branch_in x) (chosen_in x));
  back = λ x h. ap whole (c.back (parts x) h.1) ∙ again x;
  there = union_there c parts whole same;
  at = node_at (choice_at c whole);
  at_is = union_at_is c whole;
}

pub null_there : (x : Value) → HasSchema SNull x → VNull ≡ x
null_there VNull h = refl
null_there x h = absurd h

abbrev pub null_at : ℕ → List ℕ → Read (Unit {0} × ℕ)
null_at n bytes = Ok ((tt, n), bytes)

pub null_at_is : (n : ℕ) (bytes : List ℕ) → node_at null_at n bytes ≡ along (seen (λ x. tt)) (value_at SNull n bytes)
unfolding value_at
null_at_is zero bytes = refl
null_at_is (suc n) bytes = refl

-- nothing
abbrev pub null_form : Form (Unit {0})
null_form = record { schema = SNull; as_value = λ x. VNull; from_value = λ x. tt; back = λ x h. refl; there = null_there; at = node_at null_at; at_is = null_at_is }

abbrev pub option_parts : {A : Type 0} → Option A → Unit {0} ⊎ A
option_parts None = inl tt
option_parts (Some x) = inr x

abbrev pub option_whole : {A : Type 0} → Unit {0} ⊎ A → Option A
option_whole (inl u) = None
option_whole (inr x) = Some x

pub option_again : {A : Type 0} (x : Option A) → option_whole (option_parts x) ≡ x
option_again None = refl
option_again (Some x) = refl

pub option_same : {A : Type 0} (p : Unit {0} ⊎ A) → option_parts (option_whole p) ≡ p
option_same (inl u) = refl
option_same (inr x) = refl

-- null, or a value
abbrev pub option_form : {A : Type 0} → Form A → Form (Option A)
option_form f = union (null_form or last f) option_parts option_whole option_again option_same
