-- What the tables of names and places have, row by row.
use Rattle.std.specs.Prelude.{◌&&◌}
use Rattle.std.proofs.Common.{◌≡◌, ◌≢◌, ◌∙◌, ◌==◌, ℕ, ℤ, pos, zero, suc, Bool, true, false, List, [], ◌∷◌, Option, Some, None, map, length, get_or, refl, sym, ap, subst, cond, if◌then◌else◌}
use Rattle.std.proofs.lemmas.Bool.{eq-eqb}
use Rattle.std.specs.List.{AllByRecursion}
use Rattle.avro_bin.specs.Schema.{SNull}
use Rattle.etp_schema.specs.Shapes.{table_shapes, shape_at}
use Rattle.etp_schema.specs.Bodies.{BodyRow, ProtocolRow, protocols, place_of, row_in, messages_in, is_number}
use Rattle.etp_schema.specs.declared.body.Side.{Side}
use Rattle.capture_text.specs.Names.{Named, nothing, table_names, table_children, names_at, children_at, message_at}
use Rattle.capture_text.specs.MessageNames.{name_of}
use Rattle.capture_text.specs.Laws.{field_count, parts_of, FieldsAreNamed, PartsAreTheSchemas, MessagesAreNamed, MessagesHaveTheirNames, NamesDiffer}
use Rattle.etp_frame.proofs.KindLemmas.{number_is}

get_map : {A B : Type 0} (f : A → B) (xs : List A) (k : ℕ) (d : A) → get_or (map f xs) k (f d) ≡ f (get_or xs k d)
get_map f [] k d = refl
get_map f (x ∷ xs) zero d = refl
get_map f (x ∷ xs) (suc k) d = get_map f xs k d

-- two tables that are seen as the same list, at one place
same_at : {A B C : Type 0} (f : A → C) (g : B → C) (xs : List A) (ys : List B) (k : ℕ) (d : A) (e : B) → map f xs ≡ map g ys → f d ≡ g e → f (get_or xs k d) ≡ g (get_or ys k e)
same_at {C = C} f g xs ys k d e same none =
    sym (get_map f xs k d) ∙ ap (λ (l : List C). get_or l k (f d)) same ∙ ap (λ (c : C). get_or (map g ys) k c) none ∙ get_map g ys k e

counts_fit : map (λ n. length n.fields) table_names ≡ map field_count table_shapes
counts_fit = refl

pub fields_named : FieldsAreNamed
unfolding names_at
fields_named place = same_at (λ (n : Named). length n.fields) field_count table_names table_shapes place nothing SNull counts_fit refl

parts_fit : map (λ places. map shape_at places) table_children ≡ map parts_of table_shapes
parts_fit = refl

pub parts_are : PartsAreTheSchemas
unfolding children_at
parts_are place = same_at (λ (places : List ℕ). map shape_at places) parts_of table_children table_shapes place [] SNull parts_fit refl

-- whether a name is there
abbrev has_letters : List ℕ → Bool
has_letters [] = false
has_letters (c ∷ cs) = true

abbrev rows_named : List BodyRow → Bool
rows_named [] = true
rows_named (r ∷ rows) = cond (has_letters (message_at r.place)) (rows_named rows) false

abbrev RowNamed : Option BodyRow → Type 0
RowNamed None = Unit {0}
RowNamed (Some r) = has_letters (message_at r.place) ≡ true

both : (a b : Bool) → cond a b false ≡ true → (a ≡ true) × (b ≡ true)
both true b h = (refl, h)
both false b h = absurd (let no : false ≡ true = h in cc)

named_row : (rows : List BodyRow) (kind : ℤ) (side : Side) → rows_named rows ≡ true → RowNamed (row_in rows kind side)
named_row [] kind side h = tt
named_row (r ∷ rows) kind side h =
    let b = both (has_letters (message_at r.place)) (rows_named rows) h in
    elim (is_number r.kind kind && r.by side) as (λ t. RowNamed (if t then Some r else row_in rows kind side)) [
      | true ↦ b.0
      | false ↦ named_row rows kind side b.1
    ]

named_messages : (ps : List ProtocolRow) (protocol : ℤ) → AllByRecursion (λ p. rows_named p.messages ≡ true) ps → rows_named (messages_in ps protocol) ≡ true
named_messages [] protocol h = refl
named_messages (p ∷ ps) protocol h =
    elim (is_number p.number protocol) as (λ t. rows_named (if t then p.messages else messages_in ps protocol) ≡ true) [
      | true ↦ h.0
      | false ↦ named_messages ps protocol h.1
    ]

all_named : AllByRecursion (λ p. rows_named p.messages ≡ true) protocols
unfolding names_at
all_named = (refl, (refl, (refl, (refl, (refl, (refl, (refl, tt)))))))

letters_are : (name : List ℕ) → has_letters name ≡ true → name ≢ []
letters_are [] h e = absurd (let no : false ≡ true = h in cc)
letters_are (c ∷ cs) h e = absurd (let no : c ∷ cs ≡ [] = e in cc)

placed : (o : Option BodyRow) (place : ℕ) → RowNamed o → place_of o ≡ Some place → message_at place ≢ []
placed None place h e = absurd (let no : None ≡ Some place = e in cc)
placed (Some r) place h e = let same : r.place ≡ place = cc in subst (λ (p : ℕ). message_at p ≢ []) same (letters_are (message_at r.place) h)

pub messages_named : MessagesAreNamed
messages_named protocol kind side place e =
    placed (row_in (messages_in protocols protocol) kind side) place (named_row (messages_in protocols protocol) kind side (named_messages protocols protocol all_named)) e

-- the names at the places of rows are those of their numbers
abbrev RowsCalled : (ℤ → List ℕ) → List BodyRow → Type 0
RowsCalled name rows = map (λ r. message_at r.place) rows ≡ map (λ r. name (pos r.kind)) rows

abbrev RowCalled : (ℤ → List ℕ) → ℤ → Option BodyRow → Type 0
RowCalled name kind None = Unit {0}
RowCalled name kind (Some r) = message_at r.place ≡ name kind

called_row : (name : ℤ → List ℕ) (rows : List BodyRow) (kind : ℤ) (side : Side) → RowsCalled name rows → RowCalled name kind (row_in rows kind side)
called_row name [] kind side h = tt
called_row name (r ∷ rows) kind side h =
    let e : (message_at r.place) ∷ map (λ q. message_at q.place) rows ≡ name (pos r.kind) ∷ map (λ q. name (pos q.kind)) rows = h in
    let here : message_at r.place ≡ name (pos r.kind) = cc in
    let later : map (λ q. message_at q.place) rows ≡ map (λ q. name (pos q.kind)) rows = cc in
    elim (is_number r.kind kind) as (λ b. is_number r.kind kind ≡ b → RowCalled name kind (if b && r.by side then Some r else row_in rows kind side)) [
      | true ↦ λ t. elim (r.by side) as (λ b. RowCalled name kind (if b then Some r else row_in rows kind side)) [
        | true ↦ here ∙ ap name (sym (number_is r.kind kind t))
        | false ↦ called_row name rows kind side later
      ]
      | false ↦ λ t. called_row name rows kind side later
    ] refl

called_messages : (ps : List ProtocolRow) (protocol kind : ℤ) (side : Side) → AllByRecursion (λ p. RowsCalled (name_of (pos p.number)) p.messages) ps
    → RowCalled (name_of protocol) kind (row_in (messages_in ps protocol) kind side)
called_messages [] protocol kind side h = tt
called_messages (p ∷ ps) protocol kind side h =
    elim (is_number p.number protocol) as (λ b. is_number p.number protocol ≡ b → RowCalled (name_of protocol) kind (row_in (if b then p.messages else messages_in ps protocol) kind side)) [
      | true ↦ λ t. subst (λ (n : ℤ). RowCalled (name_of n) kind (row_in p.messages kind side)) (sym (number_is p.number protocol t)) (called_row (name_of (pos p.number)) p.messages kind side h.0)
      | false ↦ λ t. called_messages ps protocol kind side h.1
    ] refl

all_called : AllByRecursion (λ p. RowsCalled (name_of (pos p.number)) p.messages) protocols
unfolding names_at
all_called = (refl, (refl, (refl, (refl, (refl, (refl, (refl, tt)))))))

called_at : (name : ℤ → List ℕ) (kind : ℤ) (o : Option BodyRow) (place : ℕ) → RowCalled name kind o → place_of o ≡ Some place → message_at place ≡ name kind
called_at name kind None place h e = absurd (let no : None ≡ Some place = e in cc)
called_at name kind (Some r) place h e = let same : r.place ≡ place = cc in subst (λ (p : ℕ). message_at p ≡ name kind) same h

pub names_are : MessagesHaveTheirNames
names_are protocol kind side place e =
    called_at (name_of protocol) kind (row_in (messages_in protocols protocol) kind side) place (called_messages protocols protocol kind side all_called) e

abbrev same_text : List ℕ → List ℕ → Bool
same_text [] [] = true
same_text [] (d ∷ ds) = false
same_text (c ∷ cs) [] = false
same_text (c ∷ cs) (d ∷ ds) = cond (c == d) (same_text cs ds) false

-- a name is not among names
abbrev absent : List ℕ → List (List ℕ) → Bool
absent name [] = true
absent name (n ∷ ns) = cond (same_text name n) false (absent name ns)

-- each name that has letters comes once
abbrev apart : List (List ℕ) → Bool
apart [] = true
apart (n ∷ ns) = cond (cond (has_letters n) (absent n ns) true) (apart ns) false

all_apart : apart (map (λ n. n.message) table_names) ≡ true
all_apart = refl

same_text_refl : (name : List ℕ) → same_text name name ≡ true
same_text_refl [] = refl
same_text_refl (c ∷ cs) = rw (eq-eqb c c refl) (same_text_refl cs)

other : (p q : Bool) → cond p false q ≡ true → q ≡ true
other true q h = absurd (let no : false ≡ true = h in cc)
other false q h = h

absent_at : (name : List ℕ) (ns : List (List ℕ)) (k : ℕ) → absent name ns ≡ true → name ≢ [] → name ≡ get_or ns k [] → ⊥
absent_at name [] k h some e = some e
absent_at name (n ∷ ns) zero h some e =
    let here : absent name (name ∷ ns) ≡ true = subst (λ (m : List ℕ). absent name (m ∷ ns) ≡ true) (sym e) h in
    let no : cond true false (absent name ns) ≡ true = subst (λ (b : Bool). cond b false (absent name ns) ≡ true) (same_text_refl name) here in
    cc
absent_at name (n ∷ ns) (suc k) h some e = absent_at name ns k (other (same_text name n) (absent name ns) h) some e

absent_if : (name : List ℕ) (b : Bool) → cond (has_letters name) b true ≡ true → name ≢ [] → b ≡ true
absent_if [] b h some = absurd (some refl)
absent_if (c ∷ cs) b h some = h

apart_at : (ns : List (List ℕ)) (a b : ℕ) → apart ns ≡ true → get_or ns a [] ≡ get_or ns b [] → get_or ns a [] ≢ [] → a ≡ b
apart_at [] a b h e some = absurd (some refl)
apart_at (n ∷ ns) zero zero h e some = refl
apart_at (n ∷ ns) zero (suc b) h e some =
    absurd (absent_at n ns b (absent_if n (absent n ns) (both _ (apart ns) h).0 some) some e)
apart_at (n ∷ ns) (suc a) zero h e some =
    let some_here : n ≢ [] = λ none. some (e ∙ none) in
    absurd (absent_at n ns a (absent_if n (absent n ns) (both _ (apart ns) h).0 some_here) some_here (sym e))
apart_at (n ∷ ns) (suc a) (suc b) h e some = ap suc (apart_at ns a b (both (cond (has_letters n) (absent n ns) true) (apart ns) h).1 e some)

names_of_table : (k : ℕ) → message_at k ≡ get_or (map (λ n. n.message) table_names) k []
unfolding names_at
names_of_table k = sym (get_map (λ (n : Named). n.message) table_names k nothing)

pub names_differ : NamesDiffer
names_differ a b e some =
    let x = names_of_table a in
    let y = names_of_table b in
    apart_at (map (λ n. n.message) table_names) a b all_apart (sym x ∙ e ∙ y) (λ none. some (x ∙ none))
