-- What reading answers, step by step.
use Rattle.std.proofs.Common.{◌≡◌, ◌<◌, ℕ, ℤ, List, Option, Some, None, Result, Ok, Err, refl, sym, ap, subst, ◌∙◌}
use Rattle.avro_bin.specs.Value.{Value}
use Rattle.etp_schema.specs.Bodies.{BodyRow, place_of, row_of, body_place, body_schema}
use Rattle.etp_schema.specs.Family.{Kind, read_as}
use Rattle.etp_schema.specs.Shapes.{shape_at, table_size}
use Rattle.etp_schema.specs.declared.body.Side.{Side}
use Rattle.etp_schema.proofs.BodyLemmas.{bodies_are}
use Rattle.etp_frame.specs.Message.{typed_kind}
use Rattle.etp_frame.specs.Reading.{◌>>=◌, header_in, admitted, known_place, body_in, tree_of, known_message, read_of}
use Rattle.etp_frame.specs.Laws.{SameRefusals}
use Rattle.etp_frame.specs.declared.header.Header.{Header}
use Rattle.etp_frame.specs.declared.message.Message.{Message}
use Rattle.etp_frame.specs.declared.error.FrameError.{FrameError}
use Rattle.etp_frame.specs.declared.error.FrameError.TheVariants as f
use Rattle.etp_frame.proofs.RowLemmas.{row_kind}

-- what is read as a tree: the header, the body's place and the body's value
abbrev pub Read : Type 0
Read = Header × (ℕ × Value)

-- the steps of reading a tree after the header
abbrev pub with_value : Header → ℕ → Value → Result Read FrameError
with_value h place value = Ok (h, (place, value))

abbrev pub with_place : List ℕ → Header × ℕ → ℕ → Result Read FrameError
with_place bytes front place = body_in front.0 (shape_at place) front.1 bytes >>= with_value front.0 place

abbrev pub with_leave : Side → List ℕ → Header × ℕ → Unit {0} → Result Read FrameError
with_leave side bytes front u = known_place front.0 (body_place front.0.protocol front.0.kind side) >>= with_place bytes front

abbrev pub with_header : Side → List ℕ → Header × ℕ → Result Read FrameError
with_header side bytes front = admitted front.0 >>= with_leave side bytes front

-- the step from the tree to the message
abbrev pub with_tree : Read → Result (Header × Message) FrameError
with_tree t = known_message t.0 (read_as t.1.1 (typed_kind t.0.protocol t.0.kind))

pub refused_header : (side : Side) (bytes : List ℕ) (e : FrameError) → header_in bytes ≡ Err e → tree_of side bytes ≡ Err e
unfolding tree_of
refused_header side bytes e h = ap (λ (r : Result (Header × ℕ) FrameError). r >>= with_header side bytes) h

pub not_admitted : (side : Side) (bytes : List ℕ) (front : Header × ℕ) (e : FrameError) → header_in bytes ≡ Ok front → admitted front.0 ≡ Err e → tree_of side bytes ≡ Err e
unfolding tree_of
not_admitted side bytes front e h a =
    ap (λ (r : Result (Header × ℕ) FrameError). r >>= with_header side bytes) h
    ∙ ap (λ (r : Result (Unit {0}) FrameError). r >>= with_leave side bytes front) a

-- if the header is read and admitted, what follows it decides
behind : (side : Side) (bytes : List ℕ) (front : Header × ℕ) (o : Option ℕ) → header_in bytes ≡ Ok front → admitted front.0 ≡ Ok tt → body_place front.0.protocol front.0.kind side ≡ o → tree_of side bytes ≡ (known_place front.0 o >>= with_place bytes front)
unfolding tree_of
behind side bytes front o h a p =
    ap (λ (r : Result (Header × ℕ) FrameError). r >>= with_header side bytes) h
    ∙ ap (λ (r : Result (Unit {0}) FrameError). r >>= with_leave side bytes front) a
    ∙ ap (λ (q : Option ℕ). known_place front.0 q >>= with_place bytes front) p

pub unknown_kind : (side : Side) (bytes : List ℕ) (front : Header × ℕ) → header_in bytes ≡ Ok front → admitted front.0 ≡ Ok tt → body_place front.0.protocol front.0.kind side ≡ None → tree_of side bytes ≡ Err (f.UnknownKind front.0)
unknown_kind side bytes front h a p = behind side bytes front None h a p

pub refused_body : (side : Side) (bytes : List ℕ) (front : Header × ℕ) (place : ℕ) (e : FrameError) → header_in bytes ≡ Ok front → admitted front.0 ≡ Ok tt → body_place front.0.protocol front.0.kind side ≡ Some place → body_in front.0 (shape_at place) front.1 bytes ≡ Err e → tree_of side bytes ≡ Err e
refused_body side bytes front place e h a p b =
    behind side bytes front (Some place) h a p
    ∙ ap (λ (r : Result Value FrameError). r >>= with_value front.0 place) b

pub whole_tree : (side : Side) (bytes : List ℕ) (front : Header × ℕ) (place : ℕ) (v : Value) → header_in bytes ≡ Ok front → admitted front.0 ≡ Ok tt → body_place front.0.protocol front.0.kind side ≡ Some place → body_in front.0 (shape_at place) front.1 bytes ≡ Ok v → tree_of side bytes ≡ Ok (front.0, (place, v))
whole_tree side bytes front place v h a p b =
    behind side bytes front (Some place) h a p
    ∙ ap (λ (r : Result Value FrameError). r >>= with_value front.0 place) b

-- a refused tree is a refused message
pub refused_tree : (side : Side) (bytes : List ℕ) (e : FrameError) → tree_of side bytes ≡ Err e → read_of side bytes ≡ Err e
unfolding read_of
refused_tree side bytes e h = ap (λ (r : Result Read FrameError). r >>= with_tree) h

-- a tree is read as the message of its kind, if there is one
pub message_of_tree : (side : Side) (bytes : List ℕ) (h : Header) (place : ℕ) (v : Value) (o : Option Message) → tree_of side bytes ≡ Ok (h, (place, v)) → o ≡ read_as v (typed_kind h.protocol h.kind) → read_of side bytes ≡ known_message h o
unfolding read_of
message_of_tree side bytes h place v o t m =
    ap (λ (r : Result Read FrameError). r >>= with_tree) t ∙ ap (known_message h) (sym m)

pub bound : {A B : Type 0} (r : Result A FrameError) (next : A → Result B FrameError) (y : B) → (r >>= next) ≡ Ok y → (a : A) × (r ≡ Ok a) × (next a ≡ Ok y)
bound (Ok a) next y e = (a, refl, e)
bound (Err d) next y e = absurd cc

abbrev pub ok : {A E : Type 0} → A → Result A E
ok x = Ok x

abbrev pair : {A B : Type 0} → A → B → A × B
pair a b = (a, b)

pub ok_pair : {A B : Type 0} (a c : A) (b d : B) → ok {A = A × B} {E = FrameError} (a, b) ≡ ok (c, d) → (a ≡ c) × (b ≡ d)
ok_pair {A} {B} a c b d e = let p : pair a b ≡ pair c d = cc in (ap (λ (q : A × B). q.0) p, ap (λ (q : A × B). q.1) p)

-- the parts of what was read as a tree
pub record IsTree (side : Side) (h : Header) (place : ℕ) (v : Value) (bytes : List ℕ) : Type 0 where
  pub size : ℕ
  pub front : header_in bytes ≡ Ok (h, size)
  pub plain : admitted h ≡ Ok tt
  pub sent : body_place h.protocol h.kind side ≡ Some place
  pub body : body_in h (shape_at place) size bytes ≡ Ok v

known_by : (h : Header) (o : Option ℕ) (place : ℕ) → known_place h o ≡ Ok place → o ≡ Some place
known_by h None place e = absurd cc
known_by h (Some p) place e = ap (λ (n : ℕ). Some n) (same p place e)
  where
    same : (a b : ℕ) → ok {E = FrameError} a ≡ ok b → a ≡ b
    same a b h = cc

pub tree_parts : (side : Side) (bytes : List ℕ) (t : Read) → tree_of side bytes ≡ Ok t → IsTree side t.0 t.1.0 t.1.1 bytes
unfolding tree_of
tree_parts side bytes t e =
    let b1 = bound (header_in bytes) (with_header side bytes) t e in
    let front = b1.0 in
    let b2 = bound (admitted front.0) (with_leave side bytes front) t b1.2 in
    let b3 = bound (known_place front.0 (body_place front.0.protocol front.0.kind side)) (with_place bytes front) t b2.2 in
    let place = b3.0 in
    let b4 = bound (body_in front.0 (shape_at place) front.1 bytes) (with_value front.0 place) t b3.2 in
    let p = ok_pair front.0 t.0 (place, b4.0) t.1 b4.2 in
    let read : IsTree side front.0 place b4.0 bytes = record {
      size = front.1;
      front = b1.1;
      plain = b2.1;
      sent = known_by front.0 (body_place front.0.protocol front.0.kind side) place b3.1;
      body = b4.1;
    } in
    subst (λ (q : ℕ × Value). IsTree side t.0 q.0 q.1 bytes) {x = (place, b4.0)} p.1 (subst (λ (h : Header). IsTree side h place b4.0 bytes) p.0 read)

row_placed : (o : Option BodyRow) (place : ℕ) → place_of o ≡ Some place → (row : BodyRow) × (o ≡ Some row)
row_placed None place e = absurd (let no : None ≡ Some place = e in cc)
row_placed (Some row) place e = (row, refl)

-- the row of a body that has a place
place_row : (side : Side) (protocol kind : ℤ) (place : ℕ) → body_place protocol kind side ≡ Some place → (row : BodyRow) × (row_of protocol kind side ≡ Some row)
place_row side protocol kind place e = row_placed (row_of protocol kind side) place e

pub in_table : (side : Side) (h : Header) (place : ℕ) → body_place h.protocol h.kind side ≡ Some place → place < table_size
in_table side h place e = (bodies_are h.protocol h.kind side place e).0

pub shape_sent : (side : Side) (h : Header) (place : ℕ) → body_place h.protocol h.kind side ≡ Some place → body_schema h.protocol h.kind side ≡ Some (shape_at place)
shape_sent side h place e = (bodies_are h.protocol h.kind side place e).1

-- each tree that is read is that of a message
pub read_typed : (side : Side) (bytes : List ℕ) (t : Read) → tree_of side bytes ≡ Ok t → (k : Kind Message) × (typed_kind t.0.protocol t.0.kind ≡ Some k) × (read_of side bytes ≡ Ok (t.0, k.read t.1.1))
read_typed side bytes t e =
    let row = place_row side t.0.protocol t.0.kind t.1.0 (tree_parts side bytes t e).sent in
    let k = row_kind t.0.protocol t.0.kind side row.0 row.1 in
    (k.0, k.1, message_of_tree side bytes t.0 t.1.0 t.1.1 (Some (k.0.read t.1.1)) e (ap (read_as t.1.1) (sym k.1)))

abbrev fail : FrameError → Result (Header × Message) FrameError
fail e = Err e

same_cause : (d e : FrameError) (r : Result (Header × Message) FrameError) → r ≡ Err d → r ≡ Err e → d ≡ e
same_cause d e r h g = let p : fail d ≡ fail e = sym h ∙ g in cc

refused_message : (side : Side) (bytes : List ℕ) (e : FrameError) → read_of side bytes ≡ Err e → tree_of side bytes ≡ Err e
refused_message side bytes e h =
    elim (tree_of side bytes) as (λ r. tree_of side bytes ≡ r → r ≡ Err e) [
      | Ok t ↦ λ g. absurd (never (t.0, (read_typed side bytes t g).0.read t.1.1) (read_typed side bytes t g).2)
      | Err d ↦ λ g. ap (λ (x : FrameError). Err x) (same_cause d e (read_of side bytes) (refused_tree side bytes d g) h)
    ] refl
  where
    never : (y : Header × Message) → read_of side bytes ≡ Ok y → ⊥
    never y g = let p : ok y ≡ Err e = sym g ∙ h in cc

pub refused_alike : SameRefusals
refused_alike side bytes e = (refused_message side bytes e, refused_tree side bytes e)
