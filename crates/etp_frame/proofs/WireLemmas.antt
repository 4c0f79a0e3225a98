-- The wire form is what reading answers, and what is written has it.
use Rattle.std.proofs.Common.{◌≡◌, ℕ, pos, ◌+◌, ◌-◌, ◌<◌, ◌≤◌, Bool, true, false, List, [], ◌++◌, Option, Some, None, Result, Ok, Err, length, take, drop, refl, sym, ap, subst, ◌∙◌, arith, if◌then◌else◌}
use Rattle.std.specs.Prelude.{◌==◌}
use Rattle.std.proofs.lemmas.Bool.{eqb-true, eq-eqb}
use Rattle.std.proofs.lemmas.List.{length-append, length-drop, append-nil, take_at, drop_at, take_all, take-append-drop, get_or-drop}
use Rattle.std.proofs.lemmas.Option.{same_Some}
use Rattle.avro_bin.specs.Value.{Value, nodes}
use Rattle.avro_bin.specs.Schema.{Schema}
use Rattle.avro_bin.specs.Grammar.{Spells}
use Rattle.avro_bin.specs.Plain.{plain}
use Rattle.avro_bin.specs.Shape.{HasSchema}
use Rattle.avro_bin.specs.Laws.{IsRead, IsBytes, counted, read_value, node_limit}
use Rattle.avro_bin.specs.declared.refusal.Refusal.{Refusal}
use Rattle.avro_bin.proofs.WholeLemmas.{reads, reads_exactly}
use Rattle.avro_bin.proofs.TypedLemmas.{has_schema}
use Rattle.avro_bin.proofs.WrittenLemmas.{plain_spells}
use Rattle.etp_schema.specs.Bodies.{is_protocol, body_place, body_schema, place_of, row_of}
use Rattle.etp_schema.specs.Family.{Kind, Body, read_as}
use Rattle.etp_schema.specs.Shapes.{shape_at}
use Rattle.etp_schema.specs.declared.body.Side.{Side}
use Rattle.etp_frame.specs.Header.{header_form, has_flag, extended, compressed}
use Rattle.etp_frame.specs.Message.{message_body, Names, typed_kind}
use Rattle.etp_frame.specs.Reading.{as_header, header_in, admitted, as_body, body_in, tree_of, read_of}
use Rattle.etp_frame.specs.Wire.{IsPlain, Sends, IsMessage, message_bytes}
use Rattle.etp_frame.specs.Laws.{ReadsExactly, OneReading, TreeIsBody, Fits, WrittenIsRead}
use Rattle.etp_frame.specs.declared.header.Header.{Header}
use Rattle.etp_frame.specs.declared.message.Message.{Message}
use Rattle.etp_frame.specs.declared.error.FrameError.{FrameError}
use Rattle.etp_frame.specs.declared.error.FrameError.TheVariants as f
use Rattle.etp_frame.proofs.FoundLemmas.{Reads, found_of, typed_of}
use Rattle.etp_frame.proofs.RowLemmas.{row_schema, known_of, schema_row}
use Rattle.etp_frame.proofs.ReadingLemmas.{Read, ok, with_tree, whole_tree, message_of_tree, bound, ok_pair, tree_parts, shape_sent, read_typed}

read_is : (s : Schema) (limit : ℕ) (bytes : List ℕ) (v : Value) (len : ℕ) → IsRead s limit bytes v len → read_value s limit bytes ≡ Ok (v, len)
unfolding read_value
read_is s limit bytes v len r =
    let e : length bytes - length (drop len bytes) ≡ len = omega (arith, length-drop len bytes, r.within) in
    ap (counted (length bytes)) (reads s limit bytes v len r) ∙ ap (λ (n : ℕ). Ok (v, n)) e

front_read : (s : Schema) (v : Value) (bytes front back : List ℕ) → bytes ≡ front ++ back → Spells s v front → nodes v ≤ node_limit → IsRead s node_limit bytes v (length front)
front_read s v bytes front back e spelled few = record {
  within = omega (arith, ap length e, length-append front back);
  spelled = subst (Spells s v) (sym (ap (take (length front)) e ∙ take_at front back (length front) refl)) spelled;
  few = few;
}

header_read : (h : Header) (bytes front back : List ℕ) → bytes ≡ front ++ back → Spells header_form.schema (header_form.as_value h) front → nodes (header_form.as_value h) ≤ node_limit → header_in bytes ≡ Ok (h, length front)
header_read h bytes front back e spelled few = ap as_header (read_is header_form.schema node_limit bytes (header_form.as_value h) (length front) (front_read header_form.schema (header_form.as_value h) bytes front back e spelled few))

abbrev admit_by : Header → Bool → Bool → Bool → Result (Unit {0}) FrameError
admit_by h extended compressed known = if extended then Err (f.Extension h) else if compressed then Err (f.Compressed h) else if known then Ok tt else Err (f.UnknownProtocol h)

admitted_is : (h : Header) → IsPlain h → is_protocol h.protocol ≡ true → admitted h ≡ Ok tt
admitted_is h p known = λ i. admit_by h (p.0 i) (p.1 i) (known i)

body_read : (h : Header) (s : Schema) (v : Value) (front : ℕ) (bytes back : List ℕ) → drop front bytes ≡ back → Spells s v back → nodes v ≤ node_limit → body_in h s front bytes ≡ Ok v
body_read h s v front bytes back e spelled few =
    let r = read_is s node_limit back v (length back) (front_read s v back back [] (sym (append-nil back)) spelled few) in
    ap (λ (b : List ℕ). as_body h front (length b) (read_value s node_limit b)) e
    ∙ ap (as_body h front (length back)) r
    ∙ ap (λ (b : Bool). if b then Ok v else Err (f.Rest h (front + length back))) (eq-eqb (length back) (length back) refl)

-- what a kind reads, if there is one
found_some : (b : Body) (x : Message) (o : Option (Kind Message)) → Reads b x o → (k : Kind Message) × (o ≡ Some k) × (HasSchema b.schema b.value → k.read b.value ≡ x)
found_some b x None r = absurd r
found_some b x (Some k) r = (k, refl, r.1)

-- the tree of a message's wire form
pub body_tree : TreeIsBody
body_tree side h x bytes w =
    let b = message_body x in
    let row = schema_row (row_of h.protocol h.kind side) b.schema w.sent in
    let known = known_of h.protocol h.kind side row.0 row.1 in
    let place = row.0.place in
    let placed : body_place h.protocol h.kind side ≡ Some place = ap place_of row.1 in
    let own : b.schema ≡ shape_at place = same_Some b.schema (shape_at place) (sym w.sent ∙ shape_sent side h place placed) in
    let rest = ap (drop (length w.front)) w.parts ∙ drop_at w.front w.back (length w.front) refl in
    let read = body_read h b.schema b.value (length w.front) bytes w.back rest w.body w.few_in_body in (
      place,
      whole_tree side bytes (h, length w.front) place b.value (header_read h bytes w.front w.back w.parts w.header w.few_in_header) (admitted_is h w.plain known) placed
          (subst (λ (s : Schema). body_in h s (length w.front) bytes ≡ Ok b.value) own read),
    )

pub message_read : (side : Side) (h : Header) (x : Message) (bytes : List ℕ) → IsMessage side h x bytes → read_of side bytes ≡ Ok (h, x)
message_read side h x bytes w =
    let b = message_body x in
    let tree = body_tree side h x bytes w in
    let k = found_some b x (typed_kind h.protocol (pos b.number)) (found_of x h.protocol w.named.1) in
    let typed : typed_kind h.protocol h.kind ≡ Some k.0 = ap (typed_kind h.protocol) w.named.0 ∙ k.1 in
    message_of_tree side bytes h tree.0 b.value (Some (k.0.read b.value)) tree.1 (ap (read_as b.value) (sym typed))
    ∙ ap (λ (y : Message). Ok (h, y)) (k.2 (has_schema b.schema b.value w.back w.body))

header_read_as : (r : Result (Value × ℕ) Refusal) (front : Header × ℕ) → as_header r ≡ Ok front → (v : Value) × (r ≡ Ok (v, front.1)) × (header_form.from_value v ≡ front.0)
header_read_as (Ok x) front e =
    let p = ok_pair (header_form.from_value x.0) front.0 x.1 front.1 e in
    (x.0, ap (λ (n : ℕ). Ok (x.0, n)) p.1, p.0)
header_read_as (Err d) front e = absurd cc

admitted_by : (h : Header) (extended compressed known : Bool) → admit_by h extended compressed known ≡ Ok tt → (extended ≡ false) × (compressed ≡ false) × (known ≡ true)
admitted_by h true compressed known e = absurd cc
admitted_by h false true known e = absurd cc
admitted_by h false false false e = absurd cc
admitted_by h false false true e = (refl, refl, refl)

body_read_as : (h : Header) (front size : ℕ) (r : Result (Value × ℕ) Refusal) (v : Value) → as_body h front size r ≡ Ok v → r ≡ Ok (v, size)
body_read_as h front size (Err d) v e = absurd cc
body_read_as h front size (Ok x) v e =
    elim (x.1 == size) as (λ b. (x.1 == size) ≡ b → (if b then Ok x.0 else Err (f.Rest h (front + x.1))) ≡ Ok v → ok {E = Refusal} x ≡ Ok (v, size)) [
      | true ↦ λ t g. let w : x.0 ≡ v = same x.0 v g in λ i. Ok (w i, eqb-true x.1 size t i)
      | false ↦ λ t g. absurd cc
    ] refl e
  where
    same : (a b : Value) → ok {E = FrameError} a ≡ ok b → a ≡ b
    same a b g = cc

rest_fits : (n : ℕ) (bytes : List ℕ) → IsBytes bytes → IsBytes (drop n bytes)
rest_fits n bytes fits i = subst (λ (z : ℕ). z < 256) (sym (get_or-drop n bytes i 0)) (fits (n + i))

-- the parts of a message are of the wire form
whole_form : (side : Side) (front : Header × ℕ) (v w : Value) (s : Schema) (k : Kind Message) (bytes : List ℕ)
    → IsRead header_form.schema node_limit bytes v front.1 → header_form.from_value v ≡ front.0 → IsPlain front.0
    → body_schema front.0.protocol front.0.kind side ≡ Some s → typed_kind front.0.protocol front.0.kind ≡ Some k
    → IsRead s node_limit (drop front.1 bytes) w (length (drop front.1 bytes))
    → IsMessage side front.0 (k.read w) bytes
whole_form side front v w s k bytes head same plain sent typed tail =
    let h = front.0 in
    let row = schema_row (row_of h.protocol h.kind side) s sent in
    let t = typed_of h.protocol h.kind k typed in
    let own : k.schema ≡ s = row_schema h.protocol h.kind side row.0 k row.1 typed ∙ row.2 in
    let spelled : Spells s w (drop front.1 bytes) = subst (Spells s w) (take_all (length (drop front.1 bytes)) (drop front.1 bytes) (omega arith)) tail.spelled in
    let has = has_schema s w (drop front.1 bytes) spelled in
    let b : message_body (k.read w) ≡ record { number = k.number; schema = k.schema; value = w } = t.0 w (subst (λ (z : Schema). HasSchema z w) (sym own) has) in
    let value : header_form.as_value h ≡ v = ap header_form.as_value (sym same) ∙ header_form.there v (has_schema header_form.schema v (take front.1 bytes) head.spelled) in
    record {
      front = take front.1 bytes;
      back = drop front.1 bytes;
      parts = sym (take-append-drop front.1 bytes);
      header = subst (λ (z : Value). Spells header_form.schema z (take front.1 bytes)) (sym value) head.spelled;
      few_in_header = subst (λ (z : Value). nodes z ≤ node_limit) (sym value) head.few;
      plain = plain;
      named = (t.2 ∙ ap (λ (z : Body). pos z.number) (sym b), t.1 w);
      sent = sent ∙ ap (λ (z : Schema). Some z) (sym own) ∙ ap (λ (z : Body). Some z.schema) (sym b);
      body = subst (λ (z : Body). Spells z.schema z.value (drop front.1 bytes)) (sym b) (subst (λ (z : Schema). Spells z w (drop front.1 bytes)) (sym own) spelled);
      few_in_body = subst (λ (z : Body). nodes z.value ≤ node_limit) (sym b) tail.few;
    }

-- what was read as a message was read as a tree, and by its kind
read_parts : (side : Side) (h : Header) (x : Message) (bytes : List ℕ) → read_of side bytes ≡ Ok (h, x) → (t : Read) × (tree_of side bytes ≡ Ok t) × (with_tree t ≡ Ok (h, x))
unfolding read_of
read_parts side h x bytes e = bound (tree_of side bytes) with_tree (h, x) e

pub read_is_message : (side : Side) (h : Header) (x : Message) (bytes : List ℕ) → IsBytes bytes → read_of side bytes ≡ Ok (h, x) → IsMessage side h x bytes
read_is_message side h x bytes fits e =
    let b = read_parts side h x bytes e in
    let t = b.0 in
    let g = t.0 in
    let parts = tree_parts side bytes t b.1 in
    let k = read_typed side bytes t b.1 in
    let s = shape_at t.1.0 in
    let head = header_read_as (read_value header_form.schema node_limit bytes) (g, parts.size) parts.front in
    let leave = admitted_by g (has_flag g.flags extended) (has_flag g.flags compressed) (is_protocol g.protocol) parts.plain in
    let tail = body_read_as g parts.size (length (drop parts.size bytes)) (read_value s node_limit (drop parts.size bytes)) t.1.1 parts.body in
    let here = (reads_exactly header_form.schema node_limit bytes head.0 parts.size fits).0 head.1 in
    let there = (reads_exactly s node_limit (drop parts.size bytes) t.1.1 (length (drop parts.size bytes)) (rest_fits parts.size bytes fits)).0 tail in
    let form = whole_form side (g, parts.size) head.0 t.1.1 s k.0 bytes here head.2 (leave.0, leave.1) (shape_sent side g t.1.0 parts.sent) k.1 there in
    let p = ok_pair g h (k.0.read t.1.1) x (sym k.2 ∙ e) in
    subst (λ (z : Header). IsMessage side z x bytes) p.0 (subst (λ (z : Message). IsMessage side g z bytes) p.1 form)

pub reads_whole : ReadsExactly
reads_whole side h x bytes fits = (read_is_message side h x bytes fits, message_read side h x bytes)

pub one_message : OneReading
one_message side h k x y bytes v w = ok_pair h k x y (sym (message_read side h x bytes v) ∙ message_read side k y bytes w)

-- what is written has the wire form
pub written_form : (side : Side) (h : Header) (x : Message) → IsPlain h → Names h x → Sends side h x → Fits h x → IsMessage side h x (message_bytes h x)
written_form side h x plainly named sent fits = record {
  front = plain (header_form.as_value h);
  back = plain (message_body x).value;
  parts = refl;
  header = plain_spells header_form.schema (header_form.as_value h) (tt, (tt, (tt, (tt, (tt, tt))))) fits.header;
  few_in_header = omega arith;
  plain = plainly;
  named = named;
  sent = sent;
  body = plain_spells (message_body x).schema (message_body x).value fits.typed fits.body;
  few_in_body = fits.few;
}

pub written_read : WrittenIsRead
written_read side h x plainly named sent fits =
    let w = written_form side h x plainly named sent fits in
    (w, message_read side h x (message_bytes h x) w)
