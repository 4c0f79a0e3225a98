-- What is said of a message whose bytes come in pieces.
use Rattle.std.proofs.Common.{◌≡◌, ◌≢◌, ℕ, zero, suc, ◌+◌, ◌<◌, ◌≤◌, List, [], ◌∷◌, ◌++◌, length, take, drop, get_or, Result, Ok, Err, Some, None, Option, Bool, true, false, if◌then◌else◌, inl, inr, refl, sym, ap, subst, ◌∙◌, arith}
use Rattle.std.specs.Prelude.{◌==◌, IfOk}
use Rattle.std.proofs.lemmas.Bool.Decides.{nat_tests}
use Rattle.std.proofs.lemmas.Bool.{eq-eqb, eqb-false}
use Rattle.std.proofs.lemmas.List.{length-append, length-drop, drop-append-le, take-append-drop}
use Rattle.etp_values.specs.declared.memory.NoMemory.{NoMemory}
use Rattle.avro_bin.specs.Value.{Value}
use Rattle.avro_bin.specs.Schema.{Schema, schema}
use Rattle.avro_bin.specs.Laws.{IsBytes, IsNotShort, node_limit, read_value}
use Rattle.avro_bin.specs.declared.schema.Node.{Node}
use Rattle.avro_bin.specs.declared.refusal.Refusal.{Refusal}
use Rattle.avro_bin.specs.declared.refusal.Refusal.TheVariants as r
use Rattle.avro_bin.proofs.LongerLemmas.{reads_longer, refuses_longer}
use Rattle.avro_bin.proofs.FoundLemmas.{IsBytes-append}
use Rattle.avro_pieces.specs.declared.passage.Passage.{Passage}
use Rattle.avro_pieces.specs.declared.passage.Passed.{Passed}
use Rattle.avro_pieces.specs.declared.passage.Passed.TheVariants as passed
use Rattle.avro_pieces.specs.Passage.{StandsAt, Passes, PassRefuses}
use Rattle.avro_pieces.proofs.PassageLemmas.{stands_longer_is}
use Rattle.etp_schema.specs.Bodies.{body_place}
use Rattle.etp_schema.specs.Shapes.{shape_at, table_size}
use Rattle.etp_schema.specs.declared.body.Side.{Side}
use Rattle.etp_frame.specs.Header.{header_form}
use Rattle.etp_frame.specs.Reading.{IsFault, shifted, as_header, header_in, admitted, known_place, as_body, body_in, tree_of, read_of}
use Rattle.etp_frame.specs.Parts.{IsFront, offset_in, as_body_error}
use Rattle.etp_frame.specs.Pieces.{Heard, Fed, Refused, Lost, Hearing, refused, said, Has, WasFed, heard_after, after, RefusedStays}
use Rattle.etp_frame.specs.Standing.{IsProfile, IsFrontOf, StandsIn, StoodIn, heard_at, kept, IsAnswer, Takes}
use Rattle.etp_frame.specs.declared.header.Header.{Header}
use Rattle.etp_frame.specs.declared.message.Message.{Message}
use Rattle.etp_frame.specs.declared.error.FrameError.{FrameError}
use Rattle.etp_frame.specs.declared.error.FrameError.TheVariants as f
use Rattle.etp_frame.specs.declared.stage.Front.{Front}
use Rattle.etp_frame.specs.declared.stage.Stage.{Stage}
use Rattle.etp_frame.specs.declared.stage.Stage.TheVariants as s
use Rattle.etp_frame.specs.declared.stage.Reading.{Reading}
use Rattle.etp_frame.specs.declared.stage.Reading.TheVariants as p
use Rattle.etp_frame.proofs.CheckLemmas.{end_within, refusal_within}
use Rattle.etp_frame.proofs.ReadingLemmas.{Read, refused_header, not_admitted, unknown_kind, refused_body, whole_tree, refused_tree, read_typed, refused_alike, in_table, ok_pair}

-- ---- bytes

pub bytes_joined : (a b : List ℕ) → IsBytes a → IsBytes b → IsBytes (a ++ b)
bytes_joined [] b f g i = g i
bytes_joined (x ∷ a) b f g zero = f zero
bytes_joined (x ∷ a) b f g (suc i) = bytes_joined a b (λ j. f (suc j)) g i

bytes_behind : (n : ℕ) (bytes : List ℕ) → IsBytes bytes → IsBytes (drop n bytes)
bytes_behind n bytes fits = IsBytes-append (take n bytes) (drop n bytes) (subst IsBytes (sym (take-append-drop n bytes)) fits)

pub no_bytes : IsBytes []
no_bytes i = omega arith

-- ---- what is said of a message, of its tree, and of its body

pub said_alike : (side : Side) (bytes : List ℕ) → said (read_of side bytes) ≡ said (tree_of side bytes)
said_alike side bytes =
    elim (tree_of side bytes) as (λ x. tree_of side bytes ≡ x → said (read_of side bytes) ≡ said x) [
      | Ok t ↦ λ g. ap (λ (x : Result (Header × Message) FrameError). said x) (read_typed side bytes t g).2
      | Err d ↦ λ g. ap (λ (x : Result (Header × Message) FrameError). said x) (refused_tree side bytes d g)
    ] refl

-- after a header, what is said of the body
said_tree : (side : Side) (front : Front) (bytes : List ℕ) → IsFrontOf side front bytes → said (tree_of side bytes) ≡ said (body_in front.header (shape_at front.place) front.length bytes)
said_tree side front bytes is =
    elim (body_in front.header (shape_at front.place) front.length bytes) as (λ x. body_in front.header (shape_at front.place) front.length bytes ≡ x → said (tree_of side bytes) ≡ said x) [
      | Ok v ↦ λ g. ap (λ (x : Result Read FrameError). said x) (whole_tree side bytes (front.header, front.length) front.place v is.0.header is.0.plain is.0.sent g)
      | Err e ↦ λ g. ap (λ (x : Result Read FrameError). said x) (refused_body side bytes (front.header, front.length) front.place e is.0.header is.0.plain is.0.sent g)
    ] refl

pub said_body : (side : Side) (front : Front) (bytes : List ℕ) → IsFrontOf side front bytes → said (read_of side bytes) ≡ said (body_in front.header (shape_at front.place) front.length bytes)
said_body side front bytes is = said_alike side bytes ∙ said_tree side front bytes is

-- what is said of a body by what reading it says
pub said_read : (side : Side) (front : Front) (bytes : List ℕ) → IsFrontOf side front bytes → (read : Result (Value × ℕ) Refusal) → read_value (shape_at front.place) node_limit (drop front.length bytes) ≡ read
    → said (read_of side bytes) ≡ said (as_body front.header front.length (length (drop front.length bytes)) read)
said_read side front bytes is read e =
    said_body side front bytes is ∙ ap (λ (x : Result (Value × ℕ) Refusal). said (as_body front.header front.length (length (drop front.length bytes)) x)) e

pub body_refused : (h : Header) (front : ℕ) (e : Refusal) → IsNotShort e → refused (f.Body h (shifted front e)) ≡ p.Refused (f.Body h (shifted front e))
body_refused h front (r.Short offset) some = absurd (some offset refl)
body_refused h front (r.Number offset) some = refl
body_refused h front (r.Range offset) some = refl
body_refused h front (r.Bool offset) some = refl
body_refused h front (r.Branch offset) some = refl
body_refused h front (r.Utf8 offset) some = refl
body_refused h front (r.Length offset) some = refl
body_refused h front (r.BlockSize offset) some = refl
body_refused h front (r.DoubleKey offset) some = refl
body_refused h front (r.Limit offset) some = refl
body_refused h front r.NoMemory some = refl

-- whether it is a refusal of its own
same_refusal : (d e : FrameError) → p.Refused d ≡ p.Refused e → d ≡ e
same_refusal d e h = cc

refused_is : (d e : FrameError) → refused d ≡ p.Refused e → d ≡ e
refused_is (f.Header (r.Short offset)) e h = absurd (let no : p.More ≡ p.Refused e = h in cc)
refused_is (f.Body k (r.Short offset)) e h = absurd (let no : p.More ≡ p.Refused e = h in cc)
refused_is d e h = same_refusal d e h

-- what is refused for good, and why
pub said_refused : {A : Type 0} (x : Result A FrameError) (e : FrameError) → p.Refused e ≡ said x → (x ≡ Err e) × (refused e ≡ p.Refused e)
said_refused (Ok y) e h = absurd (let no : p.Refused e ≡ p.Whole = h in cc)
said_refused (Err d) e h =
    let same : d ≡ e = refused_is d e (sym h) in
    (ap (λ (x : FrameError). Err x) same, subst (λ (x : FrameError). refused x ≡ p.Refused e) same (sym h))

-- and what is whole
pub said_whole : {A : Type 0} (x : Result A FrameError) → p.Whole ≡ said x → (y : A) × (x ≡ Ok y)
said_whole (Ok y) h = (y, refl)
said_whole (Err d) h = absurd (whole_not d (sym h))
  where
    whole_not : (d : FrameError) → refused d ≡ p.Whole → ⊥
    whole_not (f.Header (r.Short offset)) h = cc
    whole_not (f.Body k (r.Short offset)) h = cc
    whole_not d h = cc

-- ---- more bytes

header_found : (x : Result (Value × ℕ) Refusal) (front : Header × ℕ) → as_header x ≡ Ok front → (v : Value) × (x ≡ Ok (v, front.1)) × (header_form.from_value v ≡ front.0)
header_found (Ok x) front e =
    let same = ok_pair (header_form.from_value x.0) front.0 x.1 front.1 e in
    (x.0, ap (λ (n : ℕ). Ok (x.0, n)) same.1, same.0)
header_found (Err d) front e = absurd cc

pub header_within : (bytes : List ℕ) (h : Header) (size : ℕ) → header_in bytes ≡ Ok (h, size) → size ≤ length bytes
header_within bytes h size e =
    let read = header_found (read_value header_form.schema node_limit bytes) (h, size) e in
    end_within header_form.schema node_limit bytes size (read.0, read.1)

-- a header that was read is read alike, whatever follows it
header_longer : (bytes more : List ℕ) (front : Header × ℕ) → IsBytes (bytes ++ more) → header_in bytes ≡ Ok front → header_in (bytes ++ more) ≡ Ok front
header_longer bytes more front fits e =
    let read = header_found (read_value header_form.schema node_limit bytes) front e in
    ap as_header (reads_longer header_form.schema node_limit bytes more read.0 front.1 fits read.1) ∙ ap (λ (h : Header). Ok (h, front.1)) read.2

pub front_longer : (side : Side) (front : Front) (bytes more : List ℕ) → IsBytes (bytes ++ more) → IsFrontOf side front bytes → IsFrontOf side front (bytes ++ more)
front_longer side front bytes more fits is = (
  record { header = header_longer bytes more (front.header, front.length) fits is.0.header; plain = is.0.plain; sent = is.0.sent },
  omega (arith, is.1, length-append bytes more),
)

-- a passage goes on in more bytes
pub stood_now : (side : Side) (nodes : List Node) (front : Front) (passage : Passage) (bytes : List ℕ) → IsBytes bytes → StoodIn side nodes front passage bytes → IsFrontOf side front bytes × StandsIn nodes front passage bytes
stood_now side nodes front passage bytes fits stood =
    let fine : IsBytes (stood.before ++ stood.since) = subst IsBytes stood.parts fits in
    let behind = drop-append-le front.length stood.before stood.since stood.begins.1 in
    let stands : StandsAt nodes (drop front.length (stood.before ++ stood.since)) passage =
    subst (λ (b : List ℕ). StandsAt nodes b passage) (sym behind) (stands_longer_is nodes (drop front.length stood.before) stood.since passage stood.stood.1) in
    subst (λ (b : List ℕ). IsFrontOf side front b × StandsIn nodes front passage b) (sym stood.parts) (front_longer side front stood.before stood.since fine stood.begins, (stood.stood.0, stands))

-- the body that a passage reads is the one of the header
pub read_place : (side : Side) (nodes : List Node) (front : Front) (passage : Passage) (bytes rest : List ℕ) → IsProfile nodes → IsFrontOf side front bytes → passage.id ≡ front.place → rest ≡ drop front.length bytes
    → read_value (schema nodes passage.id) node_limit rest ≡ read_value (shape_at front.place) node_limit (drop front.length bytes)
read_place side nodes front passage bytes rest profile is same cut =
    ap (λ (id : ℕ). read_value (schema nodes id) node_limit rest) same
    ∙ ap (λ (s : Schema). read_value s node_limit rest) (profile.schemas front.place (in_table side front.header front.place is.0.sent))
    ∙ ap (read_value (shape_at front.place) node_limit) cut

-- the place of the body is one of the table
pub place_there : (side : Side) (nodes : List Node) (front : Front) (bytes : List ℕ) → IsProfile nodes → IsFrontOf side front bytes → front.place < length nodes
place_there side nodes front bytes profile is = subst (λ (n : ℕ). front.place < n) (sym profile.size) (in_table side front.header front.place is.0.sent)

-- ---- what is refused stays so

abbrev fail : {A : Type 0} → FrameError → Result A FrameError
fail e = Err e

one_cause : {A : Type 0} (d e : FrameError) (x : Result A FrameError) → x ≡ Err d → x ≡ Err e → d ≡ e
one_cause {A} d e x h g = let q : fail {A = A} d ≡ fail e = sym h ∙ g in cc

-- bytes that end inside the header or the body are the ones that more may mend
header_final : (d : Refusal) → refused (f.Header d) ≡ p.Refused (f.Header d) → IsNotShort d
header_final d h offset is =
    absurd (let no : p.More ≡ p.Refused (f.Header (r.Short offset)) = subst (λ (x : Refusal). refused (f.Header x) ≡ p.Refused (f.Header x)) is h in cc)

body_final : (h : Header) (front : ℕ) (d : Refusal) → refused (f.Body h (shifted front d)) ≡ p.Refused (f.Body h (shifted front d)) → IsNotShort d
body_final h front d e offset is =
    absurd (let no : p.More ≡ p.Refused (f.Body h (r.Short (front + offset))) = subst (λ (x : Refusal). refused (f.Body h (shifted front x)) ≡ p.Refused (f.Body h (shifted front x))) is e in cc)

header_refused_as : (x : Result (Value × ℕ) Refusal) (d : FrameError) → as_header x ≡ Err d → (e : Refusal) × (x ≡ Err e) × (f.Header e ≡ d)
header_refused_as (Ok x) d h = absurd cc
header_refused_as (Err e) d h = (e, refl, one_cause {A = Header × ℕ} (f.Header e) d (as_header (Err e)) refl h)

header_stays : (bytes more : List ℕ) (d : FrameError) → IsBytes (bytes ++ more) → refused d ≡ p.Refused d → header_in bytes ≡ Err d → header_in (bytes ++ more) ≡ Err d
header_stays bytes more d fits final h =
    let e = header_refused_as (read_value header_form.schema node_limit bytes) d h in
    let some = header_final e.0 (subst (λ (x : FrameError). refused x ≡ p.Refused x) (sym e.2) final) in
    ap as_header (refuses_longer header_form.schema node_limit bytes more e.0 fits some e.1) ∙ ap (λ (x : FrameError). Err x) e.2

-- a body that was read and is followed by more is followed by more still
rest_stays : (h : Header) (front size more : ℕ) (v : Value) (len : ℕ) (d : FrameError) → len ≤ size → as_body h front size (Ok (v, len)) ≡ Err d → as_body h front (size + more) (Ok (v, len)) ≡ Err d
rest_stays h front size more v len d within e =
    elim (len == size) as (λ b. (len == size) ≡ b → (if b then Ok v else fail {A = Value} (f.Rest h (front + len))) ≡ Err d → as_body h front (size + more) (Ok (v, len)) ≡ Err d) [
      | true ↦ λ t g. absurd cc
      | false ↦ λ t g. longer t ∙ g
    ] refl e
  where
    longer : (len == size) ≡ false → as_body h front (size + more) (Ok (v, len)) ≡ Err (f.Rest h (front + len))
    longer t =
        let apart : len ≡ size + more → ⊥ = λ same. eqb-false len size t (omega (arith, same, within)) in
        let no : (len == size + more) ≡ false = grind (arith, nat_tests, apart) in
        ap (λ (b : Bool). if b then Ok v else fail {A = Value} (f.Rest h (front + len))) no

body_stays : (h : Header) (s : Schema) (rest more : List ℕ) (front : ℕ) (d : FrameError) → IsBytes (rest ++ more) → refused d ≡ p.Refused d
    → as_body h front (length rest) (read_value s node_limit rest) ≡ Err d → as_body h front (length (rest ++ more)) (read_value s node_limit (rest ++ more)) ≡ Err d
body_stays h s rest more front d fits final e =
    elim (read_value s node_limit rest) as (λ x. read_value s node_limit rest ≡ x → as_body h front (length rest) x ≡ Err d → as_body h front (length (rest ++ more)) (read_value s node_limit (rest ++ more)) ≡ Err d) [
      | Ok x ↦ λ g k.
          ap (as_body h front (length (rest ++ more))) (reads_longer s node_limit rest more x.0 x.1 fits g)
          ∙ ap (λ (n : ℕ). as_body h front n (Ok (x.0, x.1))) (length-append rest more)
          ∙ rest_stays h front (length rest) (length more) x.0 x.1 d (end_within s node_limit rest x.1 (x.0, g)) k
      | Err w ↦ λ g k.
          let is = one_cause {A = Value} (f.Body h (shifted front w)) d (as_body h front (length rest) (Err w)) refl k in
          let some = body_final h front w (subst (λ (x : FrameError). refused x ≡ p.Refused x) (sym is) final) in
          ap (as_body h front (length (rest ++ more))) (refuses_longer s node_limit rest more w fits some g) ∙ ap (λ (x : FrameError). Err x) is
    ] refl e

module _ (side : Side) (bytes more : List ℕ) (e : FrameError) (fits : IsBytes (bytes ++ more)) (final : refused e ≡ p.Refused e) (was : tree_of side bytes ≡ Err e) where
  abbrev Stays : Type 0
  Stays = tree_of side (bytes ++ more) ≡ Err e

  same_error : (d : FrameError) → tree_of side bytes ≡ Err d → d ≡ e
  same_error d h = one_cause d e (tree_of side bytes) h was

  final_of : (d : FrameError) → tree_of side bytes ≡ Err d → refused d ≡ p.Refused d
  final_of d h = subst (λ (x : FrameError). refused x ≡ p.Refused x) (sym (same_error d h)) final

  with_error : (d : FrameError) → tree_of side bytes ≡ Err d → tree_of side (bytes ++ more) ≡ Err d → Stays
  with_error d h g = g ∙ ap (λ (x : FrameError). Err x) (same_error d h)

  behind_place : (h : Header) (size place : ℕ) → header_in bytes ≡ Ok (h, size) → header_in (bytes ++ more) ≡ Ok (h, size) → admitted h ≡ Ok tt → body_place h.protocol h.kind side ≡ Some place → Stays
  behind_place h size place read again plain sent =
      let within = header_within bytes h size read in
      let cut = drop-append-le size bytes more within in
      let fine : IsBytes (drop size bytes ++ more) = subst IsBytes cut (bytes_behind size (bytes ++ more) fits) in
      elim (body_in h (shape_at place) size bytes) as (λ x. body_in h (shape_at place) size bytes ≡ x → Stays) [
        | Ok v ↦ λ g. absurd (let no : fail {A = Read} e ≡ Ok (h, (place, v)) = sym was ∙ whole_tree side bytes (h, size) place v read plain sent g in cc)
        | Err d ↦ λ g.
            let first = refused_body side bytes (h, size) place d read plain sent g in
            let body : body_in h (shape_at place) size (bytes ++ more) ≡ Err d =
            ap (λ (b : List ℕ). as_body h size (length b) (read_value (shape_at place) node_limit b)) cut ∙ body_stays h (shape_at place) (drop size bytes) more size d fine (final_of d first) g in
            with_error d first (refused_body side (bytes ++ more) (h, size) place d again plain sent body)
      ] refl

  behind_header : (h : Header) (size : ℕ) → header_in bytes ≡ Ok (h, size) → header_in (bytes ++ more) ≡ Ok (h, size) → Stays
  behind_header h size read again =
      elim (admitted h) as (λ x. admitted h ≡ x → Stays) [
        | Ok u ↦ λ plain.
            elim (body_place h.protocol h.kind side) as (λ o. body_place h.protocol h.kind side ≡ o → Stays) [
              | None ↦ λ none. with_error (f.UnknownKind h) (unknown_kind side bytes (h, size) read plain none) (unknown_kind side (bytes ++ more) (h, size) again plain none)
              | Some place ↦ λ sent. behind_place h size place read again plain sent
            ] refl
        | Err d ↦ λ not. with_error d (not_admitted side bytes (h, size) d read not) (not_admitted side (bytes ++ more) (h, size) d again not)
      ] refl

  tree_stays : Stays
  tree_stays =
      elim (header_in bytes) as (λ x. header_in bytes ≡ x → Stays) [
        | Ok front ↦ λ read. behind_header front.0 front.1 read (header_longer bytes more front fits read)
        | Err d ↦ λ read.
            let first = refused_header side bytes d read in
            with_error d first (refused_header side (bytes ++ more) d (header_stays bytes more d fits (final_of d first) read))
      ] refl

pub refused_stays_is : RefusedStays
refused_stays_is side bytes more e fits final h =
    (refused_alike side (bytes ++ more) e).1 (tree_stays side bytes more e fits final ((refused_alike side bytes e).0 h))

-- ---- the answers

pub says_tree : (side : Side) (bytes : List ℕ) (e : FrameError) → tree_of side bytes ≡ Err e → refused e ≡ said (read_of side bytes)
says_tree side bytes e h = sym (said_alike side bytes ∙ ap (λ (x : Result Read FrameError). said x) h)

pub says_short : (side : Side) (front : Front) (bytes : List ℕ) → IsFrontOf side front bytes → Passes (read_value (shape_at front.place) node_limit (drop front.length bytes)) passed.More → p.More ≡ said (read_of side bytes)
says_short side front bytes is h = sym (said_read side front bytes is (Err (r.Short h.0)) h.1)

pub says_whole : (side : Side) (front : Front) (bytes : List ℕ) (len : ℕ) → IsFrontOf side front bytes → Passes (read_value (shape_at front.place) node_limit (drop front.length bytes)) (passed.Whole len) → front.length + len ≡ length bytes
    → p.Whole ≡ said (read_of side bytes)
says_whole side front bytes len is h whole =
    let same : len ≡ length (drop front.length bytes) = omega (arith, whole, is.1, length-drop front.length bytes) in
    sym (said_read side front bytes is (Ok (h.0, len)) h.1 ∙ ap (λ (b : Bool). said (if b then Ok h.0 else fail {A = Value} (f.Rest front.header (front.length + len)))) (eq-eqb len (length (drop front.length bytes)) same))

pub says_rest : (side : Side) (front : Front) (bytes : List ℕ) (len : ℕ) → IsFrontOf side front bytes → Passes (read_value (shape_at front.place) node_limit (drop front.length bytes)) (passed.Whole len) → (front.length + len ≡ length bytes → ⊥)
    → p.Refused (f.Rest front.header (front.length + len)) ≡ said (read_of side bytes)
says_rest side front bytes len is h not =
    let other : len ≡ length (drop front.length bytes) → ⊥ = λ same. not (omega (arith, same, is.1, length-drop front.length bytes)) in
    let test : (len == length (drop front.length bytes)) ≡ false = grind (arith, nat_tests, other) in
    sym (said_read side front bytes is (Ok (h.0, len)) h.1 ∙ ap (λ (b : Bool). said (if b then Ok h.0 else fail {A = Value} (f.Rest front.header (front.length + len)))) test)

body_error_is : (h : Header) (front : ℕ) (e : Refusal) → IsFault (as_body_error h front e) → as_body_error h front e ≡ f.Body h (shifted front e)
body_error_is h front r.NoMemory some = absurd some
body_error_is h front e some = refl

-- a refusal of the body, if memory did not run out
pub says_refused : (side : Side) (front : Front) (bytes : List ℕ) (e : Refusal) (d : FrameError) → IsFrontOf side front bytes → PassRefuses (read_value (shape_at front.place) node_limit (drop front.length bytes)) e → d ≡ as_body_error front.header front.length e → IsFault d
    → p.Refused d ≡ said (read_of side bytes)
says_refused side front bytes e d is (inl memory) error some = absurd (subst IsFault (error ∙ ap (as_body_error front.header front.length) memory) some)
says_refused side front bytes e d is (inr h) error some =
    let body = error ∙ body_error_is front.header front.length e (subst IsFault error some) in
    ap (λ (x : FrameError). p.Refused x) body ∙ sym (body_refused front.header front.length e h.1) ∙ sym (said_read side front bytes is (Err e) h.0)

-- what was refused lies in the body, or memory ran out
pub refused_within : (front : Front) (bytes : List ℕ) (e : Refusal) → PassRefuses (read_value (shape_at front.place) node_limit (drop front.length bytes)) e → offset_in e ≤ length (drop front.length bytes)
refused_within front bytes e (inl memory) = refusal_within (shape_at front.place) node_limit (drop front.length bytes) e (inl memory)
refused_within front bytes e (inr h) = refusal_within (shape_at front.place) node_limit (drop front.length bytes) e (inr h.0)

-- ---- a reader

abbrev Answer : Type 0
Answer = Result (Reading × Stage) NoMemory

-- the reader's own answer
abbrev pub first : Answer → Result Reading NoMemory
first (Ok x) = Ok x.0
first (Err e) = Err e

-- where a reader is after an answer
abbrev pub left : Answer → Stage
left (Ok x) = x.1
left (Err e) = s.Lost

kept_after : (answer : Reading) (bytes piece : List ℕ) → kept answer (bytes ++ piece) ≡ heard_after (Fed bytes) piece (Ok answer)
kept_after p.More bytes piece = refl
kept_after p.Whole bytes piece = refl
kept_after (p.Refused e) bytes piece = refl

pub takes_after : (side : Side) (nodes : List Node) (heard : Heard) (piece : List ℕ) (answer : Answer) → Takes side nodes heard piece answer → heard_at (left answer) ≡ heard_after heard piece (first answer)
takes_after side nodes (Fed bytes) piece (Ok x) takes = takes.has ∙ kept_after x.0 bytes piece
takes_after side nodes (Fed bytes) piece (Err e) takes = refl
takes_after side nodes (Refused e) piece (Ok x) takes = ap (λ (a : Answer). heard_at (left a)) takes ∙ sym (ap (λ (a : Answer). heard_after (Refused e) piece (first a)) takes)
takes_after side nodes (Refused e) piece (Err d) takes = refl
takes_after side nodes Lost piece (Ok x) takes = absurd takes
takes_after side nodes Lost piece (Err e) takes = refl

-- what is answered of all bytes, and of what a reader has then
abbrev pub Hears : Side → List ℕ → Heard → List ℕ → Result Reading NoMemory → Type 0
Hears side fed heard piece answer = IfOk answer (λ x. x ≡ said (read_of side (fed ++ piece))) × Has side (fed ++ piece) (heard_after heard piece answer)

answered : (side : Side) (bytes piece : List ℕ) (answer : Reading) → answer ≡ said (read_of side (bytes ++ piece)) → Has side (bytes ++ piece) (heard_after (Fed bytes) piece (Ok answer))
answered side bytes piece p.More h = refl
answered side bytes piece p.Whole h = refl
answered side bytes piece (p.Refused e) h = said_refused (read_of side (bytes ++ piece)) e h

pub takes_hears : (side : Side) (nodes : List Node) (heard : Heard) (fed piece : List ℕ) (answer : Answer) → IsBytes (fed ++ piece) → Takes side nodes heard piece answer → Has side fed heard → Hears side fed heard piece (first answer)
takes_hears side nodes (Fed bytes) fed piece (Ok x) fits takes is =
    subst (λ (b : List ℕ). Hears side b (Fed bytes) piece (Ok x.0)) is (takes.says, answered side bytes piece x.0 takes.says)
takes_hears side nodes (Fed bytes) fed piece (Err e) fits takes is = (tt, tt)
takes_hears side nodes (Refused e) fed piece answer fits takes is =
    let stays = refused_stays_is side fed piece e fits is.1 is.0 in
    let says : p.Refused e ≡ said (read_of side (fed ++ piece)) = sym (ap (λ (x : Result (Header × Message) FrameError). said x) stays ∙ is.1) in
    subst (λ (a : Answer). Hears side fed (Refused e) piece (first a)) (sym takes) (says, (stays, is.1))
takes_hears side nodes Lost fed piece (Ok x) fits takes is = absurd takes
takes_hears side nodes Lost fed piece (Err e) fits takes is = (tt, tt)

-- a reader that was fed a piece
pub fed_on : (reader : Hearing) (nodes : List Node) (piece : List ℕ) (answer : Reading) (stage : Stage) → IsBytes piece → Takes reader.sender nodes reader.heard piece (Ok (answer, stage)) → (fed : List ℕ) → WasFed reader fed
    → IfOk {E = NoMemory} (Ok answer) (λ x. x ≡ said (read_of reader.sender (fed ++ piece))) × WasFed (record { sender = reader.sender; heard = heard_at stage }) (fed ++ piece)
fed_on reader nodes piece answer stage fits takes fed was =
    let fine = bytes_joined fed piece was.0 fits in
    let hears = takes_hears reader.sender nodes reader.heard fed piece (Ok (answer, stage)) fine takes was.1 in
    (hears.0, (fine, subst (Has reader.sender (fed ++ piece)) (sym (takes_after reader.sender nodes reader.heard piece (Ok (answer, stage)) takes)) hears.1))

pub fed_leaves : (reader : Hearing) (nodes : List Node) (piece : List ℕ) (answer : Reading) (stage : Stage) → Takes reader.sender nodes reader.heard piece (Ok (answer, stage)) → record { sender = reader.sender; heard = heard_at stage } ≡ after reader piece (Ok answer)
fed_leaves reader nodes piece answer stage takes = ap (left_with reader.sender) (takes_after reader.sender nodes reader.heard piece (Ok (answer, stage)) takes)
  where
    left_with : Side → Heard → Hearing
    left_with side heard = record { sender = side; heard = heard }

-- a message that is read has a tree
pub tree_read : (side : Side) (bytes : List ℕ) (y : Header × Message) → read_of side bytes ≡ Ok y → (t : Read) × (tree_of side bytes ≡ Ok t)
tree_read side bytes y h =
    elim (tree_of side bytes) as (λ x. tree_of side bytes ≡ x → (t : Read) × (x ≡ Ok t)) [
      | Ok t ↦ λ g. (t, refl)
      | Err d ↦ λ g. absurd (let no : fail {A = Header × Message} d ≡ Ok y = sym (refused_tree side bytes d g) ∙ h in cc)
    ] refl
