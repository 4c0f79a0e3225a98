-- What reading a body as a message says about reading it.
use Rattle.std.proofs.Common.{◌≡◌, ◌≢◌, ◌∙◌, ◌⊎◌, inl, inr, ℕ, ℤ, pos, ◌+◌, ◌-◌, List, [], ◌∷◌, ◌++◌, Option, Some, None, Result, Ok, Err, Bool, true, false, if◌then◌else◌, is_some, length, drop, refl, sym, ap, subst}
use Rattle.std.specs.Prelude.{◌==◌}
use Rattle.std.proofs.lemmas.Option.{same_Some}
use Rattle.avro_bin.specs.declared.fault.Why.{Why}
use Rattle.avro_bin.specs.declared.fault.Why.TheVariants as why
use Rattle.avro_bin.specs.declared.fault.Fault.{Fault}
use Rattle.avro_bin.specs.declared.fault.Fault.TheVariants as fault
use Rattle.avro_bin.specs.declared.refusal.Refusal.{Refusal}
use Rattle.avro_bin.specs.declared.refusal.Refusal.TheVariants as r
use Rattle.avro_bin.specs.Value.{Value}
use Rattle.avro_bin.specs.Refusing.{refusal}
use Rattle.avro_bin.specs.Laws.{read_value, node_limit}
use Rattle.avro_bin.specs.Reading.{Read, Fails, value_at}
use Rattle.avro_bin.specs.Along.{along, seen}
use Rattle.avro_bin.proofs.AlongLemmas.{along_twice}
use Rattle.avro_bin.proofs.PassingLemmas.{Fails-along}
use Rattle.avro_bin.proofs.StepLemmas.{Fails-same}
use Rattle.etp_schema.specs.Bodies.{is_number, row_of}
use Rattle.etp_schema.specs.Family.{Kind, message, kind_in, read_as}
use Rattle.etp_schema.specs.Reading.{Reads, kind_at}
use Rattle.etp_schema.specs.Shapes.{shape_at}
use Rattle.etp_schema.specs.declared.body.Side.{Side}
use Rattle.etp_schema.specs.declared.reader.Reader.{Reader}
use Rattle.etp_schema.proofs.TypedLemmas.{seen_ok, seen_err}
use Rattle.msg_core.specs.Core.{core_kinds, protocol_exception_form, acknowledge_form}
use Rattle.msg_core.specs.declared.core_messages.CoreMessage.TheVariants as c
use Rattle.etp_frame.specs.Header.{header_form}
use Rattle.etp_frame.specs.Message.{under, common_kinds, typed_kind}
use Rattle.etp_frame.specs.Parts.{IsFront, GivesMessage, as_header_error, as_body_error}
use Rattle.etp_frame.specs.Reading.{as_header, header_in, as_body, body_in, shifted, read_of}
use Rattle.etp_frame.specs.declared.header.Header.{Header}
use Rattle.etp_frame.specs.declared.message.Message.{Message}
use Rattle.etp_frame.specs.declared.message.Message.TheVariants as m
use Rattle.etp_frame.specs.declared.error.FrameError.{FrameError}
use Rattle.etp_frame.specs.declared.error.FrameError.TheVariants as f
use Rattle.etp_frame.proofs.KindLemmas.{number_is, lifted, kind_under, kind_behind}
use Rattle.etp_frame.proofs.ReadingLemmas.{shape_sent, whole_tree, refused_body, message_of_tree, refused_tree}
use Rattle.etp_frame.proofs.RowLemmas.{row_kind, schema_row}

-- the header that was read
pub header_read : (bytes : List ℕ) (x : Header × ℕ) (v : Value) → read_value header_form.schema node_limit bytes ≡ Ok (v, x.1) → x.0 ≡ header_form.from_value v → header_in bytes ≡ Ok x
header_read bytes x v read same = ap as_header read ∙ ap (λ (h : Header). Ok (h, x.1)) (sym same)

header_error_is : (d : Refusal) → as_header_error d ≢ f.NoMemory → f.Header d ≡ as_header_error d
header_error_is r.NoMemory other = absurd (other refl)
header_error_is d other = refl

-- and why none was
pub header_refused : (bytes : List ℕ) (d : Refusal) (e : FrameError) → e ≡ as_header_error d → (d ≡ r.NoMemory) ⊎ (read_value header_form.schema node_limit bytes ≡ Err d) → e ≢ f.NoMemory → header_in bytes ≡ Err e
header_refused bytes d e is (inl memory) other = absurd (other (is ∙ ap as_header_error memory))
header_refused bytes d e is (inr read) other = ap as_header read ∙ ap (λ (x : FrameError). Err x) (header_error_is d (λ h. other (is ∙ h)) ∙ sym is)

-- a message of one enum as one of any
abbrev pub of_any : {M : Type 0} → (M → Message) → Option M → Option Message
of_any whole None = None
of_any whole (Some x) = Some (whole x)

at_lifted : {M : Type 0} (whole : M → Message) (k : Option (Kind M)) (n : ℕ) (bytes : List ℕ) → kind_at (lifted whole k) n bytes ≡ along (seen (of_any whole)) (kind_at k n bytes)
at_lifted whole None n bytes = refl
at_lifted whole (Some k) n bytes = sym (along_twice (seen (of_any whole)) (seen (λ v. Some (k.read v))) (value_at k.schema n bytes))

-- what is in the first list is found there
kind_front : (ks more : List (Kind Message)) (z : ℤ) → is_some (kind_in ks z) ≡ true → kind_in (ks ++ more) z ≡ kind_in ks z
kind_front [] more z h = absurd (let no : false ≡ true = h in cc)
kind_front (k ∷ ks) more z h =
    elim (is_number k.number z) as (λ b. is_some (if b then Some k else kind_in ks z) ≡ true → (if b then Some k else kind_in (ks ++ more) z) ≡ (if b then Some k else kind_in ks z)) [
      | true ↦ λ e. refl
      | false ↦ λ e. kind_front ks more z e
    ] h

-- The messages of one enum under a number z, which a call got as i.
module _ {M : Type 0} (whole : M → Message) (ks : List (Kind M)) (z : ℤ) (n : ℕ) (bytes : List ℕ) {i : ℤ} (same : i ≡ z) where
  at_under : kind_at (kind_in (under whole ks) z) n bytes ≡ along (seen (of_any whole)) (kind_at (kind_in ks i) n bytes)
  at_under = ap (λ (o : Option (Kind Message)). kind_at o n bytes) (kind_under whole ks z) ∙ at_lifted whole (kind_in ks z) n bytes ∙ ap (λ (j : ℤ). along (seen (of_any whole)) (kind_at (kind_in ks j) n bytes)) (sym same)

  -- what was read of one enum was read among those of any
  pub under_read : {y : Option M} (x : Option M) (left : ℕ) (rest : List ℕ) → y ≡ x → kind_at (kind_in ks i) n bytes ≡ Ok ((y, left), rest) → kind_at (kind_in (under whole ks) z) n bytes ≡ Ok ((of_any whole x, left), rest)
  under_read x left rest is h = at_under ∙ ap (along (seen (of_any whole))) h ∙ ap (λ (o : Option M). Ok ((of_any whole o, left), rest)) is

  pub under_fails : (e : Fault) → Fails e (kind_at (kind_in ks i) n bytes) → Fails e (kind_at (kind_in (under whole ks) z) n bytes)
  under_fails e h = Fails-same e _ _ (Fails-along e (seen (of_any whole)) (kind_at (kind_in ks i) n bytes) h) (sym at_under)

  -- a message of every protocol is read as in each of them
  pub common_read : (result : Result (Option Message) Fault) (at : Reader) → is_some (kind_in common_kinds i) ≡ true → Reads (kind_at (kind_in common_kinds i) n bytes) result at → Reads (kind_at (kind_in (common_kinds ++ under whole ks) z) n bytes) result at
  common_read result at found h =
      let front = kind_front common_kinds (under whole ks) i found in
      let moved = ap (λ (j : ℤ). kind_in (common_kinds ++ under whole ks) j) same in
      subst (λ (q : Read (Option Message × ℕ)). Reads q result at) (ap (λ (o : Option (Kind Message)). kind_at o n bytes) (sym front ∙ moved)) h

  -- what no other protocol has is read from the enum
  at_behind : is_some (kind_in common_kinds i) ≡ false → kind_at (kind_in (common_kinds ++ under whole ks) z) n bytes ≡ kind_at (kind_in (under whole ks) z) n bytes
  at_behind none = ap (λ (o : Option (Kind Message)). kind_at o n bytes) (kind_behind common_kinds (under whole ks) z (ap (λ (j : ℤ). is_some (kind_in common_kinds j)) (sym same) ∙ none))

  pub behind_read : {y : Option M} (x : Option M) (left : ℕ) (rest : List ℕ) → is_some (kind_in common_kinds i) ≡ false → y ≡ x → kind_at (kind_in ks i) n bytes ≡ Ok ((y, left), rest) → kind_at (kind_in (common_kinds ++ under whole ks) z) n bytes ≡ Ok ((of_any whole x, left), rest)
  behind_read x left rest none is h = at_behind none ∙ under_read x left rest is h

  pub behind_fails : (e : Fault) → is_some (kind_in common_kinds i) ≡ false → Fails e (kind_at (kind_in ks i) n bytes) → Fails e (kind_at (kind_in (common_kinds ++ under whole ks) z) n bytes)
  behind_fails e none h = Fails-same e _ _ (under_fails e h) (sym (at_behind none))

in_one : (b : Kind Message) (z : ℤ) → is_some (kind_in (b ∷ []) z) ≡ true → z ≡ pos b.number
in_one b z h =
    elim (is_number b.number z) as (λ t. is_number b.number z ≡ t → is_some (if t then Some b else None) ≡ true → z ≡ pos b.number) [
      | true ↦ λ e g. number_is b.number z e
      | false ↦ λ e g. absurd (let no : false ≡ true = g in cc)
    ] refl h

in_two : (a b : Kind Message) (z : ℤ) → is_some (kind_in (a ∷ b ∷ []) z) ≡ true → (z ≡ pos a.number) ⊎ (z ≡ pos b.number)
in_two a b z h =
    elim (is_number a.number z) as (λ t. is_number a.number z ≡ t → is_some (if t then Some a else kind_in (b ∷ []) z) ≡ true → (z ≡ pos a.number) ⊎ (z ≡ pos b.number)) [
      | true ↦ λ e g. inl (number_is a.number z e)
      | false ↦ λ e g. inr (in_one b z g)
    ] refl h

abbrev exception_kind : Kind Message
exception_kind = message 1000 protocol_exception_form (λ x. m.Core (c.ProtocolException x))

abbrev acknowledge_kind : Kind Message
acknowledge_kind = message 1001 acknowledge_form (λ x. m.Core (c.Acknowledge x))

-- a message of every protocol is one of Core's
common_core : (z : ℤ) → (z ≡ pos 1000) ⊎ (z ≡ pos 1001) → kind_in (under m.Core core_kinds) z ≡ kind_in common_kinds z
common_core z (inl e) = subst (λ (j : ℤ). kind_in (under m.Core core_kinds) j ≡ kind_in common_kinds j) (sym e) refl
common_core z (inr e) = subst (λ (j : ℤ). kind_in (under m.Core core_kinds) j ≡ kind_in common_kinds j) (sym e) refl

pub core_read : (z : ℤ) (n : ℕ) (bytes : List ℕ) {i : ℤ} (same : i ≡ z) (result : Result (Option Message) Fault) (at : Reader) → is_some (kind_in common_kinds i) ≡ true → Reads (kind_at (kind_in (under m.Core core_kinds) i) n bytes) result at → Reads (kind_at (kind_in common_kinds z) n bytes) result at
core_read z n bytes {i = i} same result at found h =
    let core = common_core i (in_two exception_kind acknowledge_kind i found) in
    let moved = ap (λ (j : ℤ). kind_in common_kinds j) same in
    subst (λ (q : Read (Option Message × ℕ)). Reads q result at) (ap (λ (o : Option (Kind Message)). kind_at o n bytes) (core ∙ moved)) h

-- if no message has the number, nothing is read
pub none_read : (o : Option (Kind Message)) (n : ℕ) (bytes : List ℕ) → is_some o ≡ false → kind_at o n bytes ≡ Ok ((None, n), bytes)
none_read None n bytes h = refl
none_read (Some k) n bytes h = absurd (let no : true ≡ false = h in cc)

-- the kind of a message that has a front is that of its body's schema
pub front_kind : (side : Side) (h : Header) (size place : ℕ) (bytes : List ℕ) → IsFront side h size place bytes → (k : Kind Message) × (typed_kind h.protocol h.kind ≡ Some k) × (k.schema ≡ shape_at place)
front_kind side h size place bytes is =
    let row = schema_row (row_of h.protocol h.kind side) (shape_at place) (shape_sent side h place is.sent) in
    let k = row_kind h.protocol h.kind side row.0 row.1 in
    (k.0, k.1, k.2 ∙ row.2)

-- what was read after a front, from the bytes after it
module _ (side : Side) (h : Header) (size place : ℕ) (bytes : List ℕ) (is : IsFront side h size place bytes) (k : Kind Message) (typed : typed_kind h.protocol h.kind ≡ Some k) (own : k.schema ≡ shape_at place) {behind : List ℕ} (all : behind ≡ drop size bytes) where
  -- as what a body is read there
  body_is : body_in h (shape_at place) size bytes ≡ as_body h size (length behind) (read_value k.schema node_limit behind)
  body_is = λ i. as_body h size (length (sym all i)) (read_value (sym own i) node_limit (sym all i))

  -- the message that was read of the body is that of the bytes
  pub typed_whole : (x : Message) → GivesMessage k (Ok x) (as_body h size (length behind) (read_value k.schema node_limit behind)) → read_of side bytes ≡ Ok (h, x)
  typed_whole x read =
      let v = read.0 in
      let tree = whole_tree side bytes (h, size) place v is.header is.plain is.sent (body_is ∙ read.1) in
      message_of_tree side bytes h place v (Some x) tree (ap (λ (y : Message). Some y) read.2 ∙ sym (ap (read_as v) typed))

  -- and why the body was refused is why the bytes are
  pub typed_refused : (e : FrameError) → GivesMessage k (Err e) (as_body h size (length behind) (read_value k.schema node_limit behind)) → e ≢ f.NoMemory → read_of side bytes ≡ Err e
  typed_refused e read other = refused_tree side bytes e (refused_body side bytes (h, size) place e is.header is.plain is.sent (body_is ∙ read other))

pub gives_by : (k : Kind Message) (b : Bool) (x : Message) (v : Value) (e : FrameError) → x ≡ k.read v → GivesMessage k (if b then Ok x else Err e) (if b then Ok v else Err e)
gives_by k true x v e same = (v, refl, same)
gives_by k false x v e same = λ other. refl

error_is : (h : Header) (front : ℕ) (w : Why) (offset : ℕ) → as_body_error h front (refusal w offset) ≡ f.Body h (shifted front (refusal w offset))
error_is h front why.Short offset = refl
error_is h front why.Number offset = refl
error_is h front why.Range offset = refl
error_is h front why.Bool offset = refl
error_is h front why.Branch offset = refl
error_is h front why.Utf8 offset = refl
error_is h front why.Length offset = refl
error_is h front why.BlockSize offset = refl
error_is h front why.DoubleKey offset = refl
error_is h front why.Limit offset = refl

-- what is answered for a body of kind k that is expected in these bytes after a given number of others
abbrev pub Expected : Header → Kind Message → ℕ → List ℕ → Result Message FrameError → Type 0
Expected h k front bytes result = GivesMessage k result (as_body h front (length bytes) (read_value k.schema node_limit bytes))

-- The body of a message of kind k that was read from bytes after a given number of others. A call got the header's numbers as p and q, and
-- what it read from as n and from.
module _ (h : Header) (k : Kind Message) (front : ℕ) (bytes : List ℕ) {p q : ℤ} (protocol : p ≡ h.protocol) (number : q ≡ h.kind) {n : ℕ} (limit : n ≡ node_limit) {from : List ℕ} (all : from ≡ bytes) (typed : typed_kind h.protocol h.kind ≡ Some k) where
  kind_is : kind_at (Some k) node_limit bytes ≡ kind_at (typed_kind p q) n from
  kind_is = ap (λ (o : Option (Kind Message)). kind_at o node_limit bytes) (sym typed) ∙ (λ i. kind_at (typed_kind (sym protocol i) (sym number i)) (sym limit i) (sym all i))

  -- a message was read, and the body ends where it is supposed to
  pub ended_gives : (x : Message) {y : Option Message} (left : ℕ) (rest : List ℕ) (len : ℕ) (result : Result Message FrameError) → y ≡ Some x → kind_at (typed_kind p q) n from ≡ Ok ((y, left), rest) → len ≡ length bytes - length rest
      → result ≡ (if len == length bytes then Ok x else Err (f.Rest h (front + len))) → Expected h k front bytes result
  ended_gives x left rest len result is read at ended =
      let got = kind_is ∙ read ∙ ap (λ (o : Option Message). Ok ((o, left), rest)) is in
      let body = seen_ok (λ v. Some (k.read v)) k.schema node_limit bytes (Some x) left rest got in
      let whole : read_value k.schema node_limit bytes ≡ Ok (body.0, len) = body.1 ∙ ap (λ (l : ℕ). Ok (body.0, l)) (sym at) in
      let given : Expected h k front bytes (if len == length bytes then Ok x else Err (f.Rest h (front + len))) =
      subst (λ (r : Result (Value × ℕ) Refusal). GivesMessage k (if len == length bytes then Ok x else Err (f.Rest h (front + len))) (as_body h front (length bytes) r)) (sym whole)
      (gives_by k (len == length bytes) x body.0 (f.Rest h (front + len)) (same_Some x (k.read body.0) body.2)) in
      subst (Expected h k front bytes) (sym ended) given

  -- no message of a kind is none
  pub none_gives : {y : Option Message} (left : ℕ) (rest : List ℕ) (result : Result Message FrameError) → y ≡ None → kind_at (typed_kind p q) n from ≡ Ok ((y, left), rest) → Expected h k front bytes result
  none_gives left rest result is read =
      let got = kind_is ∙ read ∙ ap (λ (o : Option Message). Ok ((o, left), rest)) is in
      let body = seen_ok (λ v. Some (k.read v)) k.schema node_limit bytes None left rest got in
      absurd (let no : None ≡ Some (k.read body.0) = body.2 in cc)

  -- the body was refused
  pub refused_gives : (w : Why) (left : ℕ) {d : Fault} (e : FrameError) → d ≡ fault.At w left → Fails d (kind_at (typed_kind p q) n from) → e ≡ as_body_error h front (refusal w (length bytes - left)) → Expected h k front bytes (Err e)
  refused_gives w left e is fails error =
      let got = kind_is ∙ subst (λ (d : Fault). Fails d (kind_at (typed_kind p q) n from)) is fails in
      let body = seen_err (λ v. Some (k.read v)) k.schema node_limit bytes w left got in
      let named : e ≡ f.Body h (shifted front (refusal w (length bytes - left))) = error ∙ error_is h front w (length bytes - left) in
      λ other. ap (as_body h front (length bytes)) body ∙ ap (λ (x : FrameError). Err x) (sym named)
