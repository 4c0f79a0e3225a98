-- What reading a load says about reading a body.
use Rattle.std.proofs.Common.{◌≡◌, ◌≢◌, ◌∙◌, ◌⊎◌, inl, inr, ℕ, ℤ, pos, ◌+◌, ◌-◌, ◌≤◌, ◌<◌, ◌^◌, List, Some, Result, Ok, Err, if◌then◌else◌, length, refl, sym, ap, subst, arith}
use Rattle.std.specs.Prelude.{◌==◌}
use Rattle.std.proofs.lemmas.Option.{same_Some}
use Rattle.avro_bin.specs.declared.fault.Why.{Why}
use Rattle.avro_bin.specs.declared.fault.Why.TheVariants as why
use Rattle.avro_bin.specs.declared.refusal.Refusal.{Refusal}
use Rattle.avro_bin.specs.declared.refusal.Refusal.TheVariants as r
use Rattle.avro_bin.specs.Value.{Value}
use Rattle.avro_bin.specs.Schema.{Schema}
use Rattle.avro_bin.specs.Refusing.{refusal}
use Rattle.avro_bin.specs.Reading.{Read, Got, value_at}
use Rattle.avro_bin.specs.Laws.{read_value, node_limit, counted}
use Rattle.etp_schema.specs.Family.{Kind}
use Rattle.etp_schema.specs.Reading.{ReadsAs}
use Rattle.msg_channel.specs.ChannelDataLoad.{load_channel_data_form}
use Rattle.msg_channel.specs.declared.channel_data_load_messages.LoadChannelData.{LoadChannelData}
use Rattle.etp_frame.specs.Message.{typed_kind}
use Rattle.etp_frame.specs.Parts.{GivesMessage, as_body_error, load_kind, message_of_load, offset_in}
use Rattle.etp_frame.specs.Reading.{as_body, shifted}
use Rattle.etp_frame.specs.declared.header.Header.{Header}
use Rattle.etp_frame.specs.declared.message.Message.{Message}
use Rattle.etp_frame.specs.declared.error.FrameError.{FrameError}
use Rattle.etp_frame.specs.declared.error.FrameError.TheVariants as f
use Rattle.etp_frame.proofs.TypedLemmas.{Expected, gives_by}

-- what its protocol has under the load's number
pub load_found : (protocol kind : ℤ) → protocol ≡ pos 22 → kind ≡ pos 4 → typed_kind protocol kind ≡ Some load_kind
load_found protocol kind p q = (λ i. typed_kind (p i) (q i)) ∙ refl

-- so a body that is read as a load is read as the message of its header
pub load_typed : (h : Header) (front : ℕ) (bytes : List ℕ) (k : Kind Message) (result : Result Message FrameError) → h.protocol ≡ pos 22 → h.kind ≡ pos 4 → typed_kind h.protocol h.kind ≡ Some k
    → Expected h load_kind front bytes result → Expected h k front bytes result
load_typed h front bytes k result p q typed read =
    let same : load_kind ≡ k = same_Some load_kind k (sym (load_found h.protocol h.kind p q) ∙ typed) in
    subst (λ (k : Kind Message). Expected h k front bytes result) same read

-- what bytes are read as where a load is expected
abbrev IsLoad : List ℕ → Result (LoadChannelData × ℕ) Refusal → Type 0
IsLoad bytes result = ReadsAs load_channel_data_form.from_value (read_value load_channel_data_form.schema node_limit bytes) result

-- ---- where a body is refused

offset_few : (w : Why) (offset len : ℕ) → offset ≤ len → offset_in (refusal w offset) ≤ len
offset_few why.Short offset len h = h
offset_few why.Number offset len h = h
offset_few why.Range offset len h = h
offset_few why.Bool offset len h = h
offset_few why.Branch offset len h = h
offset_few why.Utf8 offset len h = h
offset_few why.Length offset len h = h
offset_few why.BlockSize offset len h = h
offset_few why.DoubleKey offset len h = h
offset_few why.Limit offset len h = h

counted_within : (len : ℕ) (read : Read Got) (e : Refusal) → counted len read ≡ Err e → offset_in e ≤ len
counted_within len (Ok x) e h = absurd cc
counted_within len (Err d) e h =
    let same : refusal d.0 (len - d.1) ≡ e = cc in
    subst (λ (x : Refusal). offset_in x ≤ len) same (offset_few d.0 (len - d.1) len (omega arith))

refused_within : (s : Schema) (bytes : List ℕ) (e : Refusal) → read_value s node_limit bytes ≡ Err e → offset_in e ≤ length bytes
unfolding read_value
refused_within s bytes e h = counted_within (length bytes) (value_at s node_limit bytes) e h

memory_within : (e : Refusal) (len : ℕ) → e ≡ r.NoMemory → offset_in e ≤ len
memory_within e len is = subst (λ (x : Refusal). offset_in x ≤ len) (sym is) (omega arith)

-- a refused load, and the offset in all bytes
pub load_within : (bytes : List ℕ) (e : Refusal) (front : ℕ) → IsLoad bytes (Err e) → front + length bytes < 2 ^ 64 → front + offset_in e < 2 ^ 64
load_within bytes e front (inl memory) fits = omega (arith, memory_within e (length bytes) memory, fits)
load_within bytes e front (inr read) fits = omega (arith, refused_within load_channel_data_form.schema bytes e read, fits)

-- ---- what is answered for a load

-- the load was read, and the body ends where it is supposed to
pub load_gives : (h : Header) (front : ℕ) (bytes : List ℕ) (x : LoadChannelData) (len : ℕ) (m : Message) (result : Result Message FrameError)
    → IsLoad bytes (Ok (x, len)) → m ≡ message_of_load x
    → result ≡ (if len == length bytes then Ok m else Err (f.Rest h (front + len))) → Expected h load_kind front bytes result
load_gives h front bytes x len m result read is ended =
    let given : Expected h load_kind front bytes (if len == length bytes then Ok m else Err (f.Rest h (front + len))) =
    subst (λ (d : Result (Value × ℕ) Refusal). GivesMessage load_kind (if len == length bytes then Ok m else Err (f.Rest h (front + len))) (as_body h front (length bytes) d)) (sym read.1)
    (gives_by load_kind (len == length bytes) m read.0 (f.Rest h (front + len)) (is ∙ ap message_of_load read.2)) in
    subst (Expected h load_kind front bytes) (sym ended) given

body_error_is : (h : Header) (front : ℕ) (d : Refusal) → as_body_error h front d ≢ f.NoMemory → f.Body h (shifted front d) ≡ as_body_error h front d
body_error_is h front r.NoMemory other = absurd (other refl)
body_error_is h front d other = refl

-- the load was refused
pub load_refused : (h : Header) (front : ℕ) (bytes : List ℕ) (d : Refusal) (e : FrameError) → IsLoad bytes (Err d)
    → e ≡ as_body_error h front d → Expected h load_kind front bytes (Err e)
load_refused h front bytes d e (inl memory) is = λ other. absurd (other (is ∙ ap (as_body_error h front) memory))
load_refused h front bytes d e (inr read) is = λ other.
    ap (as_body h front (length bytes)) read ∙ ap (λ (x : FrameError). Err x) (body_error_is h front d (λ none. other (is ∙ none)) ∙ sym is)
