-- Headers, and the bits of their flags.
use Rattle.std.specs.Prelude.{refl, ℤ, pos, Bool, not, ◌==◌, bit_and}
use Rattle.std.specs.Int.{w32, cast_unsigned}
use Rattle.etp_schema.specs.Form.{Form, int_form, long_form, fields, ◌&◌, done}
use Rattle.etp_frame.specs.declared.header.Header.{Header}

-- protocol, messageType, correlationId, messageId, messageFlags
abbrev pub header_form : Form Header
header_form =
    fields (int_form & int_form & long_form & long_form & int_form & done)
    (λ x. (x.protocol, (x.kind, (x.correlation, (x.id, (x.flags, tt))))))
    (λ p. record { protocol = p.0; kind = p.1.0; correlation = p.1.1.0; id = p.1.1.1.0; flags = p.1.1.1.1.0 })
    (λ x. refl) (λ p. refl)

-- the bit of the last part of an answer, or of its only one
abbrev pub final_part : ℤ
final_part = pos 2

-- the bit of a compressed body
abbrev pub compressed : ℤ
compressed = pos 8

-- the bit of a message whose sender wants an Acknowledge
abbrev pub acknowledge : ℤ
acknowledge = pos 16

-- the bit of a header extension before the body
abbrev pub extended : ℤ
extended = pos 32

-- whether flags have one of these bits
abbrev pub has_flag : ℤ → ℤ → Bool
has_flag flags flag = not (bit_and (cast_unsigned w32 flags) (cast_unsigned w32 flag) == 0)
