-- Where reading without a value stops.
use Rattle.std.proofs.Common.{◌≡◌, ℕ, ◌-◌, ◌≤◌, List, length, Result, Ok, Err, inl, inr, refl, sym, subst, arith}
use Rattle.avro_bin.specs.Value.{Value}
use Rattle.avro_bin.specs.Schema.{Schema}
use Rattle.avro_bin.specs.Reading.{Read, Got, value_at}
use Rattle.avro_bin.specs.Refusing.{refusal}
use Rattle.avro_bin.specs.Laws.{counted, read_value}
use Rattle.avro_bin.specs.Spanning.{Spans}
use Rattle.avro_bin.specs.declared.fault.Why.{Why}
use Rattle.avro_bin.specs.declared.fault.Why.TheVariants as why
use Rattle.avro_bin.specs.declared.refusal.Refusal.{Refusal}
use Rattle.etp_frame.specs.Parts.{offset_in}

-- how far reading came
abbrev reached : Result (Value × ℕ) Refusal → ℕ
reached (Ok x) = x.1
reached (Err e) = offset_in e

pub refused_at : (w : Why) (offset : ℕ) → offset_in (refusal w offset) ≡ offset
refused_at why.Short offset = refl
refused_at why.Number offset = refl
refused_at why.Range offset = refl
refused_at why.Bool offset = refl
refused_at why.Branch offset = refl
refused_at why.Utf8 offset = refl
refused_at why.Length offset = refl
refused_at why.BlockSize offset = refl
refused_at why.DoubleKey offset = refl
refused_at why.Limit offset = refl

counted_within : (size : ℕ) (r : Read Got) → reached (counted size r) ≤ size
counted_within size (Ok x) = omega arith
counted_within size (Err e) = omega (arith, refused_at e.0 (size - e.1))

reached_within : (s : Schema) (limit : ℕ) (bytes : List ℕ) → reached (read_value s limit bytes) ≤ length bytes
unfolding read_value
reached_within s limit bytes = counted_within (length bytes) (value_at s limit bytes)

-- a value ends within the bytes
pub end_within : (s : Schema) (limit : ℕ) (bytes : List ℕ) (len : ℕ) → Spans (read_value s limit bytes) (Ok len) → len ≤ length bytes
end_within s limit bytes len read = subst (λ (r : Result (Value × ℕ) Refusal). reached r ≤ length bytes) read.1 (reached_within s limit bytes)

-- and what is refused begins within them, or at their end
pub refusal_within : (s : Schema) (limit : ℕ) (bytes : List ℕ) (e : Refusal) → Spans (read_value s limit bytes) (Err e) → offset_in e ≤ length bytes
refusal_within s limit bytes e (inl memory) = subst (λ (d : Refusal). offset_in d ≤ length bytes) (sym memory) (omega arith)
refusal_within s limit bytes e (inr read) = subst (λ (r : Result (Value × ℕ) Refusal). reached r ≤ length bytes) read (reached_within s limit bytes)
