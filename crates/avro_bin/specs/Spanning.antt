-- What reading without a value answers.
use Rattle.std.specs.Prelude.{◌≡◌, ℕ, ◌⊎◌, Result, Ok, Err}
use Rattle.avro_bin.specs.Value.{Value}
use Rattle.avro_bin.specs.declared.refusal.Refusal.{Refusal}
use Rattle.avro_bin.specs.declared.refusal.Refusal.TheVariants as r

-- this many bytes were read, or they were refused this way, unless memory ran out
abbrev pub Spans : Result (Value × ℕ) Refusal → Result ℕ Refusal → Type 0
Spans read (Ok len) = (v : Value) × (read ≡ Ok (v, len))
Spans read (Err e) = (e ≡ r.NoMemory) ⊎ (read ≡ Err e)
