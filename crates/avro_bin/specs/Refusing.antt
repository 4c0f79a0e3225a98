-- Refusals of whole inputs.
use Rattle.std.specs.Prelude.{◌≡◌, ℕ, ◌≤◌, ◌-◌, List, length}
use Rattle.avro_bin.specs.declared.fault.Why.{Why}
use Rattle.avro_bin.specs.declared.fault.Why.TheVariants as why
use Rattle.avro_bin.specs.declared.refusal.Refusal.{Refusal}
use Rattle.avro_bin.specs.declared.refusal.Refusal.TheVariants as r
use Rattle.avro_bin.specs.Schema.{Schema}
use Rattle.avro_bin.specs.Failing.{Fails}

-- the refusal that says why, and at which offset
abbrev pub refusal : Why → ℕ → Refusal
refusal why.Short offset = r.Short offset
refusal why.Number offset = r.Number offset
refusal why.Range offset = r.Range offset
refusal why.Bool offset = r.Bool offset
refusal why.Branch offset = r.Branch offset
refusal why.Utf8 offset = r.Utf8 offset
refusal why.Length offset = r.Length offset
refusal why.BlockSize offset = r.BlockSize offset
refusal why.DoubleKey offset = r.DoubleKey offset
refusal why.Limit offset = r.Limit offset

-- no value of the schema, of at most this many nodes, is at the front of the bytes, and the refusal says why and where
pub record IsRefused (s : Schema) (limit : ℕ) (bytes : List ℕ) (e : Refusal) : Type 0 where
  pub why : Why
  pub offset : ℕ
  pub is : e ≡ refusal why offset
  pub within : offset ≤ length bytes
  pub fails : Fails s limit bytes why (length bytes - offset)
