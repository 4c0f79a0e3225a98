-- What a reader answers, and its position afterwards.
use Rattle.std.specs.Prelude.{◌≡◌, ◌⊎◌, ℕ, suc, List, length, Option, Some, None, Result, Ok, Err}
use Rattle.avro_bin.specs.declared.fault.Why.TheVariants as why
use Rattle.avro_bin.specs.declared.fault.Fault.{Fault}
use Rattle.avro_bin.specs.declared.fault.Fault.TheVariants as fault
use Rattle.avro_bin.specs.declared.refusal.Refusal.{Refusal}
use Rattle.avro_bin.specs.declared.refusal.Refusal.TheVariants as r
use Rattle.avro_bin.specs.Value.{Value}
use Rattle.avro_bin.specs.Reading.{Read, ◌>>=◌, Fails, text_at, value_at}
use Rattle.avro_bin.specs.Along.{along, seen}
use Rattle.etp_schema.specs.Family.{Kind}
use Rattle.etp_schema.specs.declared.reader.Reader.{Reader}

-- the value was read and the reader is after it, or reading fails this way, unless memory ran out
abbrev pub Reads : {A : Type 0} → Read (A × ℕ) → Result A Fault → Reader → Type 0
Reads read (Ok x) at = read ≡ Ok ((x, at.left), at.rest.now)
Reads read (Err e) at = Fails e read

-- what is at the front was read and the reader is after it, with the nodes that it allowed before
abbrev pub ReadsLeaf : {A : Type 0} → Read A → Reader → Result A Fault → Reader → Type 0
ReadsLeaf read old (Ok x) new = (read ≡ Ok (x, new.rest.now)) × (new.left ≡ old.left)
ReadsLeaf read old (Err e) new = Fails e read

-- what is held now was read on from what was held, and the reader is after it
abbrev pub ReadsOn : {S : Type 0} → Read S → S → Reader → Result (Unit {0}) Fault → Type 0
ReadsOn read held at (Ok x) = read ≡ Ok (held, at.rest.now)
ReadsOn read held at (Err e) = Fails e read

-- one more node was allowed, or none was
abbrev pub Begins : Reader → Result (Unit {0}) Fault → Reader → Type 0
Begins old (Ok x) new = (old.left ≡ suc new.left) × (new.rest.now ≡ old.rest.now)
Begins old (Err e) new = (old.left ≡ 0) × (e ≡ fault.At why.Limit (length old.rest.now))

-- what whole bytes are read as, seen through f: a value and the length of its spelling, or why not, unless memory ran out
abbrev pub ReadsAs : {A : Type 0} → (Value → A) → Result (Value × ℕ) Refusal → Result (A × ℕ) Refusal → Type 0
ReadsAs f read (Ok x) = (v : Value) × (read ≡ Ok (v, x.1)) × (x.0 ≡ f v)
ReadsAs f read (Err e) = (e ≡ r.NoMemory) ⊎ (read ≡ Err e)

-- the message that the body at the front of the bytes is read as, with at most this many nodes, if there is one of its kind
abbrev pub kind_at : {M : Type 0} → Option (Kind M) → ℕ → List ℕ → Read (Option M × ℕ)
kind_at None n bytes = Ok ((None, n), bytes)
kind_at (Some k) n bytes = along (seen (λ v. Some (k.read v))) (value_at k.schema n bytes)

-- a name and its value, whether or not the name has occurred already
unfoldable pub pair_at : {A : Type 0} → (ℕ → List ℕ → Read (A × ℕ)) → ℕ → List ℕ → Read ((List ℕ × A) × ℕ)
pair_at value n bytes = do
  k ← text_at bytes
  along (λ x. ((k.0, x.0), x.1)) (value n k.1)
