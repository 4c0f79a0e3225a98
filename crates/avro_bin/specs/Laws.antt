-- The promises of reading and writing.
use Rattle.std.specs.Prelude.{◌≡◌, ◌↔◌, ℕ, ◌-◌, ◌<◌, ◌≤◌, ◌^◌, ◌++◌, ◌⊎◌, List, length, take, get_or, Result, Ok, Err}
use Rattle.avro_bin.specs.Value.{Value, nodes}
use Rattle.avro_bin.specs.Schema.{Schema}
use Rattle.avro_bin.specs.Grammar.{Spells}
use Rattle.avro_bin.specs.Plain.{plain}
use Rattle.avro_bin.specs.Refusing.{refusal, IsRefused}
use Rattle.avro_bin.specs.Reading.{Read, Got, value_at}
use Rattle.avro_bin.specs.Shape.{HasSchema, FitsTree}
use Rattle.avro_bin.specs.View.{value_of}
use Rattle.avro_bin.specs.declared.tree.Tree.{Tree}
use Rattle.avro_bin.specs.declared.refusal.Refusal.{Refusal}
use Rattle.avro_bin.specs.declared.refusal.Refusal.TheVariants as r
use Rattle.avro_bin.specs.declared.sizing.TooLong.{TooLong}

-- the bytes begin with a spelling of the value, of this length, and the value has few enough nodes
pub record IsRead (s : Schema) (limit : ℕ) (bytes : List ℕ) (v : Value) (len : ℕ) : Type 0 where
  pub within : len ≤ length bytes
  pub spelled : Spells s v (take len bytes)
  pub few : nodes v ≤ limit

-- what reading whole bytes answers: the value and the length of its spelling, or the refusal
abbrev pub counted : ℕ → Read Got → Result (Value × ℕ) Refusal
counted len (Ok x) = Ok (x.0.0, len - length x.1)
counted len (Err e) = Err (refusal e.0 (len - e.1))

-- reading a value: which value, and how many bytes it takes, or why and where the bytes don't spell one
unfoldable pub read_value : Schema → ℕ → List ℕ → Result (Value × ℕ) Refusal
read_value s limit bytes = counted (length bytes) (value_at s limit bytes)

-- that is what was answered, unless memory ran out
abbrev pub Decodes : Result (Value × ℕ) Refusal → Result (Tree × ℕ) Refusal → Type 0
Decodes read (Ok x) = read ≡ Ok (value_of x.0, x.1)
Decodes read (Err e) = (e ≡ r.NoMemory) ⊎ (read ≡ Err e)

-- it was read this way, unless memory ran out
abbrev pub ReadsAs : Value → ℕ → Result (Tree × ℕ) Refusal → Type 0
ReadsAs v len (Ok x) = (value_of x.0 ≡ v) × (x.1 ≡ len)
ReadsAs v len (Err e) = e ≡ r.NoMemory

-- it was refused this way, unless memory ran out
abbrev pub RefusesAs : Refusal → Result (Tree × ℕ) Refusal → Type 0
RefusesAs e (Ok x) = ⊥
RefusesAs e (Err d) = (d ≡ e) ⊎ (d ≡ r.NoMemory)

-- how many nodes a decoded value may have
abbrev pub node_limit : ℕ
node_limit = 8388608

-- the length, or that it is above 2^40
abbrev pub IsSize : ℕ → Result ℕ TooLong → Type 0
IsSize len (Ok n) = (n ≡ len) × (len ≤ 2 ^ 40)
IsSize len (Err e) = 2 ^ 40 < len

-- bytes begin with at most one spelling, of one value: no spelling is a prefix of another
abbrev pub OneSpelling : Type 0
OneSpelling = (s : Schema) (a b x y : List ℕ) (v w : Value) → Spells s v a → Spells s w b → a ++ x ≡ b ++ y → (a ≡ b) × (v ≡ w)

-- each is a byte
abbrev pub IsBytes : List ℕ → Type 0
IsBytes bytes = (i : ℕ) → get_or bytes i 0 < 256

-- bytes begin with a value, or are refused
abbrev pub SomeOutcome : Type 0
SomeOutcome = (s : Schema) (limit : ℕ) (bytes : List ℕ) → IsBytes bytes → ((v : Value) × (len : ℕ) × IsRead s limit bytes v len) ⊎ ((e : Refusal) × IsRefused s limit bytes e)

-- bytes that begin with a value are not refused
abbrev pub NotBoth : Type 0
NotBoth = (s : Schema) (limit : ℕ) (bytes : List ℕ) (v : Value) (len : ℕ) (e : Refusal) → IsRead s limit bytes v len → IsRefused s limit bytes e → ⊥

-- bytes are refused in at most one way
abbrev pub OneRefusal : Type 0
OneRefusal = (s : Schema) (limit : ℕ) (bytes : List ℕ) (d e : Refusal) → IsRefused s limit bytes d → IsRefused s limit bytes e → d ≡ e

-- a value is what reading answers exactly if the bytes begin with it
abbrev pub ReadsExactly : Type 0
ReadsExactly = (s : Schema) (limit : ℕ) (bytes : List ℕ) (v : Value) (len : ℕ) → IsBytes bytes → (read_value s limit bytes ≡ Ok (v, len)) ↔ IsRead s limit bytes v len

-- a refusal is what reading answers exactly if the bytes are refused with it
abbrev pub RefusesExactly : Type 0
RefusesExactly = (s : Schema) (limit : ℕ) (bytes : List ℕ) (e : Refusal) → IsBytes bytes → (read_value s limit bytes ≡ Err e) ↔ IsRefused s limit bytes e

-- what is written spells the value
abbrev pub PlainSpells : Type 0
PlainSpells = (s : Schema) (v : Value) → HasSchema s v → FitsTree v → Spells s v (plain v)

-- what is written reads back, whatever follows it
abbrev pub ReadsBack : Type 0
ReadsBack = (s : Schema) (v : Value) (limit : ℕ) (rest : List ℕ) → HasSchema s v → FitsTree v → nodes v ≤ limit → IsRead s limit (plain v ++ rest) v (length (plain v))

-- a value that is spelled has the schema
abbrev pub SpelledHasSchema : Type 0
SpelledHasSchema = (s : Schema) (v : Value) (bytes : List ℕ) → Spells s v bytes → HasSchema s v

-- a refusal for another reason than that the input ends inside an item
abbrev pub IsNotShort : Refusal → Type 0
IsNotShort e = (offset : ℕ) → e ≡ r.Short offset → ⊥

-- what is read is read alike, whatever follows it
abbrev pub ReadsLonger : Type 0
ReadsLonger = (s : Schema) (limit : ℕ) (bytes more : List ℕ) (v : Value) (len : ℕ) → IsBytes (bytes ++ more) → read_value s limit bytes ≡ Ok (v, len) → read_value s limit (bytes ++ more) ≡ Ok (v, len)

-- what is refused, but not because the input ends, is refused alike, whatever follows it
abbrev pub RefusesLonger : Type 0
RefusesLonger = (s : Schema) (limit : ℕ) (bytes more : List ℕ) (e : Refusal) → IsBytes (bytes ++ more) → IsNotShort e → read_value s limit bytes ≡ Err e → read_value s limit (bytes ++ more) ≡ Err e
