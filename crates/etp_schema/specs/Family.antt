-- The messages of a protocol by their numbers.
use Rattle.std.specs.Prelude.{◌≡◌, ℕ, ℤ, pos, List, [], ◌∷◌, Option, Some, None, if◌then◌else◌}
use Rattle.avro_bin.specs.Value.{Value}
use Rattle.avro_bin.specs.Schema.{Schema}
use Rattle.avro_bin.specs.Shape.{HasSchema}
use Rattle.etp_schema.specs.Form.{Form}
use Rattle.etp_schema.specs.Bodies.{is_number}

-- a message among those of M: its number, the schema of its body, and the message that a body is read as
pub record Kind (M : Type 0) : Type 0 where
  pub number : ℕ
  pub schema : Schema
  pub read : Value → M

abbrev pub message : {A M : Type 0} → ℕ → Form A → (A → M) → Kind M
message number f variant = record { number = number; schema = f.schema; read = λ v. variant (f.from_value v) }

-- the message of a number
abbrev pub kind_in : {M : Type 0} → List (Kind M) → ℤ → Option (Kind M)
kind_in [] number = None
kind_in (k ∷ ks) number = if is_number k.number number then Some k else kind_in ks number

abbrev pub read_as : {M : Type 0} → Value → Option (Kind M) → Option M
read_as v None = None
read_as v (Some k) = Some (k.read v)

-- what a body is read as, if there is a message of that number
abbrev pub read_kind : {M : Type 0} → List (Kind M) → ℤ → Value → Option M
read_kind ks number v = read_as v (kind_in ks number)

-- a message as it is written: its number, and its body's schema and value
pub record Body : Type 0 where
  pub number : ℕ
  pub schema : Schema
  pub value : Value

abbrev pub body : {A : Type 0} → ℕ → Form A → A → Body
body number f x = record { number = number; schema = f.schema; value = f.as_value x }

-- a message is found under its number, with its body's schema, and its body is read as that message
abbrev pub IsFound : {M : Type 0} → List (Kind M) → (M → Body) → M → Type 0
IsFound {M} kinds written x =
    (k : Kind M)
    × (kind_in kinds (pos (written x).number) ≡ Some k)
    × (k.schema ≡ (written x).schema)
    × (HasSchema (written x).schema (written x).value → k.read (written x).value ≡ x)

-- what a body is read as is written as that body, under the same number
abbrev pub IsAgain : {M : Type 0} → (M → Body) → Kind M → Type 0
IsAgain written k = (v : Value) → HasSchema k.schema v → written (k.read v) ≡ record { number = k.number; schema = k.schema; value = v }

pub again : {A : Type 0} (number : ℕ) (f : Form A) (v : Value) → HasSchema f.schema v → body number f (f.from_value v) ≡ record { number = number; schema = f.schema; value = v }
again number f v h = λ i. record { number = number; schema = f.schema; value = f.there v h i }
