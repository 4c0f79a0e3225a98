-- The laws of the names and of the shown texts.
use Rattle.std.specs.Prelude.{◌≡◌, ◌^◌, ◌≢◌, ◌<◌, ◌++◌, ◌&&◌, ◌||◌, ℕ, ℤ, Bool, false, nat_le, List, [], ◌∷◌, map, length, Some, FitsSigned}
use Rattle.std.specs.Int.{w64}
use Rattle.std.specs.Fmt.{signed_decimal}
use Rattle.std.specs.List.{AllByRecursion}
use Rattle.avro_bin.specs.Schema.{Schema, Schemas, SArray, SMap, SUnion, SFields, none, more}
use Rattle.avro_bin.specs.Ranges.{count}
use Rattle.avro_bin.specs.Shape.{HasSchema}
use Rattle.avro_bin.specs.Value.{Value, Values, Entries, VInt, VLong, VFloat, VDouble, VBytes, VText, VFixed, VArray, VMap, VUnion, VFields}
use Rattle.avro_bin.specs.Value as v
use Rattle.etp_schema.specs.Shapes.{shape_at}
use Rattle.etp_schema.specs.Bodies.{body_place}
use Rattle.etp_schema.specs.declared.body.Side.{Side}
use Rattle.capture_text.specs.Names.{message_at, fields_at, children_at}
use Rattle.capture_text.specs.MessageNames.{name_of}
use Rattle.capture_text.specs.Pieces.{hex, quoted}
use Rattle.capture_text.specs.Values.{value_text}

-- how many fields a schema has
abbrev pub field_count : Schema → ℕ
field_count (SFields ss) = count ss
field_count _ = 0

-- schemas as a list
abbrev pub listed : Schemas → List Schema
listed none = []
listed (more s ss) = s ∷ listed ss

-- the schemas of the parts of a schema
abbrev pub parts_of : Schema → List Schema
parts_of (SArray s) = s ∷ []
parts_of (SMap s) = s ∷ []
parts_of (SUnion ss) = listed ss
parts_of (SFields ss) = listed ss
parts_of _ = []

-- a place has as many names as its schema has fields
abbrev pub FieldsAreNamed : Type 0
FieldsAreNamed = (place : ℕ) → length (fields_at place) ≡ field_count (shape_at place)

-- the parts of the node at a place have the schemas of the parts of its schema
abbrev pub PartsAreTheSchemas : Type 0
PartsAreTheSchemas = (place : ℕ) → map shape_at (children_at place) ≡ parts_of (shape_at place)

-- a message that a side sends has a name
abbrev pub MessagesAreNamed : Type 0
MessagesAreNamed = (protocol kind : ℤ) (side : Side) (place : ℕ) → body_place protocol kind side ≡ Some place → message_at place ≢ []

-- that name is the one of its protocol's number and its own
abbrev pub MessagesHaveTheirNames : Type 0
MessagesHaveTheirNames = (protocol kind : ℤ) (side : Side) (place : ℕ) → body_place protocol kind side ≡ Some place → message_at place ≡ name_of protocol kind

-- no two bodies have one name
abbrev pub NamesDiffer : Type 0
NamesDiffer = (a b : ℕ) → message_at a ≡ message_at b → message_at a ≢ [] → a ≡ b

-- whether a character is a digit, or a letter that is used as one
abbrev pub is_digit : ℕ → Bool
is_digit c = (nat_le 48 c && nat_le c 57) || (nat_le 65 c && nat_le c 70)

-- the end, or anything that does not begin with a digit
abbrev pub Ends : List ℕ → Type 0
Ends [] = Unit {0}
Ends (c ∷ cs) = is_digit c ≡ false

-- each is a byte
abbrev pub AreBytes : List ℕ → Type 0
AreBytes = AllByRecursion (λ b. b < 256)

-- a text begins with the numeral of at most one number
abbrev pub OneNumber : Type 0
OneNumber = (a b : ℤ) (x y : List ℕ) → FitsSigned w64 a → FitsSigned w64 b → Ends x → Ends y → signed_decimal a ++ x ≡ signed_decimal b ++ y → (a ≡ b) × (x ≡ y)

-- a text begins with the digits of the same bytes at most
abbrev pub OneRunOfBytes : Type 0
OneRunOfBytes = (a b : List ℕ) (x y : List ℕ) → AreBytes a → AreBytes b → Ends x → Ends y → hex a ++ x ≡ hex b ++ y → (a ≡ b) × (x ≡ y)

-- a text begins with one quoted text at most
abbrev pub OneQuotedText : Type 0
OneQuotedText = (a b : List ℕ) (x y : List ℕ) → AreBytes a → AreBytes b → quoted a ++ x ≡ quoted b ++ y → (a ≡ b) × (x ≡ y)

-- what a tree's value is like: numbers of 64 bits, singles of 32, and bytes that are bytes
abbrev mutual
  pub IsInRange : Value → Type 0
  IsInRange (VInt x) = FitsSigned w64 x
  IsInRange (VLong x) = FitsSigned w64 x
  IsInRange (VFloat bits) = bits < 2 ^ 32
  IsInRange (VDouble bits) = bits < 2 ^ 64
  IsInRange (VBytes b) = AreBytes b
  IsInRange (VText b) = AreBytes b
  IsInRange (VFixed b) = AreBytes b
  IsInRange (VArray vs) = AreInRange vs
  IsInRange (VMap es) = EntriesAreInRange es
  IsInRange (VUnion b v) = IsInRange v
  IsInRange (VFields vs) = AreInRange vs
  IsInRange _ = Unit {0}

  pub AreInRange : Values → Type 0
  AreInRange v.none = Unit {0}
  AreInRange (v.more x vs) = IsInRange x × AreInRange vs

  pub EntriesAreInRange : Entries → Type 0
  EntriesAreInRange v.none_named = Unit {0}
  EntriesAreInRange (v.more_named n x es) = AreBytes n × IsInRange x × EntriesAreInRange es

-- a text begins with the text of at most one value of a schema, if no digit follows it: values that differ have different texts
abbrev pub OneText : Type 0
OneText = (place : ℕ) (v w : Value) (x y : List ℕ) → HasSchema (shape_at place) v → HasSchema (shape_at place) w → IsInRange v → IsInRange w
    → Ends x → Ends y → value_text place v ++ x ≡ value_text place w ++ y → (v ≡ w) × (x ≡ y)
