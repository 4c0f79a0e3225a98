-- How far a message that comes in pieces was read.
use Rattle.std.specs.Prelude.{◌≡◌, ◌≤◌, ◌<◌, ◌++◌, List, ℕ, length, drop, Option, Some, None, Result, Ok, Err, IfOk}
use Rattle.etp_values.specs.declared.memory.NoMemory.{NoMemory}
use Rattle.avro_bin.specs.declared.schema.Node.{Node}
use Rattle.avro_bin.specs.Schema.{schema, IsTable}
use Rattle.avro_pieces.specs.declared.passage.Passage.{Passage}
use Rattle.avro_pieces.specs.Passage.{StandsAt}
use Rattle.etp_schema.specs.declared.body.Side.{Side}
use Rattle.etp_schema.specs.Shapes.{shape_at, table_size}
use Rattle.etp_frame.specs.Reading.{IsFault, read_of}
use Rattle.etp_frame.specs.Parts.{IsFront}
use Rattle.etp_frame.specs.Pieces.{Heard, Fed, Refused, Lost, RanOut, refused, said}
use Rattle.etp_frame.specs.declared.error.FrameError.{FrameError}
use Rattle.etp_frame.specs.declared.stage.Front.{Front}
use Rattle.etp_frame.specs.declared.stage.Stage.{Stage}
use Rattle.etp_frame.specs.declared.stage.Stage.TheVariants as s
use Rattle.etp_frame.specs.declared.stage.Reading.{Reading}
use Rattle.etp_frame.specs.declared.stage.Reading.TheVariants as p

-- the nodes of the profile's table
pub record IsProfile (nodes : List Node) : Type 0 where
  pub order : IsTable nodes
  pub size : length nodes ≡ table_size
  pub schemas : (id : ℕ) → id < table_size → schema nodes id ≡ shape_at id

-- the bytes begin with such a header
abbrev pub IsFrontOf : Side → Front → List ℕ → Type 0
IsFrontOf side front bytes = IsFront side front.header front.length front.place bytes × (front.length ≤ length bytes)

-- a passage stands in the body behind the header
abbrev pub StandsIn : List Node → Front → Passage → List ℕ → Type 0
StandsIn nodes front passage bytes = (passage.id ≡ front.place) × StandsAt nodes (drop front.length bytes) passage

-- the same, when bytes may have come since
pub record StoodIn (side : Side) (nodes : List Node) (front : Front) (passage : Passage) (bytes : List ℕ) : Type 0 where
  pub before : List ℕ
  pub since : List ℕ
  pub parts : bytes ≡ before ++ since
  pub begins : IsFrontOf side front before
  pub stood : StandsIn nodes front passage before

-- what is kept while the bytes come
abbrev pub Stands : Side → List Node → Stage → Type 0
Stands side nodes (s.Header bytes) = Unit {0}
Stands side nodes (s.Body bytes front passage) = IsFrontOf side front bytes.items × StandsIn nodes front passage bytes.items
Stands side nodes (s.Refused e) = Unit {0}
Stands side nodes s.Lost = Unit {0}

-- what it has of the bytes
abbrev pub heard_at : Stage → Heard
heard_at (s.Header bytes) = Fed bytes.items
heard_at (s.Body bytes front passage) = Fed bytes.items
heard_at (s.Refused e) = Refused e
heard_at s.Lost = Lost

-- what is kept of bytes after an answer
abbrev pub kept : Reading → List ℕ → Heard
kept (p.Refused e) bytes = Refused e
kept answer bytes = Fed bytes

-- the answer of these bytes, and where it leaves the message
pub record IsAnswer (side : Side) (nodes : List Node) (bytes : List ℕ) (answer : Reading) (stage : Stage) : Type 0 where
  pub says : answer ≡ said (read_of side bytes)
  pub has : heard_at stage ≡ kept answer bytes
  pub stands : Stands side nodes stage

-- what a piece makes of what there was
abbrev pub Takes : Side → List Node → Heard → List ℕ → Result (Reading × Stage) NoMemory → Type 0
Takes side nodes (Fed bytes) piece result = IfOk result (λ x. IsAnswer side nodes (bytes ++ piece) x.0 x.1)
Takes side nodes (Refused e) piece result = result ≡ Ok (p.Refused e, s.Refused e)
Takes side nodes Lost piece result = RanOut result

-- the refusal, or nothing if the bytes only end inside the header or the body
abbrev pub IsRejected : FrameError → Option FrameError → Type 0
IsRejected e None = IsFault e × (refused e ≡ p.More)
IsRejected e (Some d) = IsFault e × (d ≡ e) × (refused e ≡ p.Refused e)
