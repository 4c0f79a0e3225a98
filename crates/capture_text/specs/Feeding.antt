-- A message that is checked in pieces.
use Rattle.std.specs.Prelude.{◌≡◌, ◌≢◌, ◌++◌, List, ℕ, Result, Ok, Err}
use Rattle.etp_schema.specs.declared.body.Side.{Side}
use Rattle.etp_frame.specs.Pieces.{Hearing, WasFed, said}
use Rattle.etp_frame.specs.Reading.{read_of}
use Rattle.etp_frame.specs.declared.error.FrameError.{FrameError}
use Rattle.etp_frame.specs.declared.error.FrameError.TheVariants as f
use Rattle.etp_frame.specs.declared.stage.Reading.{Reading as Answer}
use Rattle.etp_frame.specs.declared.stage.Reading.TheVariants as p

-- a reader of this side's messages was fed the front of the whole, and this is left
pub record IsFed (side : Side) (whole left : List ℕ) (reader : Hearing) : Type 0 where
  pub front : List ℕ
  pub parts : whole ≡ front ++ left
  pub sent : reader.sender ≡ side
  pub fed : WasFed reader front

-- the bytes are a message where that is answered
abbrev pub IsRight : Side → List ℕ → Answer → Type 0
IsRight side bytes answer = answer ≡ p.Whole → p.Whole ≡ said (read_of side bytes)

-- a reader was fed the front of the whole, and answered this
pub record HasSaid (side : Side) (whole left : List ℕ) (reader : Hearing) (answer : Answer) : Type 0 where
  pub before : IsFed side whole left reader
  pub right : IsRight side before.front answer

-- that is why the bytes are refused, unless memory ran out
abbrev pub IsCause : {A : Type 0} → Result A FrameError → FrameError → Type 0
IsCause read e = e ≢ f.NoMemory → read ≡ Err e

-- the bytes are read, or that is why they are refused, unless memory ran out
abbrev pub ChecksBytes : {A : Type 0} → Result A FrameError → Result (Unit {0}) FrameError → Type 0
ChecksBytes {A} read (Ok u) = (x : A) × (read ≡ Ok x)
ChecksBytes read (Err e) = IsCause read e
