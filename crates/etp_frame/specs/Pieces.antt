-- Messages that come in pieces: what a reader was fed, and what it answers.
use Rattle.std.specs.Prelude.{◌≡◌, ◌++◌, List, ℕ, Result, Ok, Err}
use Rattle.etp_values.specs.Gives.{Gives}
use Rattle.etp_values.specs.declared.memory.NoMemory.{NoMemory}
use Rattle.avro_bin.specs.Laws.{IsBytes}
use Rattle.avro_bin.specs.declared.refusal.Refusal.TheVariants as r
use Rattle.etp_schema.specs.declared.body.Side.{Side}
use Rattle.etp_frame.specs.Reading.{read_of}
use Rattle.etp_frame.specs.declared.header.Header.{Header}
use Rattle.etp_frame.specs.declared.message.Message.{Message}
use Rattle.etp_frame.specs.declared.error.FrameError.{FrameError}
use Rattle.etp_frame.specs.declared.error.FrameError.TheVariants as f
use Rattle.etp_frame.specs.declared.stage.Reading.{Reading}
use Rattle.etp_frame.specs.declared.stage.Reading.TheVariants as p

-- what is answered of bytes that are refused so: more is needed where they end inside the header or the body, and only there
abbrev pub refused : FrameError → Reading
refused (f.Header (r.Short offset)) = p.More
refused (f.Body h (r.Short offset)) = p.More
refused e = p.Refused e

-- what is answered of bytes that are read so
abbrev pub said : {A : Type 0} → Result A FrameError → Reading
said (Ok x) = p.Whole
said (Err e) = refused e

-- what a reader has of what it was fed: all the bytes, or why they are refused, or nothing after memory ran out
pub data Heard : Type 0 where
  Fed : List ℕ → Heard
  Refused : FrameError → Heard
  Lost : Heard

-- a reader: who sends the bytes, and what it has of them
pub record Hearing : Type 0 where
  pub sender : Side
  pub heard : Heard

-- what a reader has was made of these bytes
abbrev pub Has : Side → List ℕ → Heard → Type 0
Has side fed (Fed bytes) = bytes ≡ fed
Has side fed (Refused e) = (read_of side fed ≡ Err e) × (refused e ≡ p.Refused e)
Has side fed Lost = Unit {0}

-- the reader was fed these bytes, in whatever pieces
abbrev pub WasFed : Hearing → List ℕ → Type 0
WasFed reader fed = IsBytes fed × Has reader.sender fed reader.heard

-- with one more piece
abbrev pub with_piece : Heard → List ℕ → Heard
with_piece (Fed bytes) piece = Fed (bytes ++ piece)
with_piece heard piece = heard

-- what a reader has after it was fed a piece and answered so
abbrev pub heard_after : Heard → List ℕ → Result Reading NoMemory → Heard
heard_after heard piece (Ok (p.Refused e)) = Refused e
heard_after heard piece (Ok answer) = with_piece heard piece
heard_after heard piece (Err e) = Lost

-- the same for the reader
abbrev pub after : Hearing → List ℕ → Result Reading NoMemory → Hearing
after reader piece answer = record { sender = reader.sender; heard = heard_after reader.heard piece answer }

-- memory ran out
abbrev pub RanOut : {A : Type 0} → Result A NoMemory → Type 0
RanOut (Ok x) = ⊥
RanOut (Err e) = Unit {0}

-- a refusal is answered again, and so is that memory ran out
abbrev pub IsAgain : Heard → Result Reading NoMemory → Type 0
IsAgain (Fed bytes) answer = Unit {0}
IsAgain (Refused e) answer = answer ≡ Ok (p.Refused e)
IsAgain Lost answer = RanOut answer

-- the message of all bytes, or why there is none
abbrev pub Finishes : Side → Heard → Result (Header × Message) FrameError → Type 0
Finishes side (Fed bytes) result = Gives f.NoMemory result (read_of side bytes)
Finishes side (Refused e) result = result ≡ Err e
Finishes side Lost result = result ≡ Err f.NoMemory

-- what is refused as a message, but not because the bytes end, is refused alike, whatever follows it
abbrev pub RefusedStays : Type 0
RefusedStays = (side : Side) (bytes more : List ℕ) (e : FrameError) → IsBytes (bytes ++ more) → refused e ≡ p.Refused e → read_of side bytes ≡ Err e → read_of side (bytes ++ more) ≡ Err e
