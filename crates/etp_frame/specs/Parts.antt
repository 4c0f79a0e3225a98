-- What the parts of reading a message answer.
use Rattle.std.specs.Prelude.{◌≡◌, ◌≢◌, ℕ, List, Some, Result, Ok, Err}
use Rattle.avro_bin.specs.Value.{Value}
use Rattle.avro_bin.specs.View.{value_of}
use Rattle.avro_bin.specs.declared.refusal.Refusal.{Refusal}
use Rattle.avro_bin.specs.declared.refusal.Refusal.TheVariants as r
use Rattle.avro_bin.specs.declared.tree.Tree.{Tree}
use Rattle.etp_schema.specs.Bodies.{body_place}
use Rattle.etp_schema.specs.Family.{Kind, message}
use Rattle.etp_schema.specs.declared.body.Side.{Side}
use Rattle.msg_channel.specs.ChannelDataLoad.{load_channel_data_form}
use Rattle.msg_channel.specs.declared.channel_data_load_messages.ChannelDataLoadMessage.TheVariants as load
use Rattle.msg_channel.specs.declared.channel_data_load_messages.LoadChannelData.{LoadChannelData}
use Rattle.etp_frame.specs.Reading.{shifted, header_in, admitted}
use Rattle.etp_frame.specs.declared.header.Header.{Header}
use Rattle.etp_frame.specs.declared.message.Message.{Message}
use Rattle.etp_frame.specs.declared.message.Message.TheVariants as m
use Rattle.etp_frame.specs.declared.error.FrameError.{FrameError}
use Rattle.etp_frame.specs.declared.error.FrameError.TheVariants as f

-- where an item was refused
abbrev pub offset_in : Refusal → ℕ
offset_in (r.Short offset) = offset
offset_in (r.Number offset) = offset
offset_in (r.Range offset) = offset
offset_in (r.Bool offset) = offset
offset_in (r.Branch offset) = offset
offset_in (r.Utf8 offset) = offset
offset_in (r.Length offset) = offset
offset_in (r.BlockSize offset) = offset
offset_in (r.DoubleKey offset) = offset
offset_in (r.Limit offset) = offset
offset_in r.NoMemory = 0

-- the error for a refusal of the header
abbrev pub as_header_error : Refusal → FrameError
as_header_error r.NoMemory = f.NoMemory
as_header_error e = f.Header e

-- the error for a refusal of the body, from this offset on
abbrev pub as_body_error : Header → ℕ → Refusal → FrameError
as_body_error h front r.NoMemory = f.NoMemory
as_body_error h front e = f.Body h (shifted front e)

-- the tree of the value that is expected, or its error, unless memory ran out
abbrev pub GivesValue : Result Tree FrameError → Result Value FrameError → Type 0
GivesValue (Ok t) expected = expected ≡ Ok (value_of t)
GivesValue (Err e) expected = e ≢ f.NoMemory → expected ≡ Err e

-- the header, place and tree of the value that are expected, or their error, unless memory ran out
abbrev pub GivesTree : Result (Header × ℕ × Tree) FrameError → Result (Header × (ℕ × Value)) FrameError → Type 0
GivesTree (Ok r) expected = expected ≡ Ok (r.0, (r.1, value_of r.2))
GivesTree (Err e) expected = e ≢ f.NoMemory → expected ≡ Err e

-- what comes before a body: a header of this length, which refuses nothing, and the place of the schema of the body that the side sends
-- with it
pub record IsFront (side : Side) (h : Header) (size place : ℕ) (bytes : List ℕ) : Type 0 where
  pub header : header_in bytes ≡ Ok (h, size)
  pub plain : admitted h ≡ Ok tt
  pub sent : body_place h.protocol h.kind side ≡ Some place

-- some value is expected, or that error, unless memory ran out
abbrev pub ChecksBody : Result (Unit {0}) FrameError → Result Value FrameError → Type 0
ChecksBody (Ok u) expected = (v : Value) × (expected ≡ Ok v)
ChecksBody (Err e) expected = e ≢ f.NoMemory → expected ≡ Err e

-- the header is expected with some body, or that error, unless memory ran out
abbrev pub ChecksMessage : Result Header FrameError → Result (Header × (ℕ × Value)) FrameError → Type 0
ChecksMessage (Ok h) expected = (body : ℕ × Value) × (expected ≡ Ok (h, body))
ChecksMessage (Err e) expected = e ≢ f.NoMemory → expected ≡ Err e

-- the message of this kind of some value that is expected, or that error, unless memory ran out
abbrev pub GivesMessage : Kind Message → Result Message FrameError → Result Value FrameError → Type 0
GivesMessage k (Ok x) expected = (v : Value) × (expected ≡ Ok v) × (x ≡ k.read v)
GivesMessage k (Err e) expected = e ≢ f.NoMemory → expected ≡ Err e

-- the message that loads these points
abbrev pub message_of_load : LoadChannelData → Message
message_of_load x = m.ChannelDataLoad (load.LoadChannelData x)

-- its kind
abbrev pub load_kind : Kind Message
load_kind = message 4 load_channel_data_form message_of_load
