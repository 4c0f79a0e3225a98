-- The lines of frames.
use Rattle.std.specs.Prelude.{ℕ, ℤ, ◌==◌, ◌++◌, List, [], codes, if◌then◌else◌, Option, Some, None, Result, Ok, Err}
use Rattle.std.specs.Fmt.{decimal, signed_decimal}
use Rattle.avro_bin.specs.Value.{Value}
use Rattle.etp_capture.specs.Kinds.{kind_in, kind_poll, kind_end, kind_out, kind_ended}
use Rattle.etp_capture.specs.declared.frame.Frame.{Frame}
use Rattle.etp_schema.specs.declared.body.Side.{Side}
use Rattle.etp_schema.specs.declared.body.Side.TheVariants.{Client, Server}
use Rattle.etp_frame.specs.Reading.{tree_of}
use Rattle.etp_frame.specs.declared.header.Header.{Header}
use Rattle.etp_frame.specs.declared.error.FrameError.{FrameError}
use Rattle.capture_text.specs.declared.checking.Checked.{Checked}
use Rattle.capture_text.specs.declared.checking.Checked.TheVariants.{NoMessage, Taken, Refused}
use Rattle.capture_text.specs.declared.counting.Counts.{Counts}
use Rattle.capture_text.specs.Names.{message_at}
use Rattle.capture_text.specs.Pieces.{hex}
use Rattle.capture_text.specs.Values.{value_text}
use Rattle.capture_text.specs.Faults.{fault_text}

-- what a frame of a kind is called; an unknown kind is called by its number
abbrev pub kind_name : ℕ → List ℕ
kind_name kind =
    if kind == kind_in then codes "in"
    else if kind == kind_poll then codes "poll"
    else if kind == kind_end then codes "end"
    else if kind == kind_out then codes "out"
    else if kind == kind_ended then codes "ended"
    else decimal kind

-- who sent the message of a frame of a kind, if such frames have one
abbrev pub sender_of : ℕ → Option Side
sender_of kind = if kind == kind_in then Some Client else if kind == kind_out then Some Server else None

-- what a message is read as: the header, the place of the body's schema and the body's value, or the cause that refuses it
abbrev pub Reading : Type 0
Reading = Result (Header × (ℕ × Value)) FrameError

-- what is read of a frame's message, if it has one
abbrev pub read_by : Option Side → List ℕ → Option Reading
read_by None bytes = None
read_by (Some side) bytes = Some (tree_of side bytes)

abbrev pub reading_of : Frame → Option Reading
reading_of f = read_by (sender_of f.kind) f.bytes

-- a word and a number
abbrev pub labelled : List ℕ → ℤ → List ℕ
labelled word number = word ++ signed_decimal number

-- where a frame begins in its capture, and what it is
abbrev pub start_text : ℕ → ℕ → List ℕ
start_text offset kind = decimal offset ++ codes " " ++ kind_name kind

-- the same, its session and its moment
abbrev pub front_text : ℕ → Frame → List ℕ
front_text offset f = start_text offset f.kind ++ codes " " ++ decimal f.tag ++ labelled (codes " ") f.moment

-- which message a header names
abbrev pub kind_text : Header → List ℕ
kind_text h = labelled (codes " p=") h.protocol ++ labelled (codes " t=") h.kind

-- the other numbers of a header
abbrev pub ids_text : Header → List ℕ
ids_text h = labelled (codes " c=") h.correlation ++ labelled (codes " m=") h.id ++ labelled (codes " f=") h.flags

-- a message's name and the numbers of its header
abbrev pub title_text : ℕ → Header → List ℕ
title_text place h = codes " " ++ message_at place ++ (kind_text h ++ ids_text h)

-- a message with its body, or the cause that refuses it
abbrev pub reading_text : Reading → List ℕ
reading_text (Ok x) = title_text x.1.0 x.0 ++ codes " " ++ value_text x.1.0 x.1.1
reading_text (Err e) = codes " refused " ++ fault_text e

-- what follows a frame's moment: its message, or the bytes of a session's end, or nothing
abbrev pub rest_text : Option Reading → Frame → List ℕ
rest_text None f = if f.kind == kind_ended then codes " " ++ hex f.bytes else []
rest_text (Some reading) f = reading_text reading

-- the line that shows a frame
abbrev pub shown_line : ℕ → Frame → List ℕ
shown_line offset f = front_text offset f ++ rest_text (reading_of f) f ++ codes "\n"

-- the line of a message that is refused; none for a message that is read, and for a frame without one
abbrev pub line_of : ℕ → Option Reading → List ℕ
line_of offset None = []
line_of offset (Some (Ok x)) = []
line_of offset (Some (Err e)) = decimal offset ++ codes " " ++ fault_text e ++ codes "\n"

-- the line of a frame that `check` shows
abbrev pub checked_line : ℕ → Frame → List ℕ
checked_line offset f = line_of offset (reading_of f)

-- what checking a frame found
abbrev pub found_of : Option Reading → Checked
found_of None = NoMessage
found_of (Some (Ok x)) = Taken
found_of (Some (Err e)) = Refused

-- what `check` finds of a frame
abbrev pub checked_of : Frame → Checked
checked_of f = found_of (reading_of f)

-- a word and a count
abbrev pub counted : List ℕ → ℕ → List ℕ
counted word count = word ++ decimal count

-- the line of counts
abbrev pub counts_line : Counts → List ℕ
counts_line c = counted (codes "frames ") c.frames ++ counted (codes " messages ") c.messages ++ counted (codes " refused ") c.refused ++ codes "\n"
