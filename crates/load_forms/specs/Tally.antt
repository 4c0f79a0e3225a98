-- What answers a load, counted.
use Rattle.std.specs.Prelude.{ℕ, ℤ, ◌+◌, ◌*◌, ◌^◌, ◌<◌, ◌==◌, ◌&&◌, ◌||◌, Bool, true, false, List, [], ◌∷◌, if◌then◌else◌, Result, Ok, Err}
use Rattle.avro_bin.specs.Value.{Value}
use Rattle.etp_capture.specs.Kinds.{kind_out}
use Rattle.etp_capture.specs.declared.frame.Frame.{Frame}
use Rattle.etp_schema.specs.Bodies.{is_number}
use Rattle.etp_schema.specs.declared.body.Side.TheVariants.{Server}
use Rattle.etp_frame.specs.Message.{channel_subscribe_number}
use Rattle.etp_frame.specs.Reading.{tree_of}
use Rattle.etp_frame.specs.declared.header.Header.{Header}
use Rattle.etp_frame.specs.declared.error.FrameError.{FrameError}
use Rattle.load_forms.specs.declared.tally.Tally.{Tally}

-- the number of a message of ChannelSubscribe that reports points, a range or an end: ChannelData, RangeReplaced or ChannelsTruncated
abbrev pub is_change : ℤ → Bool
is_change kind = is_number 4 kind || (is_number 6 kind || is_number 13 kind)

-- the header of such a message
abbrev pub tells_change : Header → Bool
tells_change h = is_number channel_subscribe_number h.protocol && is_change h.kind

-- the same for what a server's bytes are read as
abbrev pub change_in : Result (Header × (ℕ × Value)) FrameError → Bool
change_in (Ok x) = tells_change x.0
change_in (Err e) = false

-- a message that was sent, and whether it reports a change
abbrev pub one_sent : Bool → Tally
one_sent true = record { sent = 1; changes = 1 }
one_sent false = record { sent = 1; changes = 0 }

abbrev pub nothing_sent : Tally
nothing_sent = record { sent = 0; changes = 0 }

-- a frame of this kind counts if it is a server's message
abbrev pub tally_part : ℕ → List ℕ → Tally
tally_part kind bytes = if kind == kind_out then one_sent (change_in (tree_of Server bytes)) else nothing_sent

abbrev pub tally_of : Frame → Tally
tally_of f = tally_part f.kind f.bytes

-- two counts together
abbrev pub plus : Tally → Tally → Tally
plus t u = record { sent = t.sent + u.sent; changes = t.changes + u.changes }

-- the messages among frames, and those of them that report changes
abbrev pub tally : List Frame → Tally
tally [] = nothing_sent
tally (f ∷ fs) = plus (tally_of f) (tally fs)

-- this many further frames can be counted, whatever answers them: a frame has fewer than 2 ^ 64 answers
abbrev pub HasRoom : ℕ → Tally → Type 0
HasRoom frames t = (t.sent + frames * 2 ^ 64 < 2 ^ 128) × (t.changes + frames * 2 ^ 64 < 2 ^ 128)
