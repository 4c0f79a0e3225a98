-- What a writer writes.
use Rattle.std.specs.Prelude.{◌≡◌, ℕ, ◌==◌, ◌||◌, true, List, length, Ok, Err, Result}
use Rattle.std.specs.Io.KnownBytes.{Keeps, Appends}
use Rattle.std.specs.declared.option.Option.{Option}
use Rattle.etp_outside.specs.Whole.{AppendsFront}
use Rattle.etp_capture.specs.Kinds.{kind_in, kind_out}
use Rattle.etp_capture.specs.Frames.{is_kind, is_length}
use Rattle.etp_capture.specs.declared.frame.Frame.{Frame}
use Rattle.etp_capture.specs.declared.writer.PutError.{PutError}
use Rattle.etp_capture.specs.declared.writer.PutError.TheVariants.{WriteFault, NoMemory}

-- a frame that is written: a message always is, however long
pub record IsWritable (f : Frame) : Type 0 where
  pub kind : is_kind f.kind ≡ true
  pub payload : (f.kind == kind_in || f.kind == kind_out || is_length f.kind (length f.bytes)) ≡ true

-- these bytes are written whole, or a part of their front, or nothing
abbrev pub Puts : {U : Type 0} → Result U PutError → List ℕ → Option (List ℕ) → Option (List ℕ) → Type 0
Puts (Ok u) bytes old new = Appends old new bytes
Puts (Err WriteFault) bytes old new = AppendsFront old new bytes
Puts (Err NoMemory) bytes old new = Keeps old new
