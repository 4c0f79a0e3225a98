-- What the parts of showing and checking see of a message that was read.
use Rattle.std.specs.Prelude.{◌≡◌, ℕ, ◌++◌, Bool, true, false, List, Result, Ok, Err}
use Rattle.std.specs.Io.{StartsWith}
use Rattle.avro_bin.specs.View.{value_of}
use Rattle.avro_bin.specs.declared.tree.Tree.{Tree}
use Rattle.etp_frame.specs.declared.header.Header.{Header}
use Rattle.etp_frame.specs.declared.error.FrameError.{FrameError}
use Rattle.etp_frame.specs.declared.error.FrameError.TheVariants as f
use Rattle.capture_text.specs.Lines.{Reading}

abbrev pub TreeRead : Type 0
TreeRead = Result (Header × ℕ × Tree) FrameError

-- the value instead of its tree
abbrev pub seen : TreeRead → Reading
seen (Ok r) = Ok (r.0, (r.1, value_of r.2))
seen (Err e) = Err e

-- whether memory ran out
abbrev pub is_no_memory : FrameError → Bool
is_no_memory f.NoMemory = true
is_no_memory _ = false

abbrev pub wants_memory : TreeRead → Bool
wants_memory (Ok r) = false
wants_memory (Err e) = is_no_memory e

-- that is the answer, and the text follows what was there; or, if memory ran out, what was there is still at the front
abbrev pub WritesAs : {A E : Type 0} → A → List ℕ → List ℕ → List ℕ → Result A E → Type 0
WritesAs answer text old new (Ok x) = (x ≡ answer) × (new ≡ old ++ text)
WritesAs answer text old new (Err e) = StartsWith new old
