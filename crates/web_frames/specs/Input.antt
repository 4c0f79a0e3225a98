-- The bytes that have come and were not taken.
use Rattle.std.specs.Prelude.{◌≡◌, ℕ, List, ◌++◌, length, slice_range, Option}
use Rattle.std.specs.Io.KnownBytes.{Consumes, IsAtEnd, Keeps}
use Rattle.web_frames.specs.declared.buffer.Input.{Input}
use Rattle.web_frames.specs.declared.input.Filled.{Filled}
use Rattle.web_frames.specs.declared.input.Filled.TheVariants as filled

abbrev pub bytes_of : Input → List ℕ
bytes_of i = slice_range i.bytes.items i.start i.end

-- a read of a stream with these bytes left: what came stands after what was there, and otherwise nothing has changed
abbrev pub Fills : Filled → (left left_now : Option (List ℕ)) → (old new : List ℕ) → Type 0
Fills (filled.Bytes count all) left left_now old new =
    (come : List ℕ) × (length come ≡ count) × Consumes left left_now come × (new ≡ old ++ come)
Fills filled.End left left_now old new = IsAtEnd left_now × (new ≡ old)
Fills filled.Nothing left left_now old new = Keeps left left_now × (new ≡ old)
Fills filled.Again left left_now old new = Keeps left left_now × (new ≡ old)
Fills filled.Fault left left_now old new = Keeps left left_now × (new ≡ old)
Fills filled.NoMemory left left_now old new = Keeps left left_now × (new ≡ old)
