-- A capture that is written in parts.
use Rattle.std.specs.Prelude.{Option, None, Some}
use Rattle.gathered_text.specs.declared.writing.Wrote.{Wrote}
use Rattle.gathered_text.specs.declared.writing.Wrote.TheVariants.{Whole, WriteFault, NoMemory}

-- why it ends, unless it continues
abbrev pub unless_whole : Wrote → Option Wrote
unless_whole Whole = None
unless_whole WriteFault = Some WriteFault
unless_whole NoMemory = Some NoMemory
