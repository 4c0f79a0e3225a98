-- What is reported while a command runs for long.
use Rattle.std.specs.Prelude.{◌≡◌, ◌≤◌, ◌+◌, ◌==◌, ℕ, Bool, true, false, List, ◌++◌, codes, count_by, take, Option}
use Rattle.std.specs.Fmt.{decimal}
use Rattle.std.specs.Io.KnownBytes.{Appends}
use Rattle.etp_values.specs.Weight.{capped}
use Rattle.etp_outside.specs.Faults.{Rose}
use Rattle.etp_outside.specs.Whole.{AppendsFront}
use Rattle.etp_outside.specs.declared.source.ReadOutcome.{ReadOutcome}
use Rattle.etp_outside.specs.declared.source.ReadOutcome.TheVariants.{Got, End, Failed as ReadFailed}
use Rattle.etp_outside.specs.declared.whole.Written.{Written}
use Rattle.etp_outside.specs.declared.whole.Written.TheVariants.{Done, Failed as WriteFailed}
use Rattle.etpctl.specs.declared.progress.Counted.{Counted}
use Rattle.etpctl.specs.declared.progress.Counted.TheVariants.{Points, Changes}

-- what follows a number of them
abbrev pub counted_text : Counted → List ℕ
counted_text Points = codes " points read\n"
counted_text Changes = codes " changes seen\n"

-- the line of a count
abbrev pub progress_line : Counted → ℕ → List ℕ
progress_line what count = codes "etpctl: " ++ decimal count ++ counted_text what

-- what writing a text leaves of an output: all of it is there, or a proper prefix, and the output has failed
abbrev pub IsWritten : Written → List ℕ → Option (List ℕ) → Option (List ℕ) → ℕ → ℕ → Type 0
IsWritten Done text held kept before after = Appends held kept text × (before ≤ after)
IsWritten WriteFailed text held kept before after = AppendsFront held kept text × Rose before after

-- what reporting leaves of an output, by whether somebody is watching and whether the line was written in this second: if it is reported,
-- it is written once
abbrev pub Tells : Bool → Bool → List ℕ → Option (List ℕ) → Option (List ℕ) → ℕ → ℕ → Type 0
Tells true false text held kept before after = (w : Written) × IsWritten w text held kept before after
Tells is_shown is_told text held kept before after = (kept ≡ held) × (after ≡ before)

-- how many line feeds there are among bytes
abbrev pub line_feeds : List ℕ → ℕ
line_feeds bytes = count_by (λ b. b == 10) bytes

-- a count with the line feeds that a read gave, with the buffer as it is afterwards
abbrev pub count_with : ReadOutcome → List ℕ → ℕ → ℕ
count_with (Got n) buf count = capped (count + line_feeds (take n buf))
count_with End buf count = count
count_with ReadFailed buf count = count
