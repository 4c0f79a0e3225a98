-- What a program reports about its status.
use Rattle.std.specs.Prelude.{◌≡◌, ◌≢◌, ◌⊎◌, ℕ, List, [], ◌++◌, Option, codes}
use Rattle.std.specs.Io.KnownBytes.{Appends}
use Rattle.etp_outside.specs.Faults.{Rose}
use Rattle.etp_outside.specs.Status.{line_of, number_of}
use Rattle.etp_outside.specs.Whole.{AppendsFront}
use Rattle.etp_outside.specs.declared.status.Status.{Status}
use Rattle.etp_outside.specs.declared.status.Status.TheVariants.{Done, Usage, NoMemory}

-- what follows a status line: a line feed, and after a malformed command line the usage
abbrev pub ending : List ℕ → Status → List ℕ
ending usage Done = []
ending usage Usage = usage
ending usage status = codes "\n"

-- the status line and what follows it
abbrev pub told_with : List ℕ → Status → List ℕ
told_with usage status = line_of status ++ ending usage status

-- the text of a status was written; or a part of it, if the output's faults rose; or nothing if memory ran out, which can't happen if that
-- is itself the status
abbrev pub IsTold : Status → List ℕ → Option (List ℕ) → Option (List ℕ) → ℕ → ℕ → Type 0
IsTold status text old new before now = Appends old new text ⊎ ((AppendsFront old new text × Rose before now) ⊎ ((new ≡ old) × (status ≢ NoMemory)))

-- a program ended with the number of some status, and wrote the text of that one
abbrev pub Ends : (Status → List ℕ) → ℕ → Option (List ℕ) → Option (List ℕ) → ℕ → ℕ → Type 0
Ends text number old new before now = (status : Status) × (number ≡ number_of status) × IsTold status (text status) old new before now
