-- What the program reports about its status.
use Rattle.std.specs.Prelude.{ℕ, List, codes}
use Rattle.program_status.specs.Told.{told_with}
use Rattle.etp_outside.specs.declared.status.Status.{Status}

-- the status line and what follows it: after a malformed command line the usage
abbrev pub told : Status → List ℕ
told status = told_with (codes "\netptool replay CONFIG < CAPTURE > ANSWERS\netptool show < CAPTURE\netptool check < CAPTURE\netptool capture N > CAPTURE\netptool generate N\n") status
