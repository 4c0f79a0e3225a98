-- What the program reports about its status.
use Rattle.std.specs.Prelude.{ℕ, List, codes}
use Rattle.program_status.specs.Told.{told_with}
use Rattle.etp_outside.specs.declared.status.Status.{Status}

-- the status line and what follows it: after a malformed command line the usage
abbrev pub told : Status → List ℕ
told status = told_with (codes "\netpctl ping URL\netpctl spaces URL\netpctl put URL URI FILE\netpctl get URL URI\netpctl delete URL URI\netpctl load URL URI < LINES\netpctl range URL URI FROM TO\netpctl watch URL URI COUNT\netpctl follow URL URI START\n") status
