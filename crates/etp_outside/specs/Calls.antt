-- The calls of an object in memory.
use Rattle.std.specs.Prelude.{ℕ, List, Bool, ◌==◌, if◌then◌else◌}
use Rattle.std.specs.List.{list_any}
use Rattle.etp_outside.specs.Faults.{next_count}
use Rattle.etp_outside.specs.declared.script.Script.{Script}

-- the script of an object before any call
abbrev pub new_script : List ℕ → Script
new_script fails = record { fails = fails; made = 0; faults = 0 }

-- whether the next call has a number that is listed
abbrev pub fails_next : Script → Bool
fails_next s = list_any (λ n. n == next_count s.made) s.fails

-- after one more call, which failed or not
abbrev pub after_call : Script → Bool → Script
after_call s failed = record { fails = s.fails; made = next_count s.made; faults = (if failed then next_count s.faults else s.faults) }
