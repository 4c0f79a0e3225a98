use Rattle.std.proofs.Common.{◌≡◌, drop}
use Rattle.etp_outside.specs.Memory.{find_file}
use Rattle.etp_outside.proofs.mem_host.file_named.Given as goal

-- no file before this one has the name
abbrev pub invariant-loop-file : goal.invariant-loop-file
invariant-loop-file l = find_file (drop l.file-index l.files) l.name ≡ find_file l.files l.name
