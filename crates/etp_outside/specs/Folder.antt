-- What a host in memory is.
use Rattle.std.specs.Prelude.{List}
use Rattle.etp_outside.specs.declared.mem_host.MemFile.{MemFile}
use Rattle.etp_outside.specs.declared.script.Script.{Script}

-- the files, and which calls of `open` fail
pub record Folder : Type 0 where
  pub files : List MemFile
  pub script : Script
