-- What a disk in memory is.
use Rattle.std.specs.Prelude.{ℕ, List}
use Rattle.journal_disk.specs.declared.mem_disk.DiskCall.{DiskCall}

-- the bytes that it began with, those that a read gives, the calls that were made, the last one first, the numbers of those that fail, how much
-- of its piece a write leaves that fails, and how often it failed
pub record Platter : Type 0 where
  pub first : List ℕ
  pub held : List ℕ
  pub calls : List DiskCall
  pub fails : List ℕ
  pub kept : ℕ
  pub faults : ℕ
