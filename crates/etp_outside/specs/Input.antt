-- What a source in memory is.
use Rattle.std.specs.Prelude.{ℕ, List}
use Rattle.etp_outside.specs.declared.script.Script.{Script}

-- the bytes that are left, how many a read gives at most, and which reads fail
pub record Input : Type 0 where
  pub left : List ℕ
  pub most : ℕ
  pub script : Script
