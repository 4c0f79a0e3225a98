-- What a sink in memory is.
use Rattle.std.specs.Prelude.{ℕ, List}
use Rattle.etp_outside.specs.declared.script.Script.{Script}

-- the bytes that are held, how many fit without allocating, how many a write takes at most, and which writes fail
pub record Output : Type 0 where
  pub held : List ℕ
  pub room : ℕ
  pub most : ℕ
  pub script : Script
