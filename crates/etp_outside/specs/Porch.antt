-- What a listener in memory is.
use Rattle.std.specs.Prelude.{ℕ, Bool, List}
use Rattle.etp_outside.specs.declared.script.Script.{Script}
use Rattle.etp_outside.specs.declared.mem_door.Returned.{Returned}
use Rattle.etp_outside.specs.Line.{Line}

-- the links still to be given out, those that came back, how many are out, whether it has stopped, and which calls fail
pub record Porch : Type 0 where
  pub waiting : List Line
  pub back : List Returned
  pub out : ℕ
  pub stopped : Bool
  pub script : Script
