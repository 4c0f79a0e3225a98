-- What a link in memory is.
use Rattle.std.specs.Prelude.{Bool}
use Rattle.etp_outside.specs.declared.script.Script.{Script}
use Rattle.etp_outside.specs.Talk.{Talk}

-- what it reveals, whether its end was reported, whether it was closed, and which calls fail
pub record Line : Type 0 where
  pub talk : Talk
  pub ended : Bool
  pub closed : Bool
  pub script : Script
