use Rattle.std.proofs.Common.{◌≡◌, ◌++◌, drop, map}
use Rattle.tx_stage.specs.Looks.{key_of}
use Rattle.session_core.proofs.noting.keys_of.Given as goal

abbrev pub invariant-loop-want : goal.invariant-loop-want
invariant-loop-want l = l.keys.items ++ map key_of (drop l.want-index l.wants) ≡ map key_of l.wants
