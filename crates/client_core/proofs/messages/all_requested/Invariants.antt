use Rattle.std.proofs.Common.{◌≡◌, ◌++◌, drop, map}
use Rattle.client_core.specs.Messages.{requested}
use Rattle.client_core.proofs.messages.all_requested.Given as goal

abbrev pub invariant-loop-protocol : goal.invariant-loop-protocol
invariant-loop-protocol l = l.all.items ++ map requested (drop l.protocol-index l.protocols) ≡ map requested l.protocols
