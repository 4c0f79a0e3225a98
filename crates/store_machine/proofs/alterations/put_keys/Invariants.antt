use Rattle.std.proofs.Common.{◌≡◌, ◌++◌, drop, map}
use Rattle.store_machine.specs.Marking.{put_key}
use Rattle.store_machine.proofs.alterations.put_keys.Given as goal

abbrev pub invariant-loop-put : goal.invariant-loop-put
invariant-loop-put l = l.keys.items ++ map put_key (drop l.put-index l.put-items) ≡ map put_key l.puts
