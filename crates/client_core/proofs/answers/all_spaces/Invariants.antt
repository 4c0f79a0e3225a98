use Rattle.std.proofs.Common.{◌≡◌, ◌++◌, drop, map}
use Rattle.client_core.specs.Answers.{space_of}
use Rattle.client_core.proofs.answers.all_spaces.Given as goal

abbrev pub invariant-loop-found : goal.invariant-loop-found
invariant-loop-found l = l.spaces.items ++ map space_of (drop l.found-index l.all) ≡ map space_of l.all
