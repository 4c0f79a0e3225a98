use Rattle.std.proofs.Common.{◌≡◌, ◌++◌, drop, map}
use Rattle.client_parts.specs.Changes.{truncated}
use Rattle.client_parts.proofs.changes.all_truncated.Given as goal

abbrev pub invariant-loop-info : goal.invariant-loop-info
invariant-loop-info l = l.changes.items ++ map truncated (drop l.info-index l.infos) ≡ map truncated l.infos
