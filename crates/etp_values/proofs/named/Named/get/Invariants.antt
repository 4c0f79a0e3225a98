use Rattle.std.proofs.Common.{◌≡◌, drop}
use Rattle.std.specs.Map.{lookup}
use Rattle.std.specs.Str.{bytes_eq}
use Rattle.etp_values.proofs.named.Named.get.Given as goal

abbrev pub invariant-loop-pair : goal.invariant-loop-pair
invariant-loop-pair g l = lookup (bytes_eq l.name) (drop l.pair-index l.pair-items) ≡ lookup (bytes_eq l.name) l.self
