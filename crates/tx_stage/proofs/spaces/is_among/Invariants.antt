use Rattle.std.proofs.Common.{◌≡◌, drop}
use Rattle.std.specs.List.{list_any}
use Rattle.std.specs.Str.{bytes_eq}
use Rattle.tx_stage.proofs.spaces.is_among.Given as goal

abbrev pub invariant-loop-space : goal.invariant-loop-space
invariant-loop-space l = list_any (bytes_eq l.path) (drop l.space-index l.spaces) ≡ list_any (bytes_eq l.path) l.spaces
