use Rattle.std.proofs.Common.{◌≡◌, drop}
use Rattle.std.specs.List.{list_any}
use Rattle.std.specs.Map.{values_of}
use Rattle.std.specs.Ordering.{int_eq}
use Rattle.client_core.proofs.channels.is_among.Given as goal

abbrev pub invariant-loop-pair : goal.invariant-loop-pair
invariant-loop-pair l = list_any (λ x. int_eq x l.id) (values_of (drop l.pair-index l.named)) ≡ list_any (λ x. int_eq x l.id) (values_of l.named)
