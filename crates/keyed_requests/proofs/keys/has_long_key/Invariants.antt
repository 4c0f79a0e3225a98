use Rattle.std.proofs.Common.{◌≡◌, drop}
use Rattle.std.specs.List.{list_any}
use Rattle.keyed_requests.specs.Keys.{is_long}
use Rattle.keyed_requests.proofs.keys.has_long_key.Given as goal

abbrev pub invariant-loop-pair : goal.invariant-loop-pair
invariant-loop-pair g l = list_any is_long (drop l.pair-index l.items) ≡ list_any is_long l.items
