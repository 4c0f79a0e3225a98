-- What is left, continued from what is accepted so far, leads where the whole leads.
use Rattle.std.proofs.Common.{◌≡◌, drop, fold, map, filter}
use Rattle.std.specs.Ordering.{int_eq}
use Rattle.session_rows.specs.Once.{with_new}
use Rattle.session_rows.specs.Opening.{accepted_protocols, is_acceptable}
use Rattle.session_rows.proofs.opening.accepted_protocols.Given as goal

abbrev pub invariant-loop-asked : goal.invariant-loop-asked
invariant-loop-asked l = fold (with_new int_eq) l.accepted.items (map (λ p. p.protocol) (filter is_acceptable (drop l.asked-index l.requested))) ≡ accepted_protocols l.requested
