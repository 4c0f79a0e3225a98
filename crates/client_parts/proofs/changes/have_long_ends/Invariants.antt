use Rattle.std.proofs.Common.{◌≡◌, drop}
use Rattle.std.specs.List.{list_all}
use Rattle.client_parts.specs.Changes.{is_long}
use Rattle.client_parts.proofs.changes.have_long_ends.Given as goal

abbrev pub invariant-loop-info : goal.invariant-loop-info
invariant-loop-info l = list_all (λ t. is_long t.new_end_index) (drop l.info-index l.infos) ≡ list_all (λ t. is_long t.new_end_index) l.infos
