use Rattle.std.proofs.Common.{◌≡◌}
use Rattle.watch_views.proofs.BoardLemmas.{first_mapped}
use Rattle.watch_views.proofs.board.watch_all.Given as goal

abbrev pub invariant-loop-i : goal.invariant-loop-i
invariant-loop-i g l = l.shelves.items ≡ first_mapped l.i l.fn.shelves.items (λ s. record s { channel = l.channel })
