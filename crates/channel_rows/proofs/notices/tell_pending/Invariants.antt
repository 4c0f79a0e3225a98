-- What was sent, and what is pending.
use Rattle.std.proofs.Common.{◌≡◌, ◌++◌, [], length, map}
use Rattle.channel_rows.specs.Notices.{notice}
use Rattle.channel_rows.proofs.notices.tell_pending.Given as goal

abbrev pub invariant-loop-told : goal.invariant-loop-told
invariant-loop-told l = record {
  subs : record l.subs { pending = [] } ≡ record l.fn.subs { pending = [] };
  notices : l.notices.items ++ map notice l.subs.pending ≡ l.fn.notices.items ++ map notice l.fn.subs.pending;
}

abbrev pub decreases-loop-told : goal.decreases-loop-told
decreases-loop-told l = length l.subs.pending
