use Rattle.std.proofs.Common.{◌≡◌, ◌++◌, drop}
use Rattle.channel_rows.proofs.subscriptions.subs_copy.Given as goal

abbrev pub invariant-loop-sub : goal.invariant-loop-sub
invariant-loop-sub l = l.copies.items ++ drop l.sub-index l.subs ≡ l.subs
