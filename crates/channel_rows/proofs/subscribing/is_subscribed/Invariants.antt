use Rattle.std.proofs.Common.{◌≡◌, drop}
use Rattle.subscribe_core.specs.Subscriptions.{has_sub}
use Rattle.channel_rows.proofs.subscribing.is_subscribed.Given as goal

abbrev pub invariant-loop-sub : goal.invariant-loop-sub
invariant-loop-sub l = has_sub l.channel (drop l.sub-index l.subs) ≡ has_sub l.channel l.subs
