use Rattle.std.proofs.Common.{◌≡◌, ◌++◌, map}
use Rattle.std.specs.Vec.Iter.{into_iter_items}
use Rattle.keyed_requests.specs.declared.sending.Sending.TheVariants.{Notice}
use Rattle.channel_rows.proofs.subscribing.with_notices.Given as goal

abbrev pub invariant-loop-message : goal.invariant-loop-message
invariant-loop-message l = l.all.items ++ map Notice (into_iter_items l.message-iterator) ≡ l.fn.sendings ++ map Notice l.fn.notices
