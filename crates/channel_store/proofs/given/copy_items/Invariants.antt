use Rattle.std.proofs.Common.{◌≡◌, ◌++◌, drop}
use Rattle.channel_store.proofs.given.copy_items.Given as goal

abbrev pub invariant-loop-item : goal.invariant-loop-item
invariant-loop-item l = l.copies.items ++ drop l.item-index l.items ≡ l.items
