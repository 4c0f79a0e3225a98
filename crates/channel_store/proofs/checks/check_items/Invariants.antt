use Rattle.std.proofs.Common.{◌≡◌, drop}
use Rattle.channel_store.specs.Refusals.{first_refusal}
use Rattle.channel_store.specs.Sweeps.{item_refusal_in}
use Rattle.channel_store.proofs.checks.check_items.Given as goal

abbrev pub invariant-loop-item : goal.invariant-loop-item
invariant-loop-item l = first_refusal (item_refusal_in l.tracks) (drop l.item-index l.items) ≡ first_refusal (item_refusal_in l.tracks) l.items
