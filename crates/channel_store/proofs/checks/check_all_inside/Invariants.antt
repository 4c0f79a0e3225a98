use Rattle.std.proofs.Common.{◌≡◌, drop}
use Rattle.channel_store.specs.Refusals.{first_refusal}
use Rattle.channel_store.specs.Sweeps.{inside_refusal_in}
use Rattle.channel_store.proofs.checks.check_all_inside.Given as goal

abbrev pub invariant-loop-item : goal.invariant-loop-item
invariant-loop-item l = first_refusal (inside_refusal_in l.tracks l.from l.to) (drop l.item-index l.items) ≡ first_refusal (inside_refusal_in l.tracks l.from l.to) l.items
