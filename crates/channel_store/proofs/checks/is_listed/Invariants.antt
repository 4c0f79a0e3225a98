use Rattle.std.proofs.Common.{◌≡◌, drop}
use Rattle.channel_store.specs.Refusals.{is_listed}
use Rattle.channel_store.proofs.checks.is_listed.Given as goal

abbrev pub invariant-loop-other : goal.invariant-loop-other
invariant-loop-other l = is_listed (drop l.other-index l.ids) l.id ≡ is_listed l.ids l.id
