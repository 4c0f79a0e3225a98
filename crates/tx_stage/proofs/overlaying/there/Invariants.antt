use Rattle.std.proofs.Common.{◌≡◌, drop}
use Rattle.tx_stage.specs.Overlay.{there}
use Rattle.tx_stage.proofs.overlaying.there.Given as goal

abbrev pub invariant-loop-op : goal.invariant-loop-op
invariant-loop-op l = there (drop l.op-index l.ops) l.key l.stands ≡ there l.ops l.key l.fn.base
