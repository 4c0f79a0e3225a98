use Rattle.std.proofs.Common.{◌≡◌, drop}
use Rattle.tx_stage.specs.Overlay.{overlay}
use Rattle.tx_stage.proofs.overlaying.overlay.Given as goal

abbrev pub invariant-loop-op : goal.invariant-loop-op
invariant-loop-op l = overlay (drop l.op-index l.ops) l.key l.value ≡ overlay l.ops l.key l.fn.base
