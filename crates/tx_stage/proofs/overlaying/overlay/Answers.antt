use Rattle.std.proofs.Common.{◌∙◌, arith}
use Rattle.tx_stage.proofs.OverlayLemmas.{overlay-goes}
use Rattle.tx_stage.proofs.overlaying.overlay.Goals as goal

pub loop-op-preserved : goal.loop-op-preserved
loop-op-preserved c =
    overlay-goes c.args.ops.now c.loop-op.op-index c.op-item.result c.args.key.now c.loop-op.value c.in_ok-next.next (omega arith) c.op-item.is c.in_ok-next.ensures ∙ c.loop-op.invariant
