use Rattle.tx_stage.proofs.OverlayLemmas.{overlay-next, overlay-there, refusal-same}
use Rattle.tx_stage.proofs.laws.overlay_laws.Goals as goal

pub returns : goal.returns
returns c = record { there = overlay-there; next = overlay-next; refusals = refusal-same }
