use Rattle.std.proofs.Common.{[], ◌∷◌}
use Rattle.capture_text.specs.Pieces.{hex_byte}
use Rattle.capture_text.proofs.WritingLemmas.{writes_after}
use Rattle.capture_text.proofs.pieces.put_escape.Goals as goal

pub returns : goal.returns
returns c = writes_after (92 ∷ 120 ∷ []) (hex_byte c.args.byte) c.args.into.now.items c.put.new.into.items c.put_hex_byte.new.into.items c.put_hex_byte.result c.in_ok-put.ensures c.put_hex_byte.ensures
