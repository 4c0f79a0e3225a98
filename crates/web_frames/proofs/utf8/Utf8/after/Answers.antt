use Rattle.std.proofs.Common.{drop, ◌+◌, Some, sym, ◌∙◌, ap}
use Rattle.web_frames.specs.Utf8.{after_bytes}
use Rattle.web_frames.proofs.Utf8Lemmas.{after_bytes-none, after_bytes-step, after_bytes-end}
use Rattle.web_frames.proofs.utf8.Utf8.after.Goals as goal

pub returns-in-None : goal.returns-in-None
returns-in-None c =
    sym (after_bytes-step (Some c.args.self) c.after_byte.result c.loop-byte.state c.args.piece.now c.loop-byte.byte-index c.loop-byte-test.true c.loop-byte.invariant c.after_byte.ensures
    ∙ ap (λ u. after_bytes u (drop (c.loop-byte.byte-index + 1) c.args.piece.now)) c.in-None.is
    ∙ after_bytes-none (drop (c.loop-byte.byte-index + 1) c.args.piece.now))

pub loop-byte-preserved : goal.loop-byte-preserved
loop-byte-preserved c =
    after_bytes-step (Some c.args.self) c.after_byte.result c.loop-byte.state c.args.piece.now c.loop-byte.byte-index c.loop-byte-test.true c.loop-byte.invariant c.after_byte.ensures
    ∙ ap (λ u. after_bytes u (drop (c.loop-byte.byte-index + 1) c.args.piece.now)) c.in-Some.is

pub returns : goal.returns
returns c = after_bytes-end (Some c.args.self) c.loop-byte.state c.args.piece.now c.loop-byte.byte-index c.loop-byte-test.false c.loop-byte.invariant
