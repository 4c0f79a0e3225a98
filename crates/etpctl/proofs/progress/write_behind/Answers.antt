use Rattle.std.proofs.Common.{subst}
use Rattle.etpctl.specs.Progress.{IsWritten}
use Rattle.etpctl.proofs.PieceLemmas.{piece_written, piece_lost}
use Rattle.etpctl.proofs.progress.write_behind.Goals as goal

pub returns-in-Done : goal.returns-in-Done
returns-in-Done g c = λ text held faults before.
    piece_written c.write_all.result text c.args.piece.now held (g.W.Sink.held c.args.errors.now) (g.W.Sink.held c.write_all.new.sink) faults (g.W.Sink.faults c.args.errors.now) (g.W.Sink.faults c.write_all.new.sink)
    (subst (λ w. IsWritten w text held (g.W.Sink.held c.args.errors.now) faults (g.W.Sink.faults c.args.errors.now)) c.in-Done.is before) c.write_all.ensures.bytes c.write_all.ensures.kept c.write_all.ensures.cause

pub returns-in-Failed : goal.returns-in-Failed
returns-in-Failed g c = λ text held faults before.
    piece_lost text c.args.piece.now held (g.W.Sink.held c.args.errors.now) faults (g.W.Sink.faults c.args.errors.now)
    (subst (λ w. IsWritten w text held (g.W.Sink.held c.args.errors.now) faults (g.W.Sink.faults c.args.errors.now)) c.in-Failed.is before)
