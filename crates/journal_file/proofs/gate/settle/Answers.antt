use Rattle.std.proofs.Common.{◌∙◌}
use Rattle.journal_disk.specs.Disks.{Holds}
use Rattle.journal_file.proofs.Pieces.{told_on, held_torn}
use Rattle.journal_file.proofs.gate.settle.Goals as goal

pub returns-in-Done-clause-left : goal.returns-in-Done-clause-left
returns-in-Done-clause-left g c = λ f is.
    let got = told_on (g.D.Disk.seen c.args.disk.now) (g.D.Disk.seen c.write_at.new.self) f (Holds c.args.at c.args.piece.now) is c.in-Done.ensures.seen in
    (got.0, c.bring.ensures.seen ∙ got.1, held_torn c.args.at c.args.piece.now f got.0 got.2)
