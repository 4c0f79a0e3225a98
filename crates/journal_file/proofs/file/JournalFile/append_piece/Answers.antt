use Rattle.std.proofs.Common.{◌+◌, length, refl}
use Rattle.journal_file.proofs.AppendLemmas.{piece_left, piece_moment, piece_done}
use Rattle.journal_file.proofs.file.JournalFile.append_piece.Goals as goal

pub returns-in-Failed-clause-left : goal.returns-in-Failed-clause-left
returns-in-Failed-clause-left g c = λ more spelled.
    piece_left g.D.Disk.seen g.D.Disk.may_leave c.args.self.now (record { disk = c.open_gate.new.disk; gate = c.args.self.now.gate }) c.args.piece.now c.requires more spelled c.open_gate.ensures.left

pub returns-in-Failed-clause-any_moment : goal.returns-in-Failed-clause-any_moment
returns-in-Failed-clause-any_moment g c = λ more spelled.
    piece_moment g.D.Disk.seen g.D.Disk.may_leave c.args.self.now (record { disk = c.open_gate.new.disk; gate = c.args.self.now.gate }) c.args.piece.now c.requires more spelled g.D.Disk.moment g.D.Disk.left_since c.open_gate.ensures.any_moment

pub returns-in-Done-clause-ok : goal.returns-in-Done-clause-ok
returns-in-Done-clause-ok g c = λ more spelled.
    piece_done g.D.Disk.seen g.D.Disk.may_leave c.args.self.now (record { disk = c.open_gate.new.disk; gate = c.args.self.now.gate + length c.args.piece.now }) c.args.piece.now c.requires more spelled (c.open_gate.ensures.done c.in-Done.is) refl

pub returns-in-Done-clause-left : goal.returns-in-Done-clause-left
returns-in-Done-clause-left g c = λ more spelled.
    piece_left g.D.Disk.seen g.D.Disk.may_leave c.args.self.now (record { disk = c.open_gate.new.disk; gate = c.args.self.now.gate + length c.args.piece.now }) c.args.piece.now c.requires more spelled c.open_gate.ensures.left

pub returns-in-Done-clause-any_moment : goal.returns-in-Done-clause-any_moment
returns-in-Done-clause-any_moment g c = λ more spelled.
    piece_moment g.D.Disk.seen g.D.Disk.may_leave c.args.self.now (record { disk = c.open_gate.new.disk; gate = c.args.self.now.gate + length c.args.piece.now }) c.args.piece.now c.requires more spelled g.D.Disk.moment g.D.Disk.left_since c.open_gate.ensures.any_moment
