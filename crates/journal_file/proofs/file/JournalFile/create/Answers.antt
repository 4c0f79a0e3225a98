use Rattle.std.proofs.Common.{[], refl}
use Rattle.journal_file.proofs.AppendLemmas.{made, begun_left, begun_moment}
use Rattle.journal_file.proofs.file.JournalFile.create.Goals as goal

pub returns-in-Done-clause-made : goal.returns-in-Done-clause-made
returns-in-Done-clause-made g c = λ empty.
    let got = c.settle.ensures.done c.in-Done.is [] empty in
    made g.D.Disk.seen g.D.Disk.may_leave c.args.id c.file_start-bytes.result got.0 (record { disk = c.settle.new.disk; gate = 24 }) c.file_start-bytes.ensures.bytes c.file_start-bytes.ensures.size got.1 got.2 refl

pub returns-in-Failed-clause-left : goal.returns-in-Failed-clause-left
returns-in-Failed-clause-left g c = λ empty.
    begun_left g.D.Disk.seen c.args.id c.file_start-bytes.result c.settle.new.disk c.file_start-bytes.ensures.bytes c.file_start-bytes.ensures.size (c.settle.ensures.left [] empty)

pub returns-in-Failed-clause-any_moment_err : goal.returns-in-Failed-clause-any_moment_err
returns-in-Failed-clause-any_moment_err g c = λ kept.
    begun_moment g.D.Disk.moment g.D.Disk.left_since c.args.id c.file_start-bytes.result c.args.disk c.settle.new.disk c.file_start-bytes.ensures.bytes c.file_start-bytes.ensures.size
    (c.settle.ensures.any_moment [] kept)

pub returns-in-Done-clause-any_moment : goal.returns-in-Done-clause-any_moment
returns-in-Done-clause-any_moment g c = λ kept.
    begun_moment g.D.Disk.moment g.D.Disk.left_since c.args.id c.file_start-bytes.result c.args.disk c.settle.new.disk c.file_start-bytes.ensures.bytes c.file_start-bytes.ensures.size
    (c.settle.ensures.any_moment [] kept)
